-- A seat comes to the table with a waker that is lent to it.
use Rattle.std.proofs.Common.{◌≡◌, ℕ, Bool, true, false, None, subst, List, [], ◌∷◌, ◌++◌, length, get_or, set, sym, refl, ap, ◌∙◌, arith}
use mathlib.Core.Option.{none, some}
use lib.ListN.{get_elem?}
use Rattle.atomic_table.specs.Table.{State as Board, Me, Enters, step}
use Rattle.atomic_table.proofs.Lists.{at_last}
use Rattle.task_steps.proofs.Vocabulary.{CallEnds, Nothing, At, Lent, Look, WakeOver, EndCall, Act, Outcome, leaves_slots, Machine, scene, owns_awaiter, TaskPlace, State, View, state_of, state_of_number_of}
use Rattle.task_steps.specs.Values.{Values}
use Rattle.task_steps.specs.Rule.{deed, view, fresh, trying, found_by, lender, has_work, HomesAgree, RuleHolds}
use Rattle.task_steps.specs.Attempts.{tries_after, observed}
use Rattle.task_steps.specs.Knows.{Knows}
use Rattle.task_steps.specs.Steps.{Makes}
use Rattle.task_steps.specs.WakerScripts.{is_over, to_wake}
use Rattle.task_steps.proofs.Allowed.{noted_only}
use Rattle.task_steps.proofs.Attempts.{has_seen, same_words}
use Rattle.task_steps.proofs.Known.{knows_now}
use Rattle.task_steps.proofs.WakerOwed.{wake_keeps}
use Rattle.task_steps.proofs.Explains.{next_machine, joined_by}
use Rattle.task_steps.proofs.Facts.{law, low, many_next}
use Rattle.task_steps.proofs.Seats.{retold}
use Rattle.task_core.specs.Word.{HasRoom}

-- the lender stays at rest, and adds a lent waker
abbrev lent_by : Machine → Outcome
lent_by m = leaves_slots (scene m) m.word (At Lent) (At Lent ∷ []) (CallEnds Nothing ∷ [])

-- another element at the end of a list
set_last : {X : Type 0} (l : List X) (a b : X) → set (l ++ a ∷ []) (length l) b ≡ l ++ b ∷ []
set_last [] a b = refl
set_last (x ∷ xs) a b = λ i. x ∷ set_last xs a b i

module _ (F T A : Type 0) (values : Values F T) (limit : ℕ) where
  abbrev B : Type 0
  B = Board (TaskPlace F T A) View

  abbrev Rule : B → Type 0
  Rule = RuleHolds {A = A} values limit

  abbrev came : View → Me (TaskPlace F T A) View
  came w = (w, [])

  -- no place changes
  still_housed : (m : Machine) (homes : List _) → get_elem? m.parties lender ≡ some (At Lent) → HomesAgree {A = A} values m homes → HomesAgree {A = A} values (next_machine m lender (At Lent) (lent_by m)) homes
  still_housed m homes lent h = let works = many_next has_work m.parties lender (At Lent) (At Lent) (At Lent ∷ []) lent in let owners = many_next owns_awaiter m.parties lender (At Lent) (At Lent) (At Lent ∷ []) lent in record {
    work = λ n. h.work (omega arith);
    awaiter = λ n. h.awaiter (omega arith);
  }

  -- whoever reads the word may have a lent waker
  pub enters : (slots : ℕ) → Enters Rule slots 0 (λ n w. (came w ≡ came (view limit (fresh (At Lent) ∷ []))) × HasRoom (state_of n))
  enters slots s r homes fits = let run = r.running in let m : Machine = run.machine in let w : View = view limit (fresh (At Lent) ∷ []) in let N : Machine = next_machine m lender (At Lent) (lent_by m) in (
    w,
    retold F T A values limit s r.capped run (s.views ++ w ∷ []) (record { party = lender; deed = deed Look (found_by Look m.word); parties = length m.parties } ∷ run.log) N
        (joined_by limit s.views run.log m Look (At Lent) (lent_by m) run.told refl refl refl) refl run.limited (still_housed m s.homes run.told.lends run.housed),
    (
      refl,
      subst HasRoom (sym (state_of_number_of m.word) ∙ ap state_of (sym run.word_is)) (let h = low m (law limit run.log m run.told.reaches) in let e = run.limited in let c = r.capped in omega arith),
    ),
  )

  -- whoever reads the word for a wake may have a lent waker, and the wake has ended where the task is over
  pub wakes_anew : Enters Rule 2 0 (λ n w. observed values to_wake (step 2 0 0 0 none) (came (view limit (fresh (At Lent) ∷ []))) n (came w))
  wakes_anew s r homes fits = by (is_over limit (state_of n)) refl
    where
      n : ℕ
      n = get_or s.words 0 0

      id : ℕ
      id = length s.views

      lent : View
      lent = view limit (fresh (At Lent) ∷ [])

      acts : List Act
      acts = WakeOver ∷ EndCall ∷ []

      board : View → B
      board w = record { words = s.words; homes = s.homes; views = s.views ++ w ∷ [] }

      here : Rule (board lent)
      here = let e = enters 2 s r homes fits in subst (λ (w : View). Rule (board w)) (ap (λ (m : Me (TaskPlace F T A) View). m.0) e.2.0) e.1

      at : get_elem? (s.views ++ lent ∷ []) id ≡ some lent
      at = at_last s.views lent id refl

      last : (w : View) → Rule record { words = set s.words 0 n; homes = s.homes; views = set (s.views ++ lent ∷ []) id w } → Rule (board w)
      last w = subst (λ (z : List ℕ × List View). Rule record { words = z.0; homes = s.homes; views = z.1 }) (λ i. (same_words s.words i, set_last s.views lent w i))

      knows : Knows [] (state_of n)
      knows = knows_now F T A values limit (board lent) id (came lent) limit (At Lent) [] None [] refl here at

      differs : {P : Type 0} (b : Bool) → b ≡ true → b ≡ false → P
      differs b e f = absurd (cc)

      by : (b : Bool) → is_over limit (state_of n) ≡ b → (w : View) × Rule (board w) × observed values to_wake (step 2 0 0 0 none) (came lent) n (came w)
      by true over = let run = here.running in let m : Machine = run.machine in let same : m.word ≡ state_of n = sym (ap state_of run.word_is ∙ state_of_number_of m.word) in
          let k = wake_keeps limit m (ap (is_over limit) same ∙ over) in
          let a = noted_only F T A values limit (board lent) here.capped run id (came lent) limit (At Lent) [] [] acts at refl homes k.outcome k.leads_to k.word_is k.places_are in (
            a.0,
            last a.0 a.1,
            ((λ _. subst (λ (w : State). Makes values acts w (came lent) (came a.0)) same a.2), (λ no. differs (is_over limit (state_of n)) over no), knows),
          )
      by false is = let w : View = view limit (trying (At Lent) [] (tries_after (state_of n) None) ∷ []) in (
        w,
        last w (has_seen F T A values limit (board lent) id limit (At Lent) [] None [] here at),
        ((λ yes. differs (is_over limit (state_of n)) yes is), (λ _. refl), knows),
      )
