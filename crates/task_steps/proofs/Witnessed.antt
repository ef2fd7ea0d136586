-- The rule tells a party of its interleaving, where nothing changes.
use Rattle.std.proofs.Common.{◌≡◌, ℕ, ◌<◌, List, [], ◌∷◌, get_or, set, length, sym, ap, ◌∙◌, subst, refl, arith}
use mathlib.Core.Option.{some, none}
use lib.ListN.{get_elem?}
use Rattle.atomic_table.specs.Table.{State as Board, Me, step, keeps, stepped, Allows}
use Rattle.atomic_table.proofs.Lists.{set_again, at_index}
use Rattle.counted_block.specs.Counts.{Notes}
use Rattle.task_steps.proofs.Vocabulary.{Member, TaskPlace, View, laws_of, state_of, state_of_number_of}
use Rattle.task_steps.specs.Values.{Values}
use Rattle.task_steps.specs.Rule.{Running, RuleHolds}
use Rattle.task_steps.specs.Steps.{head_of}
use Rattle.task_steps.specs.Witness.{Witness, witnessed}
use Rattle.task_steps.proofs.Explains.{runs}
use Rattle.task_steps.proofs.Facts.{law}

-- the first of some, whatever stands in for it where there is none
same_or : (l : List ℕ) (n k : ℕ) → 0 < length l → get_or l 0 n ≡ get_or l 0 k
same_or [] n k deep = absurd (omega arith)
same_or (x ∷ l) n k deep = refl

module _ (F T A : Type 0) (values : Values F T) (limit : ℕ) where
  abbrev B : Type 0
  B = Board (TaskPlace F T A) View

  abbrev Rule : B → Type 0
  Rule = RuleHolds {A = A} values limit

  -- a party of a seat finds itself in the interleaving
  pub tells : (s : B) (run : Running {A = A} values limit s) (id : ℕ) (v : View) (u : Member) (us : List Member) → get_elem? s.views id ≡ some v → v.members ≡ u ∷ us → Witness v.limit (state_of (get_or s.words 0 0)) u.at u.deeds
  tells s run id v u us at is = let first = ap (λ l. get_elem? l 0) is in let k = run.told.each id 0 v u at first in
      subst (λ (l : ℕ). Witness l (state_of (get_or s.words 0 0)) u.at u.deeds) (sym (run.told.limited id 0 v u at first)) (record {
        machine = run.machine;
        log = run.log;
        reached = run.told.reaches;
        ran = runs limit run.log run.machine run.told.reaches;
        laws = laws_of run.machine (law limit run.log run.machine run.told.reaches);
        word_is = ap state_of run.word_is ∙ state_of_number_of run.machine.word;
        number = k.0;
        did = k.1.did;
        stands = k.1.at;
      })

  -- nothing is written, and no view changes
  same_words : (s : B) → Running {A = A} values limit s → set s.words 0 (get_or s.words 0 0) ≡ s.words
  same_words s run = let deep : 0 < length s.words = let w = run.wide in omega arith in set_again s.words 0 (get_or s.words 0 0) (at_index s.words 0 (get_or s.words 0 0) deep (same_or s.words 0 (get_or s.words 0 0) deep))

  unchanged : (s : B) (id : ℕ) (me : Me (TaskPlace F T A) View) → Running {A = A} values limit s → get_elem? s.views id ≡ some me.0 → stepped s 0 (get_or s.words 0 0) id me.1 me.0 keeps ≡ s
  unchanged s id me run at = λ i. record { words = same_words s run i; homes = s.homes; views = set_again s.views id me.0 at i }

  told : (s : B) (id : ℕ) (me : Me (TaskPlace F T A) View) (u : Member) (us : List Member) → me.0.members ≡ u ∷ us → Rule s → get_elem? s.views id ≡ some me.0 → witnessed (step 2 0 0 0 none) me (get_or s.words 0 0) me
  told s id me u us is r at = (refl, subst (λ (x : Member). Witness me.0.limit (state_of (get_or s.words 0 0)) x.at x.deeds) (sym (ap head_of is)) (tells s r.running id me.0 u us at is))

  -- so a load tells it
  pub may_witness : (id : ℕ) (me : Me (TaskPlace F T A) View) (u : Member) (us : List Member) → me.0.members ≡ u ∷ us → Allows Rule 2 id me 0 (λ n. n) (witnessed (step 2 0 0 0 none) me)
  may_witness id me u us is s r deep at fits = (me.0, keeps, tt, subst Rule (sym (unchanged s id me r.running at)) r, told s id me u us is r at)

  -- a note, which is no step, may tell it
  pub may_note_witness : (id : ℕ) (me : Me (TaskPlace F T A) View) (u : Member) (us : List Member) → me.0.members ≡ u ∷ us → Notes Rule id me (witnessed (step 2 0 0 0 none) me)
  may_note_witness id me u us is s r two at fits = (me.0, subst Rule (sym (unchanged s id me r.running at)) r, told s id me u us is r at)
