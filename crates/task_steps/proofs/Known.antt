-- The steps of the table that tell what their party knows of the word that it finds.
use Rattle.std.proofs.Common.{◌≡◌, ℕ, ◌<◌, Option, None, List, ◌∷◌, get_or, sym, ap, ◌∙◌, subst, arith}
use mathlib.Core.Option.{some}
use lib.ListN.{get_elem?}
use Rattle.atomic_table.specs.Table.{State as Board, Me, Allows}
use Rattle.task_steps.proofs.Vocabulary.{State, state_of, Position, Act, Machine, state_of_number_of, TaskPlace, Deed, Member, View, Tries}
use Rattle.task_steps.specs.Values.{Values}
use Rattle.task_steps.specs.Rule.{member, trying, view, Running, RuleHolds}
use Rattle.task_steps.specs.Steps.{head_of, Makes}
use Rattle.task_steps.specs.Knows.{Knows}
use Rattle.task_steps.proofs.Facts.{law, low}
use Rattle.task_steps.proofs.Seen.{over_stays, closed_stays, ended_stays}
use Rattle.counted_block.specs.Counts.{Notes}
use Rattle.task_steps.proofs.Advance.{Finds}
use Rattle.task_steps.proofs.Computed.{Keeps}
use Rattle.task_steps.proofs.Allowed.{Owes, finds, noted_only, steps_always}

-- what a party owes that makes these private acts, whatever it finds: they keep the word and the places
abbrev pub OwesNote : ℕ → List Act → Position → List Deed → List Member → Type 0
OwesNote limit acts p ds us = (m : Machine) → Finds limit p ds us m → Keeps m p acts

module _ (F T A : Type 0) (values : Values F T) (limit : ℕ) where
  abbrev M : Type 0
  M = Me (TaskPlace F T A) View

  abbrev B : Type 0
  B = Board (TaskPlace F T A) View

  -- what the first party of a seat knows of the word that stands
  knows : (s : B) (r : Running {A = A} values limit s) (id : ℕ) (v : View) (l : ℕ) (p : Position) (ds : List Deed) (t : Option Tries) (us : List Member) → limit < 36028797018963968
      → get_elem? s.views id ≡ some v → v ≡ view l (trying p ds t ∷ us) → Knows ds r.machine.word
  knows s r id v l p ds t us capped at is = let k = r.told.each id 0 v (trying p ds t) at (ap (λ (w : View). get_elem? w.members 0) is) in record {
    over = λ e. over_stays limit k.0 r.log r.machine ds r.told.reaches k.1.did e;
    closed = λ e. closed_stays limit k.0 r.log r.machine ds r.told.reaches k.1.did e;
    ended = λ e. ended_stays limit k.0 r.log r.machine ds r.told.reaches k.1.did e;
    room = (let h = low r.machine (law limit r.log r.machine r.told.reaches) in let e = r.limited in omega arith);
  }

  pub knows_now : (s : B) (id : ℕ) (me : M) (l : ℕ) (p : Position) (ds : List Deed) (t : Option Tries) (us : List Member) → me.0 ≡ view l (trying p ds t ∷ us) → RuleHolds {A = A} values limit s → get_elem? s.views id ≡ some me.0
      → Knows (head_of me.0.members).deeds (state_of (get_or s.words 0 0))
  knows_now s id me l p ds t us is r at = let run = r.running in
      let same : run.machine.word ≡ state_of (get_or s.words 0 0) = sym (ap state_of run.word_is ∙ state_of_number_of run.machine.word) in
      subst (λ (z : State × List Deed). Knows z.1 z.0) (λ i. (same i, sym (ap (λ (w : View). (head_of w.members).deeds) is) i)) (knows s run id me.0 l p ds t us r.capped at is)

  -- a load, a fetch or a store that tells it
  pub steps_knowing : (slots id : ℕ) (me : M) (l : ℕ) (p : Position) (ds : List Deed) (us : List Member) (acts : State → List Act) (write : ℕ → ℕ) → slots ≡ 2
      → me.0 ≡ view l (member p ds ∷ us) → Owes F T A values limit acts write p ds us me.1
      → Allows (RuleHolds {A = A} values limit) slots id me 0 write (λ r m. Makes values (acts (state_of r)) (state_of r) me m × Knows (head_of me.0.members).deeds (state_of r))
  steps_knowing slots id me l p ds us acts write two is owes s r deep at fits = let o = steps_always F T A values limit slots id me l p ds us acts write two is owes s r deep at fits in
      (o.0, o.1, o.2, o.3, (o.4, knows_now s id me l p ds None us is r at))

  -- a party may note its private acts without a step
  pub may_note : (id : ℕ) (me : M) (l : ℕ) (p : Position) (ds : List Deed) (us : List Member) (acts : List Act) → me.0 ≡ view l (member p ds ∷ us) → OwesNote limit acts p ds us
      → Notes (RuleHolds {A = A} values limit) id me (λ n m. Makes values acts (state_of n) me m × Knows (head_of me.0.members).deeds (state_of n))
  may_note id me l p ds us acts is owes s r two at fits = let run = r.running in let f = finds F T A values limit s r.capped run id me.0 l p ds us at is in let n = owes run.machine f in
      let a = noted_only F T A values limit s r.capped run id me l p ds us acts at is two n.outcome n.leads_to n.word_is n.places_are in
      let same : run.machine.word ≡ state_of (get_or s.words 0 0) = sym (ap state_of run.word_is ∙ state_of_number_of run.machine.word) in
      (a.0, a.1, (subst (λ (w : State). Makes values acts w me (a.0, me.1)) same a.2, knows_now s id me l p ds None us is r at))
