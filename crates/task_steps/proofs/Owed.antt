-- What each step owes: the machine allows its acts, and writes its number.
use Rattle.std.proofs.Common.{◌≡◌, ℕ, ◌≤◌, Bool, true, false, List, [], ◌∷◌, refl, ap, ◌∙◌, inr, arith}
use Rattle.std.specs.Prelude.{bit_and}
use Rattle.atomic_table.specs.Table.{rest}
use Rattle.task_steps.proofs.Vocabulary.{State, state_of, number_of, Event, At, FutureGone, Task, ClosedRun, DroppedRunnable, WithoutPoll, OfRun, OfDrop, Slots, notifies, Census, census}
use Rattle.task_steps.proofs.Vocabulary.{owns_awaiter, Holds, Unschedule, state_of_number_of, fetch_and-scheduled, TaskPlace, Empty, Deed, Member}
use Rattle.task_steps.specs.Values.{Values}
use Rattle.task_steps.specs.Rule.{has_work, Lies}
use Rattle.task_steps.specs.Steps.{work_first}
use Rattle.task_steps.specs.TaskScripts.{looking_finished}
use Rattle.task_steps.specs.RunScripts.{unscheduling}
use Rattle.task_steps.proofs.Facts.{counted}
use Rattle.task_steps.proofs.Advance.{Steps, gives_work, lies_nowhere}
use Rattle.task_steps.proofs.Computed.{by_table, computed}
use Rattle.task_steps.proofs.Allowed.{Owes}

-- the rest of a run or a drop has no place of the table
idle_run : (b : Bool) → (has_work (notifies b OfRun) ≡ false) × (owns_awaiter (notifies b OfRun) ≡ false)
idle_run true = (refl, refl)
idle_run false = (refl, refl)

idle_drop : (b : Bool) → (has_work (notifies b OfDrop) ≡ false) × (owns_awaiter (notifies b OfDrop) ≡ false)
idle_drop true = (refl, refl)
idle_drop false = (refl, refl)

module _ (F T A : Type 0) (values : Values F T) (limit : ℕ) where
  pub looks_finished : (n : ℕ) (ds : List Deed) (us : List Member) (l : List (ℕ × TaskPlace F T A)) → Owes F T A values limit looking_finished (λ n. n) (At (Task n)) ds us l
  looks_finished n ds us l m f x e lt = computed m refl e refl

  -- whoever has dropped the future unpolled has the only thing that is left of the work
  nothing_left : (limit : ℕ) (w : State) (slots : Slots) (t : List Event) (c : Census) → Holds limit w slots t c → 1 ≤ c.gone → (slots.future ≡ false) × (slots.output ≡ false)
  nothing_left limit w slots t c h e = (grind arith, grind arith)

  pub unschedules : (closer : WithoutPoll) (ds : List Deed) (us : List Member) (l : List (ℕ × TaskPlace F T A)) → l ≡ work_first Empty (rest l) → Owes F T A values limit unscheduling (λ n. bit_and n 18446744073709551614) (FutureGone closer) ds us l
  unschedules closer ds us l has m f x e lt = by closer
    where
      clears : bit_and x 18446744073709551614 ≡ number_of (record (m.word) { scheduled = false })
      clears = fetch_and-scheduled x lt ∙ ap (λ (w : State). number_of (record w { scheduled = false })) (ap state_of e ∙ state_of_number_of m.word)

      none : Lies values m.slots.future m.slots.output Empty
      none = let left = nothing_left m.limit m.word m.slots m.trace (census m.parties) f.invariant.holds (counted (λ c. c.gone) (λ a b. refl) m.parties f.number (FutureGone closer) f.stands) in lies_nowhere F T values m.slots left.0 left.1

      by : (c : WithoutPoll) → Steps values m (FutureGone c) (Unschedule ∷ []) (bit_and x 18446744073709551614) l
      by ClosedRun = let i = idle_run m.word.awaiter in by_table m refl clears (refl, refl) (gives_work Empty refl i.0 i.1 (inr refl) has none)
      by DroppedRunnable = let i = idle_drop m.word.awaiter in by_table m refl clears (refl, refl) (gives_work Empty refl i.0 i.1 (inr refl) has none)
