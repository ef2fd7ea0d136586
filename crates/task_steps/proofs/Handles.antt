-- What the acts of each step do to the handles that the word counts.
use Rattle.std.proofs.Common.{◌≡◌, ℕ, ◌+◌, ◌-◌, ◌≤◌, Bool, true, false, not, ◌&&◌, eqb, eq-eqb, ne_eqb, Option, List, [], ◌∷◌, inl, inr, refl, sym, ap, arith}
use Rattle.std.specs.Prelude.{nat_lt, nat_eq, if◌then◌else◌}
use Rattle.std.proofs.lemmas.Bool.Decides.{nat_tests}
use Rattle.task_core.specs.Rows.{found}
use Rattle.task_steps.proofs.Vocabulary.{WakeRunning, WakeIdle, CancelIdle, EndCall, Detach, DetachLast, DetachOrphan, GiveUpReference, GiveUpLastReference}
use Rattle.task_steps.proofs.Vocabulary.{State, bit, is_open, Event, Answer, Rest, Waker, Task, At, GivingUp, Detacher, Pending, Slots, Machine, census, Census, Holds, Deed, Member}
use Rattle.task_steps.specs.Values.{Values}
use Rattle.task_steps.specs.WakerScripts.{waking_task, brings_runnable, to_gain, to_wake, others_left, dropped_by, dropping_as, dropping_waker, ends_waker}
use Rattle.task_steps.specs.declared.found.Dropped.{Dropped}
use Rattle.task_steps.specs.declared.found.Dropped.TheVariants.{Shared as DroppedShared, Last as DroppedLast, Orphaned as DroppedOrphan}
use Rattle.task_steps.specs.TaskScripts.{closing, brings_share, detaching, ends_task, ends_last, to_cancel, to_detach, giving_task_up}
use Rattle.task_steps.specs.RunScripts.{giving_up, ending_pending, ends_run, to_end_pending}
use Rattle.task_steps.specs.declared.found.Cancelled.{Cancelled}
use Rattle.task_steps.specs.declared.found.Cancelled.TheVariants.{Busy, Idle as Closed}
use Rattle.task_steps.specs.declared.found.Detached.{Detached}
use Rattle.task_steps.specs.declared.found.Detached.TheVariants.{Unclaimed, Shared, Last, Orphaned as OrphanedTask}
use Rattle.task_steps.specs.declared.found.Woken.{Woken}
use Rattle.task_steps.specs.declared.found.Woken.TheVariants.{Scheduled, Running, Idle}
use Rattle.task_steps.specs.declared.found.PendingEnd.{PendingEnd}
use Rattle.task_steps.specs.declared.found.PendingEnd.TheVariants.{Rescheduled, Idle as EndsIdle, Orphaned}
use Rattle.task_steps.specs.Attempt.{word_after}
use Rattle.task_steps.specs.Shares.{has_references}
use Rattle.task_steps.proofs.Facts.{counted}
use Rattle.task_steps.proofs.Advance.{Finds}
use Rattle.task_steps.proofs.Seen.{left_true}
use Rattle.task_steps.proofs.Shares.{shares_of, Brings, Parts, Gives, Moves}
use Rattle.task_steps.proofs.TaskOwed.{has_task}

one_if : (b : Bool) → b ≡ true → bit b ≡ 1
one_if b e = ap bit e

none_if : (b : Bool) → b ≡ false → bit b ≡ 0
none_if b e = ap bit e

-- no handle is left, or some are
none_after : (n : ℕ) → n ≡ 0 → true ≡ eqb n 0
none_after n e = sym (eq-eqb n 0 e)

some_after : (n : ℕ) → 1 ≤ n → false ≡ eqb n 0
some_after n h = sym (ne_eqb n 0 (λ e. omega (arith, h, e)))

others_one : (w : State) → others_left w ≡ true → 1 ≤ w.references → 2 ≤ w.references + bit w.task
others_one w e h = grind (arith, nat_tests)

others_none : (w : State) → others_left w ≡ false → w.references + bit w.task ≤ 1
others_none w e = grind (arith, nat_tests)

some_references : (w : State) → nat_lt 0 w.references ≡ true → 1 ≤ w.references
some_references w e = grind (arith, nat_tests)

no_references : (w : State) → nat_lt 0 w.references ≡ false → w.references ≡ 0
no_references w e = grind (arith, nat_tests)

zero_references : (w : State) → nat_eq w.references 0 ≡ true → w.references ≡ 0
zero_references w e = grind (arith, nat_tests)

waker_held : (limit : ℕ) (w : State) (slots : Slots) (t : List Event) (c : Census) → Holds limit w slots t c → 1 ≤ c.wakers → 1 ≤ w.references
waker_held limit w slots t c h e = grind arith

finishing_held : (limit : ℕ) (w : State) (slots : Slots) (t : List Event) (c : Census) → Holds limit w slots t c → 1 ≤ c.finishing → 1 ≤ w.references
finishing_held limit w slots t c h e = grind arith

pending_held : (limit : ℕ) (w : State) (slots : Slots) (t : List Event) (c : Census) → Holds limit w slots t c → 1 ≤ c.pending → 1 ≤ w.references
pending_held limit w slots t c h e = grind arith

module _ (limit : ℕ) where
  finds_task : (n : ℕ) (ds : List Deed) (us : List Member) (m : Machine) → Finds limit (At (Task n)) ds us m → bit m.word.task ≡ 1
  finds_task n ds us m f = one_if m.word.task (has_task m.limit m.word m.slots m.trace (census m.parties) f.invariant.holds (counted (λ c. c.tasks) (λ a b. refl) m.parties f.number (At (Task n)) f.stands))

  finds_detacher : (ds : List Deed) (us : List Member) (m : Machine) → Finds limit Detacher ds us m → bit m.word.task ≡ 1
  finds_detacher ds us m f = one_if m.word.task (has_task m.limit m.word m.slots m.trace (census m.parties) f.invariant.holds (counted (λ c. c.tasks) (λ a b. refl) m.parties f.number Detacher f.stands))

  finds_waker : (ds : List Deed) (us : List Member) (m : Machine) → Finds limit (At Waker) ds us m → 1 ≤ m.word.references
  finds_waker ds us m f = waker_held m.limit m.word m.slots m.trace (census m.parties) f.invariant.holds (counted (λ c. c.wakers) (λ a b. refl) m.parties f.number (At Waker) f.stands)

  finds_rest : (hand : Option ℕ) (answer : Answer) (ds : List Deed) (us : List Member) (m : Machine) → Finds limit (GivingUp hand answer) ds us m → 1 ≤ m.word.references
  finds_rest hand answer ds us m f = finishing_held m.limit m.word m.slots m.trace (census m.parties) f.invariant.holds (counted (λ c. c.finishing) (λ a b. refl) m.parties f.number (GivingUp hand answer) f.stands)

  finds_run : (ds : List Deed) (us : List Member) (m : Machine) → Finds limit Pending ds us m → 1 ≤ m.word.references
  finds_run ds us m f = pending_held m.limit m.word m.slots m.trace (census m.parties) f.invariant.holds (counted (λ c. c.pending) (λ a b. refl) m.parties f.number Pending f.stands)

  -- a reference more for a new waker
  pub gains_handle : (r : Rest) (ds : List Deed) (us : List Member) (F T A : Type 0) (values : Values F T) → Moves F T A values limit (λ b _. Brings b) to_gain (At r) ds us
  gains_handle r ds us F T A values m f applied = inr (refl, omega arith)

  -- a wake of an idle task makes a Runnable
  pub wakes_task : (r : Rest) (ds : List Deed) (us : List Member) (F T A : Type 0) (values : Values F T) → Moves F T A values limit (λ b _. Brings b) to_wake (At r) ds us
  wakes_task r ds us F T A values m f applied = by (found 0 WakeIdle m.word) (found 0 WakeRunning m.word)
    where
      by : (a b : Bool) → let row : Woken = if a then Idle else (if b then Running else Scheduled) in Brings (brings_runnable row) (shares_of m.word) (shares_of (word_after m.word (waking_task row)))
      by true b = inr (refl, omega arith)
      by false true = inl (refl, refl)
      by false false = inl (refl, refl)

  -- a cancel of an idle task makes a Runnable
  pub cancels_task : (n : ℕ) (ds : List Deed) (us : List Member) (F T A : Type 0) (values : Values F T) → Moves F T A values limit (λ b _. Brings b) to_cancel (At (Task n)) ds us
  cancels_task n ds us F T A values m f applied = by (found 0 CancelIdle m.word)
    where
      by : (b : Bool) → let row : Cancelled = if b then Closed m.word.awaiter else Busy m.word.awaiter in Brings (brings_share row) (shares_of m.word) (shares_of (word_after m.word (closing row)))
      by true = inr (refl, omega arith)
      by false = inl (refl, refl)

  -- a run of an open task that ends
  pub ends_open : (ds : List Deed) (us : List Member) (F T A : Type 0) (values : Values F T) → Moves F T A values limit Gives to_end_pending Pending ds us
  ends_open ds us F T A values m f applied = by m.word.scheduled (others_left m.word) refl refl
    where
      some : 1 ≤ m.word.references
      some = finds_run ds us m f

      by : (s d : Bool) → m.word.scheduled ≡ s → others_left m.word ≡ d → let row : PendingEnd = if s then Rescheduled else (if d then EndsIdle else Orphaned) in Gives (ends_run row) false (shares_of m.word) (shares_of (word_after m.word (ending_pending row)))
      by true d h k = inl (refl, refl)
      by false true h k = let one = some in let two = others_one m.word k one in inr (refl, omega arith, some_after (m.word.references - 1 + bit m.word.task) (omega arith))
      by false false h k = let one = some in let most = others_none m.word k in inl (refl, omega arith)

  -- a Task that is given up
  pub detaches_task : (n : ℕ) (ds : List Deed) (us : List Member) (F T A : Type 0) (values : Values F T) → Moves F T A values limit Gives to_detach (At (Task n)) ds us
  detaches_task n ds us F T A values m f applied = by (found 0 Detach m.word) (found 0 DetachLast m.word) (found 0 DetachOrphan m.word) refl refl refl
    where
      task : bit m.word.task ≡ 1
      task = finds_task n ds us m f

      by : (a b c : Bool) → found 0 Detach m.word ≡ a → found 0 DetachLast m.word ≡ b → found 0 DetachOrphan m.word ≡ c
          → let row : Detached = if a then Shared else (if b then Last else (if c then OrphanedTask else Unclaimed)) in Gives (ends_task row) (ends_last row) (shares_of m.word) (shares_of (word_after m.word (detaching row)))
      by true b c fit x y = let t = task in let some = some_references m.word (left_true _ (not (m.word.completed && not m.word.closed)) fit) in inr (refl, omega arith, some_after (m.word.references + 0) (omega arith))
      by false true c x fit y = let t = task in let none = zero_references m.word (left_true _ m.word.closed fit) in inr (refl, omega arith, none_after (m.word.references + 0) (omega arith))
      by false false true x y fit = let t = task in let none = zero_references m.word (left_true _ (is_open m.word) fit) in inl (refl, omega arith)
      by false false false x y z = inl (refl, refl)

  -- a fetch that takes a reference off
  fewer_references : (w : State) → 1 ≤ w.references → Parts (not (others_left w)) (shares_of w) (w.references - 1 + bit w.task)
  fewer_references w some = (omega arith, by (others_left w) refl)
    where
      by : (b : Bool) → others_left w ≡ b → not b ≡ eqb (w.references - 1 + bit w.task) 0
      by true h = let one = some in let two = others_one w h one in some_after (w.references - 1 + bit w.task) (omega arith)
      by false h = let one = some in let most = others_none w h in none_after (w.references - 1 + bit w.task) (omega arith)

  pub drops_handle : (ds : List Deed) (us : List Member) (m : Machine) → Finds limit (At Waker) ds us m → Parts (not (ends_waker (dropped_by m.word))) (shares_of m.word) (shares_of (word_after m.word (dropping_waker m.word)))
  drops_handle ds us m f = by (others_left m.word) (is_open m.word) (fewer_references m.word (finds_waker ds us m f))
    where
      by : (b o : Bool) → Parts (not b) (shares_of m.word) (m.word.references - 1 + bit m.word.task) → let row : Dropped = if b then DroppedShared else (if o then DroppedOrphan else DroppedLast) in Parts (not (ends_waker row)) (shares_of m.word) (shares_of (word_after m.word (dropping_as row)))
      by true o x = x
      by false true x = x
      by false false x = x

  pub gives_reference : (hand : Option ℕ) (answer : Answer) (ds : List Deed) (us : List Member) (m : Machine) → Finds limit (GivingUp hand answer) ds us m → Parts (not (others_left m.word)) (shares_of m.word) (shares_of (word_after m.word (giving_up m.word)))
  gives_reference hand answer ds us m f = by (others_left m.word) (fewer_references m.word (finds_rest hand answer ds us m f))
    where
      by : (b : Bool) → Parts (not (others_left m.word)) (shares_of m.word) (m.word.references - 1 + bit m.word.task) → Parts (not (others_left m.word)) (shares_of m.word) (shares_of (word_after m.word (if b then GiveUpReference ∷ [] else GiveUpLastReference ∷ [])))
      by true x = x
      by false x = x

  -- a fetch that takes the Task off
  pub gives_task : (ds : List Deed) (us : List Member) (m : Machine) → Finds limit Detacher ds us m → Parts (not (has_references m.word)) (shares_of m.word) (shares_of (word_after m.word (giving_task_up m.word)))
  gives_task ds us m f = by (nat_lt 0 m.word.references) refl
    where
      task : bit m.word.task ≡ 1
      task = finds_detacher ds us m f

      by : (b : Bool) → nat_lt 0 m.word.references ≡ b → Parts (not b) (shares_of m.word) (shares_of (word_after m.word (if b then Detach ∷ EndCall ∷ [] else DetachLast ∷ [])))
      by true h = let t = task in let some = some_references m.word h in (omega arith, some_after (m.word.references + 0) (omega arith))
      by false h = let t = task in let none = no_references m.word h in (omega arith, none_after (m.word.references + 0) (omega arith))
