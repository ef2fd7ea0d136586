-- The laws follow from the invariant.
use Rattle.std.proofs.Common.{◌≡◌, ℕ, ◌≤◌, ◌⊎◌, ◌+◌, Bool, true, false, not, ◌&&◌, ◌||◌, cond, eqb, List, refl, arith}
use Rattle.std.proofs.lemmas.Bool.Decides.{nat_tests}
use Rattle.task_laws.proofs.Vocabulary.{State, bit, is_open, Event, Slots, how_often, count, OnePoller, NoWakeLost, MakingsCounted, NobodyIsLeft, is_output_end}
use Rattle.task_laws.proofs.Census.{Census, calls, runs, closers}
use Rattle.task_laws.proofs.Invariant.{Holds}

pub one_poller : (limit : ℕ) (w : State) (slots : Slots) (t : List Event) (c : Census) → Holds limit w slots t c → OnePoller t
one_poller limit w slots t c h = record { not_below = grind arith; not_above = grind arith; polls = h.polls }

pub no_wake_lost : (limit : ℕ) (w : State) (slots : Slots) (t : List Event) (c : Census) → Holds limit w slots t c → NoWakeLost t
no_wake_lost limit w slots t c h = record { served = grind (arith, nat_tests); queued = grind (arith, nat_tests) }

pub makings : (limit : ℕ) (w : State) (slots : Slots) (t : List Event) (c : Census) → Holds limit w slots t c → MakingsCounted t
makings limit w slots t c h = grind arith

-- when no handle and no call is left
no_bit : (b : Bool) → bit b ≡ 0 → b ≡ false
no_bit true e = cc
no_bit false e = refl

pub over_task : (limit : ℕ) (w : State) (slots : Slots) (t : List Event) (c : Census) → Holds limit w slots t c → NobodyIsLeft t
    → w.task ≡ false
over_task limit w slots t c h over = no_bit w.task (omega (arith, h.task, h.task_left, over.task))

pub over_busy : (limit : ℕ) (w : State) (slots : Slots) (t : List Event) (c : Census) → Holds limit w slots t c → NobodyIsLeft t → (calls c ≡ 0) × (c.queued ≡ 0) × (w.references ≡ 0)
over_busy limit w slots t c h over = (omega (arith, h.calls_left, over.calls), omega (arith, h.made, over.runnables), omega (arith, h.calls_left, over.calls, h.made, over.runnables, h.wakers, over.wakers, h.references))

pub over_still : (limit : ℕ) (w : State) (slots : Slots) (t : List Event) (c : Census) → Holds limit w slots t c → calls c ≡ 0 → c.queued ≡ 0 → (w.running ≡ false) × (w.scheduled ≡ false)
over_still limit w slots t c h busy queued = still w.running w.scheduled c busy queued h.running h.scheduled
  where
    still : (r s : Bool) (c : Census) → calls c ≡ 0 → c.queued ≡ 0 → runs c ≡ bit r → c.queued + closers c ≡ cond r 0 (bit s) → (r ≡ false) × (s ≡ false)
    still r s c busy queued e f = grind arith

pub over_emptied : (limit : ℕ) (w : State) (slots : Slots) (t : List Event) (c : Census) → Holds limit w slots t c → NobodyIsLeft t → how_often Event.Empties t ≡ 1
over_emptied limit w slots t c h over = emptied w.task w.references c (how_often Event.Empties t) (over_task limit w slots t c h over) (over_busy limit w slots t c h over) h.emptied
  where
    emptied : (k : Bool) (n : ℕ) (c : Census) (m : ℕ) → k ≡ false → (calls c ≡ 0) × (c.queued ≡ 0) × (n ≡ 0) → m + c.emptiers + c.orphans ≡ cond k 0 (bit (eqb n 0)) → m ≡ 1
    emptied k n c m e b f = grind (arith, nat_tests)

pub over_future : (limit : ℕ) (w : State) (slots : Slots) (t : List Event) (c : Census) → Holds limit w slots t c → NobodyIsLeft t → how_often Event.FutureDropped t ≡ 1
over_future limit w slots t c h over =
    let b = over_busy limit w slots t c h over in
    future w (bit slots.future) c (how_often Event.FutureDropped t) (how_often Event.Empties t) b (over_still limit w slots t c h b.0 b.1) h.future h.dropped (over_emptied limit w slots t c h over) h.emptied_closed
  where
    future : (w : State) (f : ℕ) (c : Census) (d m : ℕ) → (calls c ≡ 0) × (c.queued ≡ 0) × (w.references ≡ 0) → (w.running ≡ false) × (w.scheduled ≡ false)
        → f ≡ c.queued + c.starting + c.polling + c.pending + c.ready + c.in_hand + cond (w.running || w.scheduled) 0 (bit (is_open w))
        → d + f ≡ 1 → m ≡ 1 → (m + c.emptiers ≡ 0) ⊎ (is_open w ≡ false) → d ≡ 1
    future w f c d m b s e g k l = grind arith

pub over_outputs : (limit : ℕ) (w : State) (slots : Slots) (t : List Event) (c : Census) → Holds limit w slots t c → NobodyIsLeft t → count is_output_end t ≡ how_often Event.FutureReady t
over_outputs limit w slots t c h over =
    outputs w (bit slots.output) c (count is_output_end t) (how_often Event.FutureReady t) (over_task limit w slots t c h over) (over_busy limit w slots t c h over).0 h.output h.outputs h.kept
  where
    outputs : (w : State) (o : ℕ) (c : Census) (e r : ℕ) → w.task ≡ false → calls c ≡ 0 → o ≡ c.stored + c.outputs + c.claims + bit (w.completed && not w.closed) → r ≡ e + o + c.ready + c.unstored
        → (w.completed ≡ true → w.closed ≡ false → w.task ≡ true) → e ≡ r
    outputs w o c e r t b f g k = grind arith

pub ends_future : (limit : ℕ) (w : State) (slots : Slots) (t : List Event) (c : Census) → Holds limit w slots t c → how_often Event.FutureDropped t ≤ 1
ends_future limit w slots t c h = omega (arith, h.dropped)

pub ends_emptied : (limit : ℕ) (w : State) (slots : Slots) (t : List Event) (c : Census) → Holds limit w slots t c → how_often Event.Empties t ≤ 1
ends_emptied limit w slots t c h = grind (arith, nat_tests)

pub ends_outputs : (limit : ℕ) (w : State) (slots : Slots) (t : List Event) (c : Census) → Holds limit w slots t c → count is_output_end t ≤ how_often Event.FutureReady t
ends_outputs limit w slots t c h = omega (arith, h.outputs)
