use Rattle.std.specs.Prelude.{◌≡◌, ◌≤◌, ◌↔◌, ℕ, true, IfSome, IsNone, IsSomeAnd}
use Rattle.std.specs.Arc.{arc_value}
use Rattle.work_queues.specs.declared.bells.Bells.{Bells}
use Rattle.executor_parts.specs.declared.mailbox.Mailbox.{Mailbox}
use Rattle.work_queues.specs.Duties.{IsInterrupted, WasDue}
use Rattle.executor.specs.Posts.{IsPost}
use Rattle.executor.specs.declared.ringing.PoolListener.{PoolListener}
use Rattle.executor.specs.declared.ringing.Rings.{Rings}
use Rattle.executor.specs.declared.ringing.Rings.TheVariants.{Worker, Kept}
use Rattle.executor.specs.declared.ringing.Rung.{Rung}
use Rattle.executor.specs.declared.ringing.Rung.TheVariants.{Worker as RungWorker, Kept as RungKept, Reader as RungReader}
use Rattle.executor.specs.declared.mail.Mail.{Mail}
use Rattle.executor.specs.declared.bell_awaiter.Wakes.{Wakes}
use Rattle.executor.specs.declared.bell_awaiter.Wakes.TheVariants.{Ring, Reader}

-- the worker of this number was interrupted, unless these bells have none
abbrev pub RangWorker : Bells → ℕ → Rung → Type 0
RangWorker of worker (RungWorker interrupted) = IfSome interrupted (IsInterrupted of worker) × (IsNone interrupted ↔ of.workers ≤ worker)
RangWorker of worker (RungKept post due) = ⊥
RangWorker of worker (RungReader told) = ⊥

-- this number was posted, and where it joined those that wait, an interruption was due after it
abbrev pub RangKept : Bells → ℕ → Rung → Type 0
RangKept of kept (RungWorker interrupted) = ⊥
RangKept of kept (RungKept post due) = IsPost kept post × (post.joined ≡ true → IsSomeAnd due (WasDue of))
RangKept of kept (RungReader told) = ⊥

-- this number was posted to a mailbox
abbrev pub ToldReader : ℕ → Rung → Type 0
ToldReader posted (RungWorker interrupted) = ⊥
ToldReader posted (RungKept post due) = ⊥
ToldReader posted (RungReader told) = told.number ≡ posted

module _ {R : Type 0} where
  -- the ring is for the worker of this number, by these bells
  abbrev pub RingsWorker : Rings R → Bells → ℕ → Type 0
  RingsWorker (Worker bells number) of worker = (arc_value bells ≡ of) × (number ≡ worker)
  RingsWorker (Kept bells mail number) of worker = ⊥

  -- the ring is for the waker that is kept under this number, by this mail, and then by these bells
  abbrev pub RingsKept : Rings R → Bells → Mail R → ℕ → Type 0
  RingsKept (Worker bells number) of by kept = ⊥
  RingsKept (Kept bells mail number) of by kept = (arc_value bells ≡ of) × (arc_value mail ≡ by) × (number ≡ kept)

  -- both rings are for the same
  abbrev pub IsSameRing : Rings R → Rings R → Type 0
  IsSameRing (Worker bells number) other = RingsWorker other (arc_value bells) number
  IsSameRing (Kept bells mail number) other = RingsKept other (arc_value bells) (arc_value mail) number

  -- the wake is for the worker of this number, by these bells
  abbrev pub IsForWorker : Wakes R → Bells → ℕ → Type 0
  IsForWorker (Ring rings) of worker = RingsWorker rings of worker
  IsForWorker (Reader mailbox number) of worker = ⊥

  -- the wake is for the waker that is kept under this number, by this mail, and then by these bells
  abbrev pub IsForKept : Wakes R → Bells → Mail R → ℕ → Type 0
  IsForKept (Ring rings) of by kept = RingsKept rings of by kept
  IsForKept (Reader mailbox number) of by kept = ⊥

  -- the wake posts this number to this mailbox
  abbrev pub IsForReader : Wakes R → Mailbox R (PoolListener R) → ℕ → Type 0
  IsForReader (Ring rings) to posted = ⊥
  IsForReader (Reader mailbox number) to posted = (arc_value mailbox ≡ to) × (number ≡ posted)

  -- both wakes are for the same
  abbrev pub IsSameWake : Wakes R → Wakes R → Type 0
  IsSameWake (Ring rings) (Ring others) = IsSameRing rings others
  IsSameWake (Ring rings) (Reader mailbox number) = ⊥
  IsSameWake (Reader mailbox number) other = IsForReader other (arc_value mailbox) number

  -- the ring has reached whom it is for
  abbrev pub RangFor : Rings R → Rung → Type 0
  RangFor (Worker bells number) rung = RangWorker (arc_value bells) number rung
  RangFor (Kept bells mail number) rung = RangKept (arc_value bells) number rung

  -- the wake has reached whom it is for
  abbrev pub Reached : Wakes R → Rung → Type 0
  Reached (Ring rings) rung = RangFor rings rung
  Reached (Reader mailbox number) rung = ToldReader number rung
