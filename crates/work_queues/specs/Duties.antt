-- Rights and duties at the bells.
use Rattle.std.specs.Prelude.{◌≡◌, ◌↔◌, ℕ, ◌+◌, ◌<◌, [], false, if◌then◌else◌}
use Rattle.atomic_table.specs.Seated.{TableId}
use Rattle.work_queues.specs.declared.bells.Bells.{Bells}
use Rattle.work_queues.specs.declared.bells.Flag.{Flag}
use Rattle.work_queues.specs.declared.bells.Claim.{Claim}
use Rattle.work_queues.specs.declared.bells.Due.{Due}
use Rattle.work_queues.specs.declared.bells.interruptions.Interrupted.{Interrupted}
use Rattle.work_queues.specs.declared.bells.NotDue.{NotDue}
use Rattle.work_queues.specs.declared.bells.NothingShown.{NothingShown}
use Rattle.work_queues.specs.declared.bells.Sleeper.{Sleeper}
use Rattle.work_queues.specs.declared.queue.Queue.{Queue}
use Rattle.work_queues.specs.Sleep.{has_right, due, not_due, flag_word, worker_word, this, shown, hidden}

-- it is the right to the flag of its queue at the bells of this table, which shows what it says, and owes no look
abbrev pub IsFlagAt : TableId → Flag → Type 0
IsFlagAt bells flag = (flag.seat.table_id ≡ bells) × (flag.seat.me ≡ (has_right (flag_word flag.queue) (if flag.shows then shown else hidden), []))

-- the same at these bells
abbrev pub IsFlag : Bells → Flag → Type 0
IsFlag bells flag = IsFlagAt bells.table.shared.table_id flag

-- a queue in its slot has the right to its flag, which shows no item exactly if it is empty
abbrev pub IsStored : {T A : Type 0} → TableId → ℕ → Queue T A → Type 0
IsStored bells i queue = IsFlagAt bells queue.flag × (queue.flag.queue ≡ i) × (queue.flag.shows ≡ false ↔ queue.items.items ≡ [])

-- it is the right to be its worker at these bells
abbrev pub IsClaim : Bells → Claim → Type 0
IsClaim bells claim = (claim.place.seat.table_id ≡ bells.table.shared.table_id) × (claim.number < bells.workers) × (claim.place.seat.me ≡ (has_right (worker_word bells.workers claim.number) 0, []))

-- an interruption was due at these bells
abbrev pub WasDue : Bells → Due → Type 0
WasDue bells found = (found.seat.table_id ≡ bells.table.shared.table_id) × (found.seat.me.0.interruption ≡ due)

-- none was due at these bells
abbrev pub WasNotDue : Bells → NotDue → Type 0
WasNotDue bells found = (found.seat.table_id ≡ bells.table.shared.table_id) × (found.seat.me.0.interruption ≡ not_due)

-- this worker of these bells was interrupted
abbrev pub IsInterrupted : Bells → ℕ → Interrupted → Type 0
IsInterrupted bells worker interrupted = (interrupted.worker ≡ worker) × (interrupted.seat.table_id ≡ bells.table.shared.table_id) × (interrupted.seat.me.0.interrupted ≡ this (worker_word bells.workers worker))

-- it has looked at the flag of each queue of these bells, which showed no item
abbrev pub SawNothing : Bells → NothingShown → Type 0
SawNothing bells none = (none.seat.table_id ≡ bells.table.shared.table_id) × (none.seat.me.0.seen ≡ bells.workers + 1)

-- it owes no look: it has looked at the flag of each queue and at that of interruptions, none of which showed anything
abbrev pub SawEach : Bells → Sleeper → Type 0
SawEach bells sleeper = (sleeper.place.seat.me.0.owes ≡ 0) × (sleeper.place.seat.me.0.seen ≡ bells.workers + 2)

-- it is asleep at these bells
abbrev pub IsAsleep : Bells → Sleeper → Type 0
IsAsleep bells sleeper = (sleeper.place.seat.table_id ≡ bells.table.shared.table_id) × (sleeper.worker < bells.workers) × (sleeper.place.seat.me.1 ≡ [])
    × (sleeper.place.seat.me.0.right ≡ 0) × (sleeper.place.seat.me.0.value ≡ 0) × (sleeper.place.seat.me.0.searching ≡ 0) × (sleeper.place.seat.me.0.interruption ≡ 0) × (sleeper.place.seat.me.0.interrupted ≡ 0) × (sleeper.place.seat.me.0.asleep ≡ this (worker_word bells.workers sleeper.worker))
