-- Whether a worker owes anything.
use Rattle.std.specs.Prelude.{IsNone}
use Rattle.work_queues.specs.declared.crew.worker.Worker.{Worker}

-- it owes no look, and has heard no interruption that is to be answered
abbrev pub OwesNothing : {T A : Type 0} → Worker T A → Type 0
OwesNothing worker = IsNone worker.owed × IsNone worker.heard
