use Rattle.std.proofs.Common.{⊎_elim}
use Rattle.task_cell.proofs.Vocabulary.{ap, [], parts_newest}
use Rattle.task_steps.specs.WakerScripts.{brings_runnable}
use Rattle.task_cell.proofs.WakerMoves.{beside_deliverer, wakes_idle, wakes_busy}
use Rattle.task_cell.proofs.cell.Share.deliverer_of.Goals as goal

pub returns-in-Scheduled : goal.returns-in-Scheduled
returns-in-Scheduled g c = record { path = λ p s cell x. wakes_busy _ c.args.found p c.args.party.now s cell x (⊎_elim (λ e. ap brings_runnable e) (λ e. ap brings_runnable e) c.in-Scheduled.is); share = tt }

pub split-deliverer-requires-clause-allowed : goal.split-deliverer-requires-clause-allowed
split-deliverer-requires-clause-allowed g c = let m = c.requires.made in
    parts_newest _ _ _ _ _ _ _ _ _ _ [] (ap (λ m. m.0) (beside_deliverer _ c.args.found m.0 c.args.party.now m.1 m.2 (ap brings_runnable c.in-Idle.is)).1)

pub returns-in-Idle-clause-path : goal.returns-in-Idle-clause-path
returns-in-Idle-clause-path g c = λ p s cell x. let t = c.split-deliverer.ensures in
    wakes_idle _ c.args.found p c.args.party.now c.split-deliverer.new.party c.split-deliverer.result s cell x (ap brings_runnable c.in-Idle.is) t.cell.0 t.left t.cell.1 t.right
