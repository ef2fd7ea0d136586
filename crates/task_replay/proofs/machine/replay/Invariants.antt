-- The player stands as the steps so far leave it, and has made as many.
use Rattle.std.proofs.Common.{◌≡◌, Some, min, take}
use Rattle.task_laws.specs.Machine.{run}
use Rattle.task_replay.specs.Replay.{stands}
use Rattle.task_core.specs.declared.word.TheConstants.{LIMIT}
use Rattle.task_replay.proofs.machine.replay.Given as goal

abbrev pub invariant-loop-i : goal.invariant-loop-i
invariant-loop-i g l = (stands (run (min l.limit LIMIT) (take l.i l.steps)) ≡ Some l.player.machine) × (l.player.steps ≡ l.i)
