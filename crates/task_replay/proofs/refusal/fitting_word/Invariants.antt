-- What was found fits.
use Rattle.std.specs.Prelude.{Some, IfSome}
use Rattle.task_replay.specs.Replay.{scene_of}
use Rattle.task_replay.specs.Refusal.{FitsAt}
use Rattle.task_replay.proofs.refusal.fitting_word.Given as goal

abbrev pub invariant-loop-flags : goal.invariant-loop-flags
invariant-loop-flags l = IfSome l.nearest (FitsAt (scene_of l.scene) l.act (Some l.position))
