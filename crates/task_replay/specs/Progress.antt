-- An act that a party may make now.
use Rattle.std.specs.Prelude.{Option, Some, None}
use Rattle.task_core.specs.Word.{State}
use Rattle.task_laws.specs.declared.positions.Position.{Position}
use Rattle.task_laws.specs.declared.positions.Position.TheVariants.{At}
use Rattle.task_core.specs.declared.acts.Act.{Act}
use Rattle.task_progress.specs.Waiting.{next_act}

-- the act of a party that stands there, where it is in a call
abbrev pub act_at : State → Position → Option Act
act_at w (At r) = None
act_at w p = Some (next_act w p)

-- the act of a party in a call, where there is such a party
abbrev pub act_of : State → Option Position → Option Act
act_of w None = None
act_of w (Some p) = act_at w p
