use Rattle.std.proofs.Common.{◌∙◌, ap, Some}
use Rattle.task_replay.proofs.Allowed.{act_in_call}
use Rattle.task_replay.proofs.progress.act_there.Goals as goal

pub returns-in_default : goal.returns-in_default
returns-in_default c = ap Some c.act_in_call.ensures ∙ act_in_call c.args.word c.args.position c.in_default.not-At
