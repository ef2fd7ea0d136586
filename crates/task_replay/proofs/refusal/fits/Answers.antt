use Rattle.std.proofs.Common.{◌∙◌, sym}
use Rattle.task_replay.proofs.Refused.{is_there, is_not_there}
use Rattle.task_replay.proofs.refusal.fits.Goals as goal

pub returns-clause-allowed : goal.returns-clause-allowed
returns-clause-allowed c = λ e. is_there _ c.rule_of_act.result c.rule_of_act.ensures (sym c.is_some.ensures ∙ e)

pub returns-clause-refused : goal.returns-clause-refused
returns-clause-refused c = λ e. is_not_there _ c.rule_of_act.result c.rule_of_act.ensures (sym c.is_some.ensures ∙ e)
