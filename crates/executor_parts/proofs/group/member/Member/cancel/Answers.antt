use Rattle.std.proofs.Common.{subst, sym}
use Rattle.task_cell.specs.Belongs.{HasYielded}
use Rattle.executor_parts.specs.Outputs.{MayGive}
use Rattle.executor_parts.proofs.group.member.Member.cancel.Goals as goal

pub returns-in-Runs-clause-outputs : goal.returns-in-Runs-clause-outputs
returns-in-Runs-clause-outputs g c output may = subst (λ member. MayGive member output) (sym c.in-Runs.is) (subst (λ task. HasYielded task.inner.share output) c.cancel.ensures.task may)
