use Rattle.std.proofs.Common.{◌∙◌, subst}
use Rattle.task_cell.specs.Belongs.{cell_of}
use Rattle.task_core.specs.Yielded.{Yielded}
use Rattle.executor_parts.proofs.group.spawning.TaskGroup+R+F+Q+unit+A+X+B.spawn.Goals as goal

pub returns-in-Ok-clause-gives : goal.returns-in-Ok-clause-gives
returns-in-Ok-clause-gives g c = record {
  joined = λ output may. subst (λ future. Yielded g.F.Yields.moves future output) c.in-Ok.ensures.spawned (c.join-number.ensures.gives.joined output may);
  others = c.join-number.ensures.gives.others;
}

pub returns-in-Ok-clause-scheduled : goal.returns-in-Ok-clause-scheduled
returns-in-Ok-clause-scheduled g c =
    let fact = c.schedule.ensures.fact in
    (cell_of c.in-Ok.runnable.inner.share, c.in-Ok.ensures.given.1, (fact.0, fact.1, fact.2 ∙ c.in-Ok.ensures.around.0, fact.3))
