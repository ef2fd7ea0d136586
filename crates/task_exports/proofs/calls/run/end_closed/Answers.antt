use Rattle.std.proofs.Common.{[], ◌∷◌}
use Rattle.std.proofs.lemmas.Option.{IfSome_then}
use Rattle.task_core.specs.declared.acts.Act.TheVariants.{Unschedule}
use Rattle.task_steps.specs.Deeds.{row}
use Rattle.task_exports.proofs.calls.run.end_closed.Goals as goal

pub leave-requires-clause-goes : goal.leave-requires-clause-goes
leave-requires-clause-goes g c = let p = c.async_task_run_closed-answer.ensures.path in (_, p.0.awaiter, row Unschedule p.0 ∷ [], p.1)

pub returns : goal.returns
returns g c = let p = c.async_task_run_closed-answer.ensures.path in IfSome_then c.leave.result (c.leave.ensures _ p.0.awaiter (row Unschedule p.0 ∷ []) p.1) (λ _ t. (c.drop_future.ensures.fact, (p.0, t.0, t.1, t.2)))
