use Rattle.std.proofs.Common.{[], ◌∷◌}
use Rattle.std.proofs.lemmas.Option.{IfSome_then}
use Rattle.task_core.specs.declared.acts.Act.TheVariants.{DropOutput}
use Rattle.task_steps.specs.Deeds.{act}
use Rattle.task_exports.proofs.calls.run.end_unclaimed.Goals as goal

pub leave-requires-clause-goes : goal.leave-requires-clause-goes
leave-requires-clause-goes g c = let p = c.async_task_output_dropped-answer.ensures.path in (_, c.args.due, act DropOutput ∷ [], p)

pub returns : goal.returns
returns g c = let p = c.async_task_output_dropped-answer.ensures.path in IfSome_then c.leave.result (c.leave.ensures _ c.args.due (act DropOutput ∷ []) p) (λ _ t. (c.drop_output.ensures.fact, t))
