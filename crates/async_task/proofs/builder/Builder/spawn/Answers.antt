use Rattle.std.proofs.Common.{rules, sym, subst}
use Rattle.async_task.proofs.builder.Builder.spawn.Goals as goal

pub returns-in-Ok-clause-made : goal.returns-in-Ok-clause-made
returns-in-Ok-clause-made g c = (c.metadata.result, subst (λ f. g.G.FnOnce.post c.args.maker (c.metadata.result, tt) f) (sym c.handles_of.ensures.spawned) c.maker-future.ensures, search rules)
