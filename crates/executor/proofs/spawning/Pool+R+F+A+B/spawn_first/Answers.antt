use Rattle.executor.proofs.Counted.{appends-one}
use Rattle.executor.proofs.spawning.Pool+R+F+A+B.spawn_first.Goals as goal

pub returns-in-Ok-clause-added : goal.returns-in-Ok-clause-added
returns-in-Ok-clause-added g c = λ _. appends-one _ c.push_reserved.ensures.items c.in-Ok.ensures.place
