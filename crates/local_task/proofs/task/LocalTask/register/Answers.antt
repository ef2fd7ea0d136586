use Rattle.std.proofs.Common.{rules}
use Rattle.local_task.proofs.Registered.{registers-clone, refuses-clone}
use Rattle.local_task.proofs.task.LocalTask.register.Goals as goal

pub returns-in_default-clause-not_done : goal.returns-in_default-clause-not_done
returns-in_default-clause-not_done g c = refuses-clone _ _ _ c.try_clone.result c.in_default.field-0 c.in_default.is (assumption c) (search rules)

pub returns-clause-not_done : goal.returns-clause-not_done
returns-clause-not_done g c = registers-clone _ _ _ c.try_clone.result c.in-Ok.clone c.in-Ok.is (assumption c) (search rules)
