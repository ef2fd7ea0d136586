use Rattle.std.proofs.Common.{[], ◌∷◌, subst}
use Rattle.task_core.specs.declared.acts.Act.TheVariants.{DropAwaiter, WakeAwaiter}
use Rattle.task_exports.specs.CallPaths.{drops_same, wakes_other}
use Rattle.task_steps.specs.Deeds.{act}
use Rattle.task_exports.proofs.Crossing.{crossed}
use Rattle.task_exports.proofs.Told.{poll_dropped, poll_woken}
use Rattle.task_exports.proofs.calls.poll.shut_other.Goals as goal

pub returns-then-will_wake-clause-path : goal.returns-then-will_wake-clause-path
returns-then-will_wake-clause-path g c = λ i v s. (act DropAwaiter ∷ [], drops_same v c.in-Some.taken (subst (λ b. g.A.Wake.compared c.in-Some.taken c.args.awaiter.now b) c.if-will_wake.true c.will_wake.ensures), ((crossed poll_dropped c.lend-bits.ensures.handle.0 c.back.ensures c.async_task_poll_dropped.ensures.path) i s).1)

pub returns-else-will_wake-clause-path : goal.returns-else-will_wake-clause-path
returns-else-will_wake-clause-path g c = λ i v s. (act WakeAwaiter ∷ [], wakes_other v c.in-Some.taken c.wake.result (subst (λ b. g.A.Wake.compared c.in-Some.taken c.args.awaiter.now b) c.if-will_wake.false c.will_wake.ensures) c.wake.ensures, ((crossed poll_woken c.lend-bits-else-will_wake.ensures.handle.0 c.back-else-will_wake.ensures c.async_task_poll_woken.ensures.path) i s).1)
