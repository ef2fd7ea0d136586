use Rattle.std.proofs.Common.{◌∙◌, ap}
use Rattle.task_core.specs.declared.traits.TaskPoll.TheVariants.{Ready}
use Rattle.task_steps.specs.declared.kept.Kept.{Kept}
use Rattle.async_task.proofs.HandleParties.{stands_task}
use Rattle.async_task.proofs.HandlePolls.{polls_as}
use Rattle.async_task.proofs.task.TaskParty.poll.Goals as goal

pub poll-requires-clause-party : goal.poll-requires-clause-party
poll-requires-clause-party g c = let t = c.args.self.now in stands_task t.party t.alone t.placed t.free

pub returns-in-Pending-clause-path : goal.returns-in-Pending-clause-path
returns-in-Pending-clause-path g c = polls_as (λ (kept : Kept g.row.F.Denot g.row.F-Output.Denot g.F.Yields). kept.output)
    g.A.Wake.cloned g.A.Wake.woken g.A.Wake.woken_by_ref g.A.Wake.compared c.args.awaiter.now c.args.self.now.party c.poll.new.party c.poll.result _ c.in-Pending.is c.poll.ensures.path

pub returns-in-Refused-clause-path : goal.returns-in-Refused-clause-path
returns-in-Refused-clause-path g c = polls_as (λ (kept : Kept g.row.F.Denot g.row.F-Output.Denot g.F.Yields). kept.output)
    g.A.Wake.cloned g.A.Wake.woken g.A.Wake.woken_by_ref g.A.Wake.compared c.args.awaiter.now c.args.self.now.party c.poll.new.party c.poll.result _ c.in-Refused.is c.poll.ensures.path

pub returns-in-Ready-Some-clause-path : goal.returns-in-Ready-Some-clause-path
returns-in-Ready-Some-clause-path g c = polls_as (λ (kept : Kept g.row.F.Denot g.row.F-Output.Denot g.F.Yields). kept.output)
    g.A.Wake.cloned g.A.Wake.woken g.A.Wake.woken_by_ref g.A.Wake.compared c.args.awaiter.now c.args.self.now.party c.poll.new.party c.poll.result _ (c.in-Ready-Some.is ∙ ap Ready c.in-Ready-Some.field-0-is) c.poll.ensures.path

pub returns-in-Ready-None-clause-path : goal.returns-in-Ready-None-clause-path
returns-in-Ready-None-clause-path g c = polls_as (λ (kept : Kept g.row.F.Denot g.row.F-Output.Denot g.F.Yields). kept.output)
    g.A.Wake.cloned g.A.Wake.woken g.A.Wake.woken_by_ref g.A.Wake.compared c.args.awaiter.now c.args.self.now.party c.poll.new.party c.poll.result _ (c.in-Ready-None.is ∙ ap Ready c.in-Ready-None.field-0-is) c.poll.ensures.path

pub returns-in-Pending-clause-registered : goal.returns-in-Pending-clause-registered
returns-in-Pending-clause-registered g c = λ e. c.poll.ensures.registered c.in-Pending.is
