use Rattle.std.proofs.Common.{[], ◌∷◌, false}
use Rattle.task_core.specs.declared.acts.Act.TheVariants.{EndCall, Look}
use Rattle.task_cell.specs.PollPaths.{waits}
use Rattle.task_exports.proofs.PollCall.{answers_found, has_to, keeps_at}
use Rattle.task_steps.specs.Deeds.{act, row}
use Rattle.task_exports.proofs.calls.poll.look_on.Goals as goal

pub returns-in-18-clause-handle : goal.returns-in-18-clause-handle
returns-in-18-clause-handle g c = let s = c.requires.party in keeps_at s.1 c.args.h.now s.2

pub returns-in-18-clause-path : goal.returns-in-18-clause-path
returns-in-18-clause-path g c = λ i before l. let x = has_to i before _ _ l c.in-18.is in (row Look x.0 ∷ act EndCall ∷ [], waits x.0 x.1, (tt, (tt, tt)), x.2)

pub end-requires : goal.end-requires
end-requires g c = let s = c.requires.party in record { party = (s.0, false, s.1, s.2, s.3) }

pub returns-in-Some-clause-path : goal.returns-in-Some-clause-path
returns-in-Some-clause-path g c = λ i before l. let e = c.in-Some.ensures.path i false before l in
    (e.0, answers_found g.A.Wake.cloned g.A.Wake.woken g.A.Wake.woken_by_ref g.A.Wake.compared c.args.awaiter.now e.0 c.in-Some.found e.1, e.2, e.3)
