use Rattle.std.proofs.Common.{[], ◌∷◌, ◌++◌}
use Rattle.std.proofs.lemmas.Option.{IfSome_then}
use Rattle.task_core.specs.declared.acts.Act.TheVariants.{EndCall, RefuseClone}
use Rattle.task_cell.proofs.Moved.{did_then}
use Rattle.task_exports.proofs.PollCall.{at_after, at_then}
use Rattle.task_exports.proofs.Released.{keeps_on}
use Rattle.task_exports.proofs.RunCall.{done_then}
use Rattle.task_exports.specs.CallPaths.{refuses, registers_first}
use Rattle.task_laws.specs.declared.positions.Position.TheVariants.{Looking}
use Rattle.task_steps.specs.Deeds.{act}
use Rattle.task_steps.specs.Standing.{as_task}
use Rattle.task_exports.proofs.Crossing.{crossed}
use Rattle.task_exports.proofs.Told.{clone_refused}
use Rattle.task_exports.proofs.calls.poll.go_on.Goals as goal

pub look_on-requires : goal.look_on-requires
look_on-requires g c = let s = c.requires.party in let l = (c.in-Some.ensures.path s.0 s.1).3 in
    record { party = (s.0, l.0, at_then c.args.h.now.hand.party l.0 c.register.new.h _ _ _ (at_after c.args.h.now c.register.new.h c.requires.handle c.in-Some.ensures.handle) l.1, l.2) }

pub returns-in-Some-clause-handle : goal.returns-in-Some-clause-handle
returns-in-Some-clause-handle g c = keeps_on c.look_on.result c.args.h.now c.register.new.h c.look_on.new.h c.in-Some.ensures.handle c.look_on.ensures.handle

pub returns-in-Some-clause-path : goal.returns-in-Some-clause-path
returns-in-Some-clause-path g c = λ i s. let r = c.in-Some.ensures.path i s in IfSome_then c.look_on.result (c.look_on.ensures.path i r.3.0 r.3.2)
    (λ told y. (r.0 ++ y.0, registers_first r.0 y.0 told r.1 y.1, done_then g.C.Caller.did r.0 y.0 r.2 y.2, did_then _ _ _ r.0 y.0 (Looking i) (as_task i) [] [] r.3.1 y.3))

pub returns-clause-path : goal.returns-clause-path
returns-clause-path g c = λ i s. (act RefuseClone ∷ act EndCall ∷ [], refuses _ c.in-Err.ensures, (tt, (tt, tt)), ((crossed clone_refused c.lend-bits.ensures.handle.0 c.back.ensures c.async_task_clone_refused.ensures.path) i s).1)
