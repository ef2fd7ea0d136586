use Rattle.std.proofs.Common.{[], ◌∷◌, ◌+◌, true}
use Rattle.std.proofs.lemmas.Option.{IfSome_then}
use Rattle.task_core.specs.declared.acts.Act.TheVariants.{Look}
use Rattle.task_cell.proofs.Moved.{did_then, stands}
use Rattle.task_exports.proofs.Crossing.{crossed, crossed_still, full_after}
use Rattle.task_exports.proofs.Told.{poll}
use Rattle.task_exports.proofs.PollCall.{at_after, found_nothing, polls_found, polls_on}
use Rattle.task_exports.proofs.Released.{keeps_on, keeps_then}
use Rattle.task_laws.specs.declared.positions.Position.TheVariants.{Registrar}
use Rattle.task_steps.specs.Deeds.{row}
use Rattle.task_steps.specs.Standing.{as_task}
use Rattle.task_exports.proofs.calls.poll.poll.Goals as goal

pub go_on-requires-clause-handle : goal.go_on-requires-clause-handle
go_on-requires-clause-handle g c = let s = c.requires.party in full_after c.args.h.now c.back-answer.new.h _ _ _ c.requires.handle (crossed_still c.args.h.now c.back-answer.new.h c.lend-bits.ensures.handle.0 c.back-answer.ensures c.async_task_poll.ensures.handle) (found_nothing (s.0 + 1) _ _ _ ((crossed poll c.lend-bits.ensures.handle.0 c.back-answer.ensures c.async_task_poll.ensures.path) s.0 s.1) c.in-19.is).3

pub go_on-requires-clause-party : goal.go_on-requires-clause-party
go_on-requires-clause-party g c = let s = c.requires.party in (s.0 + 1, stands _ _ _ _ _ (found_nothing (s.0 + 1) _ _ _ ((crossed poll c.lend-bits.ensures.handle.0 c.back-answer.ensures c.async_task_poll.ensures.path) s.0 s.1) c.in-19.is).3)

pub returns-in-19-clause-handle : goal.returns-in-19-clause-handle
returns-in-19-clause-handle g c = keeps_on c.go_on.result c.args.h.now c.back-answer.new.h c.go_on.new.h (crossed_still c.args.h.now c.back-answer.new.h c.lend-bits.ensures.handle.0 c.back-answer.ensures c.async_task_poll.ensures.handle) c.go_on.ensures.handle

pub returns-in-19-clause-path : goal.returns-in-19-clause-path
returns-in-19-clause-path g c = λ n s. let f = found_nothing (n + 1) _ _ _ ((crossed poll c.lend-bits.ensures.handle.0 c.back-answer.ensures c.async_task_poll.ensures.path) n s) c.in-19.is in
    IfSome_then c.go_on.result (c.go_on.ensures.path (n + 1) (stands _ _ _ _ _ f.3))
    (λ told y. (row Look f.0 ∷ y.0, polls_on g.A.Wake.cloned g.A.Wake.woken g.A.Wake.woken_by_ref g.A.Wake.compared c.args.awaiter.now f.0 y.0 told f.1 f.2 y.1, (tt, y.2), did_then _ _ _ (row Look f.0 ∷ []) y.0 (Registrar (n + 1)) (as_task (n + 1)) [] [] f.3 y.3))

pub end-requires : goal.end-requires
end-requires g c = let s = c.requires.party in record { party = (s.0 + 1, true, c.args.h.now.hand.party, at_after c.args.h.now c.back-answer.new.h c.requires.handle (crossed_still c.args.h.now c.back-answer.new.h c.lend-bits.ensures.handle.0 c.back-answer.ensures c.async_task_poll.ensures.handle), (crossed poll c.lend-bits.ensures.handle.0 c.back-answer.ensures c.async_task_poll.ensures.path) s.0 s.1) }

pub returns-in-Some-clause-handle : goal.returns-in-Some-clause-handle
returns-in-Some-clause-handle g c = keeps_then c.args.h.now c.back-answer.new.h c.end.new.h (crossed_still c.args.h.now c.back-answer.new.h c.lend-bits.ensures.handle.0 c.back-answer.ensures c.async_task_poll.ensures.handle) c.in-Some.ensures.handle

pub returns-in-Some-clause-path : goal.returns-in-Some-clause-path
returns-in-Some-clause-path g c = λ n s. let e = c.in-Some.ensures.path (n + 1) true c.args.h.now.hand.party ((crossed poll c.lend-bits.ensures.handle.0 c.back-answer.ensures c.async_task_poll.ensures.path) n s) in
    (e.0, polls_found g.A.Wake.cloned g.A.Wake.woken g.A.Wake.woken_by_ref g.A.Wake.compared c.args.awaiter.now e.0 c.in-Some.found e.1, e.2, e.3)
