use Rattle.std.proofs.Common.{subst, sym}
use Rattle.std.proofs.lemmas.Option.{IfSome_then}
use Rattle.std.specs.Prelude.{IfSome, false}
use Rattle.task_cell.specs.Calls.{Stands}
use Rattle.task_cell.specs.WakerPaths.{WakerDropPath}
use Rattle.task_exports.specs.declared.hand.Record.{Record}
use Rattle.task_exports.proofs.DetachCall.{Goes}
use Rattle.task_steps.specs.Standing.{as_waker}
use Rattle.task_exports.proofs.calls.waker.wake.Goals as goal

pub drop_waker-requires-clause-party : goal.drop_waker-requires-clause-party
drop_waker-requires-clause-party g c = subst (λ p. Stands as_waker p) (sym c.in-Some.ensures.lent.1) c.requires.party

pub returns-in-Some-clause-woken : goal.returns-in-Some-clause-woken
returns-in-Some-clause-woken g c = IfSome_then c.drop_waker.result c.drop_waker.ensures.path (λ _ _. c.in-Some.ensures.path)

pub returns-in-Some-clause-path : goal.returns-in-Some-clause-path
returns-in-Some-clause-path g c = subst (λ p. IfSome c.drop_waker.result (λ (ended : Record). Goes (WakerDropPath (g.C.Caller.scheduled false)) p ended.party)) c.in-Some.ensures.lent.1 c.drop_waker.ensures.path
