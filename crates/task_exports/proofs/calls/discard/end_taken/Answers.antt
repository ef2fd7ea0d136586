use Rattle.std.proofs.Common.{sym, subst}
use Rattle.std.proofs.lemmas.Option.{IfSome_then}
use Rattle.task_exports.proofs.DiscardCall.{Takes, taken_last, taken_over, taken_wakes}
use Rattle.task_exports.specs.declared.hand.Record.{Record}
use Rattle.task_exports.proofs.calls.discard.end_taken.Goals as goal

pub over-requires-clause-gone : goal.over-requires-clause-gone
over-requires-clause-gone g c = let f = c.async_task_discard_taken.ensures.path in (taken_over Unit _ _ f.0 _ f.1 c.in-1.is).0

pub over-requires-clause-party : goal.over-requires-clause-party
over-requires-clause-party g c = let f = c.async_task_discard_taken.ensures.path in (taken_over Unit _ _ f.0 _ f.1 c.in-1.is).1

pub returns-in-1 : goal.returns-in-1
returns-in-1 g c = let f = c.async_task_discard_taken.ensures.path in subst (λ q. Takes ((a : _) × (r : _) × g.A.Wake.woken a r) c.args.h.now.hand.party q) (sym c.over.ensures) (taken_over ((a : _) × (r : _) × g.A.Wake.woken a r) _ _ f.0 _ f.1 c.in-1.is).2

pub wake_taken-requires-clause-handle : goal.wake_taken-requires-clause-handle
wake_taken-requires-clause-handle g c = let f = c.async_task_discard_taken.ensures.path in (c.async_task_discard_taken.ensures.there, (taken_wakes Unit _ _ f.0 _ f.1 c.in-14.is).0)

pub wake_taken-requires-clause-party : goal.wake_taken-requires-clause-party
wake_taken-requires-clause-party g c = let f = c.async_task_discard_taken.ensures.path in (taken_wakes Unit _ _ f.0 _ f.1 c.in-14.is).1

pub returns-in-14 : goal.returns-in-14
returns-in-14 g c = let f = c.async_task_discard_taken.ensures.path in IfSome_then c.wake_taken.result c.wake_taken.ensures (λ (ended : Record). λ t. (taken_wakes ((a : _) × (r : _) × g.A.Wake.woken a r) _ _ f.0 _ f.1 c.in-14.is).2 ended.party t)

pub empty-requires-clause-handle : goal.empty-requires-clause-handle
empty-requires-clause-handle g c = let f = c.async_task_discard_taken.ensures.path in (c.async_task_discard_taken.ensures.there, (taken_last Unit _ _ f.0 _ f.1 c.in-9.is).0)

pub empty-requires-clause-party : goal.empty-requires-clause-party
empty-requires-clause-party g c = let f = c.async_task_discard_taken.ensures.path in (taken_last Unit _ _ f.0 _ f.1 c.in-9.is).1

pub returns-in-9 : goal.returns-in-9
returns-in-9 g c = let f = c.async_task_discard_taken.ensures.path in IfSome_then c.empty.result c.empty.ensures (λ (ended : Record). λ d. (taken_last ((a : _) × (r : _) × g.A.Wake.woken a r) _ _ f.0 _ f.1 c.in-9.is).2 ended.party d)
