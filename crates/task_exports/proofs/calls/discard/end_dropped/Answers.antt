use Rattle.std.proofs.Common.{[], ◌∷◌, sym, subst}
use Rattle.std.proofs.lemmas.Option.{IfSome_then}
use Rattle.task_core.specs.declared.acts.Act.TheVariants.{Unschedule}
use Rattle.task_exports.proofs.DiscardCall.{Leaves, left_last, left_over, left_taking}
use Rattle.task_exports.specs.declared.hand.Record.{Record}
use Rattle.task_steps.specs.Deeds.{row}
use Rattle.task_exports.proofs.calls.discard.end_dropped.Goals as goal

pub over-requires-clause-gone : goal.over-requires-clause-gone
over-requires-clause-gone g c = let p = c.async_task_discarded.ensures.path in (left_over Unit _ _ p.0.awaiter (row Unschedule p.0 ∷ []) _ p.1 c.in-1.is).0

pub over-requires-clause-party : goal.over-requires-clause-party
over-requires-clause-party g c = let p = c.async_task_discarded.ensures.path in (left_over Unit _ _ p.0.awaiter (row Unschedule p.0 ∷ []) _ p.1 c.in-1.is).1

pub returns-in-1 : goal.returns-in-1
returns-in-1 g c = let p = c.async_task_discarded.ensures.path in let l = subst (λ q. Leaves ((a : _) × (r : _) × g.A.Wake.woken a r) p.0.awaiter (row Unschedule p.0 ∷ []) c.args.h.now.hand.party q) (sym c.over.ensures) (left_over ((a : _) × (r : _) × g.A.Wake.woken a r) _ _ p.0.awaiter (row Unschedule p.0 ∷ []) _ p.1 c.in-1.is).2 in (assumption c, (p.0, l.0, l.1, l.2))

pub end_taken-requires-clause-handle : goal.end_taken-requires-clause-handle
end_taken-requires-clause-handle g c = let p = c.async_task_discarded.ensures.path in (c.async_task_discarded.ensures.there, (left_taking Unit _ _ p.0.awaiter (row Unschedule p.0 ∷ []) _ p.1 c.in-7.is).0)

pub end_taken-requires-clause-party : goal.end_taken-requires-clause-party
end_taken-requires-clause-party g c = let p = c.async_task_discarded.ensures.path in (left_taking Unit _ _ p.0.awaiter (row Unschedule p.0 ∷ []) _ p.1 c.in-7.is).1

pub returns-in-7 : goal.returns-in-7
returns-in-7 g c = let p = c.async_task_discarded.ensures.path in IfSome_then c.end_taken.result c.end_taken.ensures (λ (ended : Record). λ t. let l = (left_taking ((a : _) × (r : _) × g.A.Wake.woken a r) _ _ p.0.awaiter (row Unschedule p.0 ∷ []) _ p.1 c.in-7.is).2 ended.party t in (assumption c, (p.0, l.0, l.1, l.2)))

pub empty-requires-clause-handle : goal.empty-requires-clause-handle
empty-requires-clause-handle g c = let p = c.async_task_discarded.ensures.path in (c.async_task_discarded.ensures.there, (left_last Unit _ _ p.0.awaiter (row Unschedule p.0 ∷ []) _ p.1 c.in-9.is).0)

pub empty-requires-clause-party : goal.empty-requires-clause-party
empty-requires-clause-party g c = let p = c.async_task_discarded.ensures.path in (left_last Unit _ _ p.0.awaiter (row Unschedule p.0 ∷ []) _ p.1 c.in-9.is).1

pub returns-in-9 : goal.returns-in-9
returns-in-9 g c = let p = c.async_task_discarded.ensures.path in IfSome_then c.empty.result c.empty.ensures (λ (ended : Record). λ d. let l = (left_last ((a : _) × (r : _) × g.A.Wake.woken a r) _ _ p.0.awaiter (row Unschedule p.0 ∷ []) _ p.1 c.in-9.is).2 ended.party d in (assumption c, (p.0, l.0, l.1, l.2)))
