use Rattle.std.proofs.Common.{sym, subst}
use Rattle.std.proofs.lemmas.Option.{IfSome_then}
use Rattle.task_exports.proofs.RunCall.{Rests, left_last, left_over, left_taking}
use Rattle.task_exports.specs.declared.hand.Record.{Record}
use Rattle.task_exports.proofs.calls.run.leave.Goals as goal

pub over-requires-clause-gone : goal.over-requires-clause-gone
over-requires-clause-gone g c = let s = c.requires.goes in (left_over Unit s.0 _ s.1 s.2 _ s.3 c.in-1.is).0

pub over-requires-clause-party : goal.over-requires-clause-party
over-requires-clause-party g c = let s = c.requires.goes in (left_over Unit s.0 _ s.1 s.2 _ s.3 c.in-1.is).1

pub end_taken-requires-clause-handle : goal.end_taken-requires-clause-handle
end_taken-requires-clause-handle g c = let s = c.requires.goes in (c.requires.there, (left_taking Unit s.0 _ s.1 s.2 _ s.3 c.in-7.is).0)

pub end_taken-requires-clause-party : goal.end_taken-requires-clause-party
end_taken-requires-clause-party g c = let s = c.requires.goes in (left_taking Unit s.0 _ s.1 s.2 _ s.3 c.in-7.is).1

pub empty-requires-clause-handle : goal.empty-requires-clause-handle
empty-requires-clause-handle g c = let s = c.requires.goes in (c.requires.there, (left_last Unit s.0 _ s.1 s.2 _ s.3 c.in-9.is).0)

pub empty-requires-clause-party : goal.empty-requires-clause-party
empty-requires-clause-party g c = let s = c.requires.goes in (left_last Unit s.0 _ s.1 s.2 _ s.3 c.in-9.is).1

pub returns-in-1 : goal.returns-in-1
returns-in-1 g c = λ x due before s. subst (λ q. Rests ((a : _) × (r : _) × g.A.Wake.woken a r) due before x.party q) (sym c.over.ensures) (left_over ((a : _) × (r : _) × g.A.Wake.woken a r) x _ due before _ s c.in-1.is).2

pub returns-in-7 : goal.returns-in-7
returns-in-7 g c = λ x due before s. IfSome_then c.end_taken.result c.end_taken.ensures (λ (ended : Record). λ t. (left_taking ((a : _) × (r : _) × g.A.Wake.woken a r) x _ due before _ s c.in-7.is).2 ended.party t)

pub returns-in-9 : goal.returns-in-9
returns-in-9 g c = λ x due before s. IfSome_then c.empty.result c.empty.ensures (λ (ended : Record). λ d. (left_last ((a : _) × (r : _) × g.A.Wake.woken a r) x _ due before _ s c.in-9.is).2 ended.party d)
