use Rattle.std.proofs.Common.{ℕ, Option, sym, subst}
use Rattle.std.proofs.lemmas.Option.{IfSome_then}
use Rattle.task_exports.proofs.RunCall.{Takes, taken_last, taken_last_wakes, taken_over, taken_wakes, woken_last}
use Rattle.task_exports.specs.declared.hand.Record.{Record}
use Rattle.task_exports.proofs.Crossing.{crossed}
use Rattle.task_exports.specs.Answers.{Finishes}
use Rattle.task_exports.specs.declared.hand.Hand.{Hand}
use Rattle.task_exports.proofs.calls.run.end_taken.Goals as goal

abbrev Ends : Hand → Hand → ℕ → Type 0
Ends x k n = (awaiter : Option ℕ) × Finishes x k awaiter n

pub over-requires-clause-gone : goal.over-requires-clause-gone
over-requires-clause-gone g c = let f = (crossed Ends c.lend-bits.ensures.handle.0 c.back.ensures c.async_task_finish.ensures.path) in (taken_over Unit _ _ f.0 _ f.1 c.in-1.is).0

pub over-requires-clause-party : goal.over-requires-clause-party
over-requires-clause-party g c = let f = (crossed Ends c.lend-bits.ensures.handle.0 c.back.ensures c.async_task_finish.ensures.path) in (taken_over Unit _ _ f.0 _ f.1 c.in-1.is).1

pub returns-in-1 : goal.returns-in-1
returns-in-1 g c = let f = (crossed Ends c.lend-bits.ensures.handle.0 c.back.ensures c.async_task_finish.ensures.path) in subst (λ q. Takes ((a : _) × (r : _) × g.A.Wake.woken a r) c.args.h.now.hand.party q) (sym c.over.ensures) (taken_over ((a : _) × (r : _) × g.A.Wake.woken a r) _ _ f.0 _ f.1 c.in-1.is).2

pub empty-requires-clause-handle : goal.empty-requires-clause-handle
empty-requires-clause-handle g c = let f = (crossed Ends c.lend-bits.ensures.handle.0 c.back.ensures c.async_task_finish.ensures.path) in (c.back.ensures.1, (taken_last Unit _ _ f.0 _ f.1 c.in-9.is).0)

pub empty-requires-clause-party : goal.empty-requires-clause-party
empty-requires-clause-party g c = let f = (crossed Ends c.lend-bits.ensures.handle.0 c.back.ensures c.async_task_finish.ensures.path) in (taken_last Unit _ _ f.0 _ f.1 c.in-9.is).1

pub returns-in-9 : goal.returns-in-9
returns-in-9 g c = let f = (crossed Ends c.lend-bits.ensures.handle.0 c.back.ensures c.async_task_finish.ensures.path) in IfSome_then c.empty.result c.empty.ensures (λ (ended : Record). λ d. (taken_last ((a : _) × (r : _) × g.A.Wake.woken a r) _ _ f.0 _ f.1 c.in-9.is).2 ended.party d)

pub over-requires-in-8-clause-gone : goal.over-requires-in-8-clause-gone
over-requires-in-8-clause-gone g c = let f = (crossed Ends c.lend-bits.ensures.handle.0 c.back.ensures c.async_task_finish.ensures.path) in (taken_wakes Unit _ _ f.0 _ f.1 c.in-8.is).0

pub over-requires-in-8-clause-party : goal.over-requires-in-8-clause-party
over-requires-in-8-clause-party g c = let f = (crossed Ends c.lend-bits.ensures.handle.0 c.back.ensures c.async_task_finish.ensures.path) in (taken_wakes Unit _ _ f.0 _ f.1 c.in-8.is).1

pub returns-in-8 : goal.returns-in-8
returns-in-8 g c = let f = (crossed Ends c.lend-bits.ensures.handle.0 c.back.ensures c.async_task_finish.ensures.path) in woken_last c.wake_last.result c.over-in-8.result.party ((a : _) × (r : _) × g.A.Wake.woken a r) (Takes ((a : _) × (r : _) × g.A.Wake.woken a r) c.args.h.now.hand.party) c.wake_last.ensures.party c.wake_last.ensures.woken (λ fact. subst (λ q. Takes ((a : _) × (r : _) × g.A.Wake.woken a r) c.args.h.now.hand.party q) (sym c.over-in-8.ensures) ((taken_wakes ((a : _) × (r : _) × g.A.Wake.woken a r) _ _ f.0 _ f.1 c.in-8.is).2 fact))

pub empty-requires-in-15-clause-handle : goal.empty-requires-in-15-clause-handle
empty-requires-in-15-clause-handle g c = let f = (crossed Ends c.lend-bits.ensures.handle.0 c.back.ensures c.async_task_finish.ensures.path) in (c.back.ensures.1, (taken_last_wakes Unit _ _ f.0 _ f.1 c.in-15.is).0)

pub empty-requires-in-15-clause-party : goal.empty-requires-in-15-clause-party
empty-requires-in-15-clause-party g c = let f = (crossed Ends c.lend-bits.ensures.handle.0 c.back.ensures c.async_task_finish.ensures.path) in (taken_last_wakes Unit _ _ f.0 _ f.1 c.in-15.is).1

pub returns-in-Some : goal.returns-in-Some
returns-in-Some g c = let f = (crossed Ends c.lend-bits.ensures.handle.0 c.back.ensures c.async_task_finish.ensures.path) in woken_last c.wake_last-in-Some.result c.in-Some.ended.party ((a : _) × (r : _) × g.A.Wake.woken a r) (Takes ((a : _) × (r : _) × g.A.Wake.woken a r) c.args.h.now.hand.party) c.wake_last-in-Some.ensures.party c.wake_last-in-Some.ensures.woken (λ fact. (taken_last_wakes ((a : _) × (r : _) × g.A.Wake.woken a r) _ _ f.0 _ f.1 c.in-15.is).2 c.in-Some.ended.party c.in-Some.ensures fact)
