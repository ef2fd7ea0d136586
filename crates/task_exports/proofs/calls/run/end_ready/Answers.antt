use Rattle.std.proofs.Common.{refl}
use Rattle.std.proofs.lemmas.Option.{IfSome_then}
use Rattle.task_exports.proofs.RunCall.{completed, keeps_it, kept, unclaimed, unclaimed_due}
use Rattle.task_exports.specs.declared.hand.Record.{Record}
use Rattle.task_exports.proofs.Crossing.{crossed}
use Rattle.task_exports.specs.Answers.{Completed}
use Rattle.task_exports.proofs.calls.run.end_ready.Goals as goal

pub end_unclaimed-requires-clause-handle : goal.end_unclaimed-requires-clause-handle
end_unclaimed-requires-clause-handle g c = let p = (crossed Completed c.lend-bits.ensures.handle.0 c.back.ensures c.async_task_complete.ensures.path) in (c.back.ensures.1, (unclaimed Unit (λ _. Unit) _ _ _ p c.in-5.is).0)

pub end_unclaimed-requires-clause-party : goal.end_unclaimed-requires-clause-party
end_unclaimed-requires-clause-party g c = let p = (crossed Completed c.lend-bits.ensures.handle.0 c.back.ensures c.async_task_complete.ensures.path) in (unclaimed Unit (λ _. Unit) _ _ _ p c.in-5.is).1

pub end_unclaimed-requires-in-6-clause-handle : goal.end_unclaimed-requires-in-6-clause-handle
end_unclaimed-requires-in-6-clause-handle g c = let p = (crossed Completed c.lend-bits.ensures.handle.0 c.back.ensures c.async_task_complete.ensures.path) in (c.back.ensures.1, (unclaimed_due Unit (λ _. Unit) _ _ _ p c.in-6.is).0)

pub end_unclaimed-requires-in-6-clause-party : goal.end_unclaimed-requires-in-6-clause-party
end_unclaimed-requires-in-6-clause-party g c = let p = (crossed Completed c.lend-bits.ensures.handle.0 c.back.ensures c.async_task_complete.ensures.path) in (unclaimed_due Unit (λ _. Unit) _ _ _ p c.in-6.is).1

pub returns-in-5 : goal.returns-in-5
returns-in-5 g c = let p = (crossed Completed c.lend-bits.ensures.handle.0 c.back.ensures c.async_task_complete.ensures.path) in IfSome_then c.end_unclaimed.result c.end_unclaimed.ensures (λ (ended : Record). λ t. (unclaimed ((a : _) × (r : _) × g.A.Wake.woken a r) g.C.Caller.did _ _ _ p c.in-5.is).2 (assumption c, assumption c) t.0 ended.party t.1)

pub returns-in-6 : goal.returns-in-6
returns-in-6 g c = let p = (crossed Completed c.lend-bits.ensures.handle.0 c.back.ensures c.async_task_complete.ensures.path) in IfSome_then c.end_unclaimed-in-6.result c.end_unclaimed-in-6.ensures (λ (ended : Record). λ t. (unclaimed_due ((a : _) × (r : _) × g.A.Wake.woken a r) g.C.Caller.did _ _ _ p c.in-6.is).2 (assumption c, assumption c) t.0 ended.party t.1)

pub leave-requires-clause-goes : goal.leave-requires-clause-goes
leave-requires-clause-goes g c = let p = (crossed Completed c.lend-bits.ensures.handle.0 c.back.ensures c.async_task_complete.ensures.path) in let k = kept Unit (λ _. Unit) _ _ 1 _ p c.in-1.is refl refl refl refl in (_, k.0.awaiter, completed k.0, k.3)

pub returns-in-1 : goal.returns-in-1
returns-in-1 g c = let p = (crossed Completed c.lend-bits.ensures.handle.0 c.back.ensures c.async_task_complete.ensures.path) in let k = kept ((a : _) × (r : _) × g.A.Wake.woken a r) g.C.Caller.did _ _ 1 _ p c.in-1.is refl refl refl refl in IfSome_then c.leave.result (c.leave.ensures _ k.0.awaiter (completed k.0) k.3) (λ (ended : Record). λ t. keeps_it ((a : _) × (r : _) × g.A.Wake.woken a r) g.C.Caller.did _ _ 1 k (assumption c, assumption c) ended.party t)

pub leave-requires-in-7-clause-goes : goal.leave-requires-in-7-clause-goes
leave-requires-in-7-clause-goes g c = let p = (crossed Completed c.lend-bits.ensures.handle.0 c.back.ensures c.async_task_complete.ensures.path) in let k = kept Unit (λ _. Unit) _ _ 7 _ p c.in-7.is refl refl refl refl in (_, k.0.awaiter, completed k.0, k.3)

pub returns-in-7 : goal.returns-in-7
returns-in-7 g c = let p = (crossed Completed c.lend-bits.ensures.handle.0 c.back.ensures c.async_task_complete.ensures.path) in let k = kept ((a : _) × (r : _) × g.A.Wake.woken a r) g.C.Caller.did _ _ 7 _ p c.in-7.is refl refl refl refl in IfSome_then c.leave-in-7.result (c.leave-in-7.ensures _ k.0.awaiter (completed k.0) k.3) (λ (ended : Record). λ t. keeps_it ((a : _) × (r : _) × g.A.Wake.woken a r) g.C.Caller.did _ _ 7 k (assumption c, assumption c) ended.party t)

pub leave-requires-in-9-clause-goes : goal.leave-requires-in-9-clause-goes
leave-requires-in-9-clause-goes g c = let p = (crossed Completed c.lend-bits.ensures.handle.0 c.back.ensures c.async_task_complete.ensures.path) in let k = kept Unit (λ _. Unit) _ _ 9 _ p c.in-9.is refl refl refl refl in (_, k.0.awaiter, completed k.0, k.3)

pub returns-in-9 : goal.returns-in-9
returns-in-9 g c = let p = (crossed Completed c.lend-bits.ensures.handle.0 c.back.ensures c.async_task_complete.ensures.path) in let k = kept ((a : _) × (r : _) × g.A.Wake.woken a r) g.C.Caller.did _ _ 9 _ p c.in-9.is refl refl refl refl in IfSome_then c.leave-in-9.result (c.leave-in-9.ensures _ k.0.awaiter (completed k.0) k.3) (λ (ended : Record). λ t. keeps_it ((a : _) × (r : _) × g.A.Wake.woken a r) g.C.Caller.did _ _ 9 k (assumption c, assumption c) ended.party t)
