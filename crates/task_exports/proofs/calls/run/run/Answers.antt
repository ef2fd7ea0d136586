use Rattle.std.proofs.Common.{Bool}
use Rattle.std.proofs.lemmas.Option.{IfSome_then}
use Rattle.task_core.specs.declared.acts.Act.TheVariants.{DropFuture}
use Rattle.task_core.specs.declared.traits.Poll.{Poll}
use Rattle.task_exports.proofs.RunCall.{Closes, Readied, Runs, finds_closed, is_polling, starts, stays_so, was_pending, was_ready}
use Rattle.task_exports.specs.declared.hand.Record.{Record}
use Rattle.task_exports.proofs.Crossing.{crossed}
use Rattle.task_exports.specs.Answers.{Starts}
use Rattle.task_exports.proofs.calls.run.run.Goals as goal

pub end_closed-requires-clause-handle : goal.end_closed-requires-clause-handle
end_closed-requires-clause-handle g c = let s = (crossed Starts c.lend-bits.ensures.handle.0 c.back.ensures c.async_task_start.ensures.path) in (c.back.ensures.1, (finds_closed Unit (λ _. Unit) (λ _. Unit) (λ (_ : Poll Unit). Unit) _ _ _ s c.in-4.is).0)

pub end_closed-requires-clause-party : goal.end_closed-requires-clause-party
end_closed-requires-clause-party g c = let s = (crossed Starts c.lend-bits.ensures.handle.0 c.back.ensures c.async_task_start.ensures.path) in (finds_closed Unit (λ _. Unit) (λ _. Unit) (λ (_ : Poll Unit). Unit) _ _ _ s c.in-4.is).1

pub returns-in-4 : goal.returns-in-4
returns-in-4 g c = let s = (crossed Starts c.lend-bits.ensures.handle.0 c.back.ensures c.async_task_start.ensures.path) in stays_so c.end_closed.result c.stays.result (λ ended. g.C.Caller.did DropFuture × Closes ((a : _) × (r : _) × g.A.Wake.woken a r) g.C.Caller.did g.C.Caller.scheduled g.C.Caller.polled c.back.new.h.hand.party ended.party) (λ call. Runs ((a : _) × (r : _) × g.A.Wake.woken a r) g.C.Caller.did g.C.Caller.scheduled g.C.Caller.polled call.0 c.args.h.now.hand.party call.1.party) c.stays.ensures c.end_closed.ensures (λ ended t. (finds_closed ((a : _) × (r : _) × g.A.Wake.woken a r) g.C.Caller.did g.C.Caller.scheduled g.C.Caller.polled _ _ _ s c.in-4.is).2 t.0 ended.party t.1)

pub poll-requires : goal.poll-requires
poll-requires g c = let s = (crossed Starts c.lend-bits.ensures.handle.0 c.back.ensures c.async_task_start.ensures.path) in record { handle = (c.back.ensures.1, (starts Unit (λ _. Unit) (λ _. Unit) (λ (_ : Poll Unit). Unit) _ _ _ s c.in-3.is).0) }

pub end_ready-requires-clause-party : goal.end_ready-requires-clause-party
end_ready-requires-clause-party g c = let s = (crossed Starts c.lend-bits.ensures.handle.0 c.back.ensures c.async_task_start.ensures.path) in let y = is_polling Unit (λ _. Unit) (λ _. Unit) (λ (_ : Poll Unit). Unit) _ _ _ c.in-Ready.ensures.lent.1 (starts Unit (λ _. Unit) (λ _. Unit) (λ (_ : Poll Unit). Unit) _ _ _ s c.in-3.is).1 in (y.0, y.1)

pub returns-in-Ready : goal.returns-in-Ready
returns-in-Ready g c = let s = (crossed Starts c.lend-bits.ensures.handle.0 c.back.ensures c.async_task_start.ensures.path) in stays_so c.end_ready.result c.stays-in-Ready.result (λ ended. Readied ((a : _) × (r : _) × g.A.Wake.woken a r) g.C.Caller.did c.poll.new.h.hand.party ended.party) (λ call. Runs ((a : _) × (r : _) × g.A.Wake.woken a r) g.C.Caller.did g.C.Caller.scheduled g.C.Caller.polled call.0 c.args.h.now.hand.party call.1.party) c.stays-in-Ready.ensures c.end_ready.ensures (λ ended t. was_ready ((a : _) × (r : _) × g.A.Wake.woken a r) g.C.Caller.did g.C.Caller.scheduled g.C.Caller.polled _ _ _ ended.party c.in-Ready.output c.in-Ready.ensures.lent.1 (starts ((a : _) × (r : _) × g.A.Wake.woken a r) g.C.Caller.did g.C.Caller.scheduled g.C.Caller.polled _ _ _ s c.in-3.is).1 c.in-Ready.ensures.fact t)

pub end_pending-requires-clause-party : goal.end_pending-requires-clause-party
end_pending-requires-clause-party g c = let s = (crossed Starts c.lend-bits.ensures.handle.0 c.back.ensures c.async_task_start.ensures.path) in is_polling Unit (λ _. Unit) (λ _. Unit) (λ (_ : Poll Unit). Unit) _ _ _ c.in-Pending.ensures.lent.1 (starts Unit (λ _. Unit) (λ _. Unit) (λ (_ : Poll Unit). Unit) _ _ _ s c.in-3.is).1

pub returns-in-Pending : goal.returns-in-Pending
returns-in-Pending g c = let s = (crossed Starts c.lend-bits.ensures.handle.0 c.back.ensures c.async_task_start.ensures.path) in IfSome_then c.end_pending.result c.end_pending.ensures (λ (call : Bool × Record). λ t. was_pending ((a : _) × (r : _) × g.A.Wake.woken a r) g.C.Caller.did g.C.Caller.scheduled g.C.Caller.polled _ _ _ call.1.party call.0 c.in-Pending.ensures.lent.1 (starts ((a : _) × (r : _) × g.A.Wake.woken a r) g.C.Caller.did g.C.Caller.scheduled g.C.Caller.polled _ _ _ s c.in-3.is).1 c.in-Pending.ensures.fact t)
