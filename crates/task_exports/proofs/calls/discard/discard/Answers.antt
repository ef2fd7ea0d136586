use Rattle.std.proofs.lemmas.Option.{IfSome_then}
use Rattle.task_cell.proofs.Moved.{stands}
use Rattle.task_exports.proofs.DiscardCall.{discards}
use Rattle.task_exports.specs.declared.hand.Record.{Record}
use Rattle.task_exports.proofs.calls.discard.discard.Goals as goal

pub end_dropped-requires-clause-party : goal.end_dropped-requires-clause-party
end_dropped-requires-clause-party g c = let p = c.async_task_discard.ensures.path in (p.1, stands _ _ _ _ _ p.3)

pub returns-in-4 : goal.returns-in-4
returns-in-4 g c = let p = c.async_task_discard.ensures.path in IfSome_then c.end_dropped.result c.end_dropped.ensures (λ (ended : Record). λ t. discards ((a : _) × (r : _) × g.A.Wake.woken a r) g.C.Caller.did _ _ ended.party p t.0 t.1)
