use Rattle.std.proofs.Common.{◌∙◌}
use Rattle.task_exports.proofs.Registering.{has_settled, stored_after}
use Rattle.task_exports.proofs.register.RegisteredStep.make.Goals as goal

pub end_store-requires-clause-party : goal.end_store-requires-clause-party
end_store-requires-clause-party c = let s = c.requires.starts in (s.0, has_settled s.0 c.args.self.stood c.args.party.now c.settle.new.party (c.settle.ensures s.0 s.1))

pub returns : goal.returns
returns c = record { does = λ n s1. let x = c.settle.ensures n s1 in (stored_after n c.args.self.stood c.args.party.now c.settle.new.party c.end_store.new.party c.end_store.result x (c.end_store.ensures n (has_settled n c.args.self.stood c.args.party.now c.settle.new.party x))) }

pub end_store-requires-clause-cell : goal.end_store-requires-clause-cell
end_store-requires-clause-cell c = let s = c.requires.starts in (c.settle.ensures s.0 s.1).2.cell ∙ c.requires.cell.0
