use Rattle.task_exports.proofs.Registering.{nothing_stood, over_old, settled}
use Rattle.task_exports.proofs.register.settle.Goals as goal

pub note_old_dropped-requires-clause-party : goal.note_old_dropped-requires-clause-party
note_old_dropped-requires-clause-party c = let s = c.requires.party in over_old s.0 c.args.stood c.args.party.now s.1 c.if-stood.true

pub returns-then-stood : goal.returns-then-stood
returns-then-stood c = λ i s. settled i c.args.stood c.args.party.now c.note_old_dropped.new.party s c.if-stood.true c.note_old_dropped.ensures

pub returns-else-stood : goal.returns-else-stood
returns-else-stood c = λ i s. nothing_stood i c.args.stood c.args.party.now s c.if-stood.false
