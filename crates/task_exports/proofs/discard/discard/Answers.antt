use Rattle.task_exports.proofs.Live.{lives_on}
use Rattle.task_exports.proofs.discard.discard.Goals as goal

pub returns-clause-hand : goal.returns-clause-hand
returns-clause-hand c = lives_on c.args.hand.share c.into_maybe-share.result c.share-share.result c.args.hand.party _ _ _ _ c.requires.hand c.share-share.ensures c.into_maybe-share.ensures c.discard_start.ensures.3

pub returns-clause-path : goal.returns-clause-path
returns-clause-path c = let d = c.discard_start.ensures in (d.0, d.1, d.2, d.3)
