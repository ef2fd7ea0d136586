use Rattle.task_cell.proofs.Vocabulary.{[], ◌∷◌, OfDrop, Nothing, WakeAwaiter, act}
use Rattle.task_cell.proofs.Moved.{stands}
use Rattle.task_exports.proofs.Given.{woken_at}
use Rattle.task_exports.proofs.Live.{lives_on}
use Rattle.task_exports.proofs.Goes.{gives_on}
use Rattle.task_exports.proofs.discard.discard_woken.Goals as goal

pub note_woken-requires-clause-party : goal.note_woken-requires-clause-party
note_woken-requires-clause-party c = (c.requires.party.0, OfDrop, [], c.requires.party.1)

pub give_back-requires-clause-hand : goal.give_back-requires-clause-hand
give_back-requires-clause-hand c = lives_on c.args.hand.share c.into_maybe-share.result c.share-share.result c.args.hand.party _ _ _ _ c.requires.hand c.share-share.ensures c.into_maybe-share.ensures (woken_at OfDrop _ _ _ c.requires.party.1 c.note_woken.ensures)

pub give_back-requires-clause-party : goal.give_back-requires-clause-party
give_back-requires-clause-party c = (Nothing, stands _ _ _ _ _ (woken_at OfDrop _ _ _ c.requires.party.1 c.note_woken.ensures))

pub returns : goal.returns
returns c = gives_on (act WakeAwaiter ∷ []) [] _ _ _ _ _ _ (woken_at OfDrop _ _ _ c.requires.party.1 c.note_woken.ensures) c.give_back.ensures.path
