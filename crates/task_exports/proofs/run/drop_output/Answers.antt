use Rattle.task_cell.proofs.Vocabulary.{refl, false, ◌∷◌, [], OfRun, Ran, DropOutput, act}
use Rattle.task_cell.proofs.Moved.{stands}
use Rattle.task_exports.proofs.Live.{lives_on}
use Rattle.task_exports.proofs.Goes.{goes_on}
use Rattle.task_exports.proofs.run.drop_output.Goals as goal

pub drop_output-requires-clause-party : goal.drop_output-requires-clause-party
drop_output-requires-clause-party c = (c.args.due, c.requires.party.0, c.requires.party.1)

pub go_on-requires-clause-hand : goal.go_on-requires-clause-hand
go_on-requires-clause-hand c = lives_on c.args.hand.share c.into_maybe-share.result c.share-share.result c.args.hand.party _ _ _ _ c.requires.hand c.share-share.ensures c.into_maybe-share.ensures (c.drop_output.ensures c.args.due c.requires.party.0 c.requires.party.1)

pub go_on-requires-clause-party : goal.go_on-requires-clause-party
go_on-requires-clause-party c = (OfRun, (Ran false, refl), stands _ _ _ _ _ (c.drop_output.ensures c.args.due c.requires.party.0 c.requires.party.1))

pub returns : goal.returns
returns c = let h = c.drop_output.ensures c.args.due c.requires.party.0 c.requires.party.1 in
    goes_on OfRun c.args.due (act DropOutput ∷ []) _ _ _ _ _ _ h (c.go_on.ensures.path OfRun (Ran false, refl) (stands _ _ _ _ _ h))
