use Rattle.task_cell.proofs.Vocabulary.{sym, subst, refl, false, ◌∷◌, [], OfRun, Ran, EndClosed, notifies, Stands, row}
use Rattle.task_cell.proofs.Moved.{stands}
use Rattle.task_exports.specs.Answers.{GoesOn}
use Rattle.task_exports.specs.declared.hand.Hand.{Hand}
use Rattle.task_exports.proofs.Live.{lives_on}
use Rattle.task_exports.proofs.Goes.{goes_on}
use Rattle.task_exports.proofs.run.end_closed.Goals as goal

pub go_on-requires-clause-hand : goal.go_on-requires-clause-hand
go_on-requires-clause-hand c = lives_on c.args.hand.share c.into_maybe-share.result c.share-share.result c.args.hand.party _ _ _ _ c.requires.hand c.share-share.ensures c.into_maybe-share.ensures c.end_closed-found.ensures.1

pub go_on-requires-clause-party : goal.go_on-requires-clause-party
go_on-requires-clause-party c = (OfRun, (Ran false, refl), subst (λ b. Stands (notifies b OfRun) c.end_closed-found.new.party) (sym c.awaiter.ensures) (stands _ _ _ _ _ c.end_closed-found.ensures.1))

pub returns : goal.returns
returns c = let w = c.end_closed-found.result in let h = c.end_closed-found.ensures in
    let m : Hand = record { share = c.into_maybe-share.result; party = c.end_closed-found.new.party } in let t = subst (λ b. Stands (notifies b OfRun) c.end_closed-found.new.party) (sym c.awaiter.ensures) (stands _ _ _ _ _ h.1) in
    (w, h.0, goes_on OfRun w.awaiter (row EndClosed w ∷ []) _ _ _ m _ _ h.1 (subst (λ b. GoesOn OfRun b [] m c.go_on.result.0 c.go_on.result.1) c.awaiter.ensures (c.go_on.ensures.path OfRun (Ran false, refl) t)))
