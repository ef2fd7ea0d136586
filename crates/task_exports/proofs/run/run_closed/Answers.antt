use Rattle.task_cell.proofs.Vocabulary.{◌∙◌, sym, subst, refl, ◌∷◌, [], OfRun, ClosedRun, Ran, false, FutureGone, Unschedule, notifies, Empty, Stands, row, work_first}
use Rattle.task_cell.proofs.Moved.{stands}
use Rattle.task_cell.proofs.RunRest.{unscheduled}
use Rattle.task_exports.specs.Answers.{GoesOn}
use Rattle.task_exports.specs.declared.hand.Hand.{Hand}
use Rattle.task_exports.proofs.Live.{of_cell, lives_on}
use Rattle.task_exports.proofs.Goes.{goes_on}
use Rattle.task_exports.proofs.run.run_closed.Goals as goal

pub take-requires-clause-party : goal.take-requires-clause-party
take-requires-clause-party c = let s = c.requires.party in (FutureGone ClosedRun, s.0, [], s.1)

pub unschedule-found-requires-clause-cell : goal.unschedule-found-requires-clause-cell
unschedule-found-requires-clause-cell c = let s = c.requires.party in let x = c.take.ensures (FutureGone ClosedRun) s.0 [] s.1 in x.cell ∙ of_cell c.args.hand.share c.share-share.result c.args.hand.party c.requires.hand c.share-share.ensures

pub unschedule-found-requires-clause-party : goal.unschedule-found-requires-clause-party
unschedule-found-requires-clause-party c = let s = c.requires.party in let x = c.take.ensures (FutureGone ClosedRun) s.0 [] s.1 in (ClosedRun, stands _ _ _ _ _ x)

pub go_on-requires-clause-hand : goal.go_on-requires-clause-hand
go_on-requires-clause-hand c = let s = c.requires.party in let x = c.take.ensures (FutureGone ClosedRun) s.0 [] s.1 in let w = c.unschedule-found.result in
    let h = unscheduled ClosedRun w (work_first Empty []) _ _ _ x c.unschedule-found.ensures in lives_on c.args.hand.share c.into_maybe-share.result c.share-share.result c.args.hand.party _ _ _ _ c.requires.hand c.share-share.ensures c.into_maybe-share.ensures h

pub go_on-requires-clause-party : goal.go_on-requires-clause-party
go_on-requires-clause-party c = let s = c.requires.party in let x = c.take.ensures (FutureGone ClosedRun) s.0 [] s.1 in let w = c.unschedule-found.result in
    let h = unscheduled ClosedRun w (work_first Empty []) _ _ _ x c.unschedule-found.ensures in (OfRun, (Ran false, refl), subst (λ b. Stands (notifies b OfRun) c.unschedule-found.new.party) (sym c.awaiter.ensures) (stands _ _ _ _ _ h))

pub returns : goal.returns
returns c = let s = c.requires.party in let x = c.take.ensures (FutureGone ClosedRun) s.0 [] s.1 in let w = c.unschedule-found.result in
    let h = unscheduled ClosedRun w (work_first Empty []) _ _ _ x c.unschedule-found.ensures in
    let m : Hand = record { share = c.into_maybe-share.result; party = c.unschedule-found.new.party } in let t = subst (λ b. Stands (notifies b OfRun) c.unschedule-found.new.party) (sym c.awaiter.ensures) (stands _ _ _ _ _ h) in
    (w, goes_on OfRun w.awaiter (row Unschedule w ∷ []) _ _ _ m _ _ h (subst (λ b. GoesOn OfRun b [] m c.go_on.result.0 c.go_on.result.1) c.awaiter.ensures (c.go_on.ensures.path OfRun (Ran false, refl) t)))
