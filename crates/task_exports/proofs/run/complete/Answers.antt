use Rattle.std.specs.Prelude.{IfNone, ◌-◌, ◌^◌}
use Rattle.task_steps.specs.Attempts.{HasMissed}
use Rattle.task_cell.proofs.Vocabulary.{◌∙◌, sym, ap, subst, refl, ◌∷◌, [], false, Bool, if◌then◌else◌, IfSome, OfRun, Ran, ReadyFutureDropped, AnswerReady, DropFuture, Completes, Stands, notifies, act, work_first}
use Rattle.task_cell.proofs.Moved.{stands, did_then}
use Rattle.task_exports.specs.Answers.{GoesOn, complete_missed}
use Rattle.task_exports.specs.declared.hand.Hand.{Hand}
use Rattle.task_exports.proofs.Live.{of_cell}
use Rattle.task_exports.proofs.Runs.{completed, kept_stands, completed_keeps, completed_drops}
use Rattle.task_core.specs.Yielded.{unpolled}
use Rattle.task_exports.proofs.run.complete.Goals as goal

pub answer_ready-requires-clause-party : goal.answer_ready-requires-clause-party
answer_ready-requires-clause-party c = let s = c.requires.party in (work_first s.0 [], s.1)

pub take-requires-clause-cell : goal.take-requires-clause-cell
take-requires-clause-cell c = let s = c.requires.party in let a = c.answer_ready.ensures (work_first s.0 []) s.1 in a.cell ∙ of_cell c.args.hand.share c.share-share.result c.args.hand.party c.requires.hand c.share-share.ensures

pub take-requires-clause-party : goal.take-requires-clause-party
take-requires-clause-party c = let s = c.requires.party in let a = c.answer_ready.ensures (work_first s.0 []) s.1 in (ReadyFutureDropped, s.0, [], stands _ _ _ _ _ a)

pub complete_some-completed-requires-clause-cell : goal.complete_some-completed-requires-clause-cell
complete_some-completed-requires-clause-cell c = let s = c.requires.party in let a = c.answer_ready.ensures (work_first s.0 []) s.1 in let x = c.take.ensures ReadyFutureDropped s.0 [] (stands _ _ _ _ _ a) in
    x.cell ∙ (a.cell ∙ of_cell c.args.hand.share c.share-share.result c.args.hand.party c.requires.hand c.share-share.ensures)

pub complete_some-completed-requires-clause-party : goal.complete_some-completed-requires-clause-party
complete_some-completed-requires-clause-party c = let s = c.requires.party in let a = c.answer_ready.ensures (work_first s.0 []) s.1 in let x = c.take.ensures ReadyFutureDropped s.0 [] (stands _ _ _ _ _ a) in stands _ _ _ _ _ x

pub go_on-requires-clause-hand : goal.go_on-requires-clause-hand
go_on-requires-clause-hand c = let s = c.requires.party in let a = c.answer_ready.ensures (work_first s.0 []) s.1 in let x = c.take.ensures ReadyFutureDropped s.0 [] (stands _ _ _ _ _ a) in
    let g = did_then _ _ _ (act AnswerReady ∷ act DropFuture ∷ []) [] _ _ _ _ a x in let d = subst (λ o. IfSome o (λ w. Completes c.take.new.party c.complete_some-completed.new.party w)) c.in-Some.is c.complete_some-completed.ensures.path in
    completed c.args.hand.share c.into_maybe-share.result c.share-share.result c.args.hand.party c.take.new.party c.complete_some-completed.new.party _ c.requires.hand c.share-share.ensures c.into_maybe-share.ensures g d

pub go_on-requires-clause-party : goal.go_on-requires-clause-party
go_on-requires-clause-party c = let d = subst (λ o. IfSome o (λ w. Completes c.take.new.party c.complete_some-completed.new.party w)) c.in-Some.is c.complete_some-completed.ensures.path in
    (OfRun, (Ran false, refl), subst (λ b. Stands (notifies b OfRun) c.complete_some-completed.new.party) (sym c.awaiter-due.ensures) (kept_stands _ _ _ d (sym c.keeps_output.ensures ∙ c.if-keeps_output.true)))

pub returns-then-keeps_output-clause-path : goal.returns-then-keeps_output-clause-path
returns-then-keeps_output-clause-path c = let s = c.requires.party in let a = c.answer_ready.ensures (work_first s.0 []) s.1 in let x = c.take.ensures ReadyFutureDropped s.0 [] (stands _ _ _ _ _ a) in
    let g = did_then _ _ _ (act AnswerReady ∷ act DropFuture ∷ []) [] _ _ _ _ a x in let d = subst (λ o. IfSome o (λ w. Completes c.take.new.party c.complete_some-completed.new.party w)) c.in-Some.is c.complete_some-completed.ensures.path in
    let keep = sym c.keeps_output.ensures ∙ c.if-keeps_output.true in let t = subst (λ b. Stands (notifies b OfRun) c.complete_some-completed.new.party) (sym c.awaiter-due.ensures) (kept_stands _ _ _ d keep) in
    let m : Hand = record { share = c.into_maybe-share.result; party = c.complete_some-completed.new.party } in
    completed_keeps _ m _ _ _ _ g d keep (subst (λ b. GoesOn OfRun b [] m c.go_on.result.0 c.go_on.result.1) c.awaiter-due.ensures (c.go_on.ensures.path OfRun (Ran false, refl) t))

pub returns-in-None-clause-path : goal.returns-in-None-clause-path
returns-in-None-clause-path c = complete_missed (subst (λ o. IfNone o (HasMissed (2 ^ 64 - 1) c.complete_some-completed.new.party.seat.me)) c.in-None.is c.complete_some-completed.ensures.missed)

pub returns-then-due-clause-path : goal.returns-then-due-clause-path
returns-then-due-clause-path c = let s = c.requires.party in let a = c.answer_ready.ensures (work_first s.0 []) s.1 in let x = c.take.ensures ReadyFutureDropped s.0 [] (stands _ _ _ _ _ a) in
    let g = did_then _ _ _ (act AnswerReady ∷ act DropFuture ∷ []) [] _ _ _ _ a x in let d = subst (λ o. IfSome o (λ w. Completes c.take.new.party c.complete_some-completed.new.party w)) c.in-Some.is c.complete_some-completed.ensures.path in
    completed_drops _ _ _ _ _ g d (sym c.keeps_output.ensures ∙ c.if-keeps_output.false)
    (completed c.args.hand.share c.into_maybe-share.result c.share-share.result c.args.hand.party c.take.new.party c.complete_some-completed.new.party _ c.requires.hand c.share-share.ensures c.into_maybe-share.ensures g d)
    (ap (λ (b : Bool). if b then 6 else 5) (sym c.awaiter-due.ensures ∙ c.if-due.true))

pub returns-else-due-clause-path : goal.returns-else-due-clause-path
returns-else-due-clause-path c = let s = c.requires.party in let a = c.answer_ready.ensures (work_first s.0 []) s.1 in let x = c.take.ensures ReadyFutureDropped s.0 [] (stands _ _ _ _ _ a) in
    let g = did_then _ _ _ (act AnswerReady ∷ act DropFuture ∷ []) [] _ _ _ _ a x in let d = subst (λ o. IfSome o (λ w. Completes c.take.new.party c.complete_some-completed.new.party w)) c.in-Some.is c.complete_some-completed.ensures.path in
    completed_drops _ _ _ _ _ g d (sym c.keeps_output.ensures ∙ c.if-keeps_output.false)
    (completed c.args.hand.share c.into_maybe-share.result c.share-share.result c.args.hand.party c.take.new.party c.complete_some-completed.new.party _ c.requires.hand c.share-share.ensures c.into_maybe-share.ensures g d)
    (ap (λ (b : Bool). if b then 6 else 5) (sym c.awaiter-due.ensures ∙ c.if-due.false))

pub complete_some-completed-requires-clause-yielded : goal.complete_some-completed-requires-clause-yielded
complete_some-completed-requires-clause-yielded c = let spawned = c.share-share.result.block.key.future.value in record { before = spawned; after = spawned; continued = unpolled; answered = tt }
