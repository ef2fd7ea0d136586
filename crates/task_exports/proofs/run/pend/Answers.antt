use Rattle.task_cell.proofs.Vocabulary.{◌∷◌, AnswerPending, EndCall, EndOrphaned, HandOver, Reschedule, act, as_ended, row, ◌∙◌, sym, ap, refl, subst, [], true, false, not, Some, None, IfOk, IfErr, Ran, ThenEnds, Deliverer, Rescheduled, Idle, Orphaned, work_first}
use Rattle.task_steps.specs.RunScripts.{ends_run}
use Rattle.task_cell.specs.Belongs.{IsSame, Leaves}
use Rattle.task_cell.specs.RunCalls.{end_of}
use Rattle.task_cell.proofs.Moved.{did_then, stands, limit_is}
use Rattle.task_cell.proofs.Sharing.{same_block, same_limit}
use Rattle.task_cell.proofs.RunEnds.{cleared_first, left_pending, by_end}
use Rattle.task_exports.specs.Answers.{pend_missed, closed, woken, idle, orphaned}
use Rattle.task_exports.proofs.Live.{of_cell, of_limit, lives_on, lives_kept}
use Rattle.task_exports.proofs.Unknown.{known_future}
use Rattle.task_exports.proofs.run.pend.Goals as goal

pub answer_pending-found-requires-clause-party : goal.answer_pending-found-requires-clause-party
answer_pending-found-requires-clause-party c = let s = c.requires.party in (work_first s.0 [], s.1)

pub returns-then-closed-clause-path : goal.returns-then-closed-clause-path
returns-then-closed-clause-path c = let s = c.requires.party in let a = c.answer_pending-found.ensures.path (work_first s.0 []) s.1 in
    let d = cleared_first _ _ _ _ a (sym c.closed.ensures ∙ c.if-closed.true) in closed s.0 (lives_on c.args.hand.share c.into_maybe-share.result c.share-share.result c.args.hand.party _ _ _ _ c.requires.hand c.share-share.ensures c.into_maybe-share.ensures d) d

pub end_pending_some-requires-clause-cell : goal.end_pending_some-requires-clause-cell
end_pending_some-requires-clause-cell c = let s = c.requires.party in let a = left_pending _ _ _ _ (c.answer_pending-found.ensures.path (work_first s.0 []) s.1) (sym c.closed.ensures ∙ c.if-closed.false) in
    (a.cell ∙ of_cell c.args.hand.share c.share-share.result c.args.hand.party c.requires.hand c.share-share.ensures, limit_is _ _ _ _ _ a ∙ of_limit c.args.hand.share c.share-share.result c.args.hand.party c.requires.hand c.share-share.ensures)

pub end_pending_some-requires-clause-party : goal.end_pending_some-requires-clause-party
end_pending_some-requires-clause-party c = let s = c.requires.party in (s.0, stands _ _ _ _ _ (left_pending _ _ _ _ (c.answer_pending-found.ensures.path (work_first s.0 []) s.1) (sym c.closed.ensures ∙ c.if-closed.false)), known_future (λ _ _ _. tt) c.share-share.result.block.key.future.value s.0 s.2)

pub share-requires : goal.share-requires
share-requires c = let l = subst (λ t. IfOk t (λ r. Leaves c.share-share.result r.1 (not (ends_run r.0)))) c.in-Ok-Ok.field-0-is c.in-Ok-Ok.ensures.share in record { there = l.is_there ∙ ap (λ x. not (ends_run x)) c.in-Rescheduled.is }

pub hand_on-hand-requires-clause-cell : goal.hand_on-hand-requires-clause-cell
hand_on-hand-requires-clause-cell c = let s = c.requires.party in let x = by_end _ _ _ _ _ s.0 (c.answer_pending-found.ensures.path (work_first s.0 []) s.1) (sym c.closed.ensures ∙ c.if-closed.false) c.in-Ok-Ok.ensures.path (Some Rescheduled) (ap end_of c.in-Ok-Ok.field-0-is ∙ ap (λ x. Some x) c.in-Rescheduled.is) in let l = subst (λ t. IfOk t (λ r. Leaves c.share-share.result r.1 (not (ends_run r.0)))) c.in-Ok-Ok.field-0-is c.in-Ok-Ok.ensures.share in
    (x.3.cell ∙ (of_cell c.args.hand.share c.share-share.result c.args.hand.party c.requires.hand c.share-share.ensures ∙ sym (same_block c.share-share.result c.share.result c.in-Ok-Ok.ended.1 _ l c.share.ensures)), limit_is _ _ _ _ _ x.3 ∙ (of_limit c.args.hand.share c.share-share.result c.args.hand.party c.requires.hand c.share-share.ensures ∙ sym (same_limit c.share-share.result c.share.result c.in-Ok-Ok.ended.1 _ l c.share.ensures)))

pub hand_on-hand-requires-clause-party : goal.hand_on-hand-requires-clause-party
hand_on-hand-requires-clause-party c = let s = c.requires.party in let x = by_end _ _ _ _ _ s.0 (c.answer_pending-found.ensures.path (work_first s.0 []) s.1) (sym c.closed.ensures ∙ c.if-closed.false) c.in-Ok-Ok.ensures.path (Some Rescheduled) (ap end_of c.in-Ok-Ok.field-0-is ∙ ap (λ x. Some x) c.in-Rescheduled.is) in (Deliverer true (ThenEnds (Ran true)), Ran true, refl, refl, stands _ _ _ _ _ x.3)

pub returns-in-Rescheduled-clause-path : goal.returns-in-Rescheduled-clause-path
returns-in-Rescheduled-clause-path c = let s = c.requires.party in let x = by_end _ _ _ _ _ s.0 (c.answer_pending-found.ensures.path (work_first s.0 []) s.1) (sym c.closed.ensures ∙ c.if-closed.false) c.in-Ok-Ok.ensures.path (Some Rescheduled) (ap end_of c.in-Ok-Ok.field-0-is ∙ ap (λ x. Some x) c.in-Rescheduled.is) in let o = c.hand_on-hand.ensures in woken x.0 c.hand_on-hand.result.1.party x.1 x.2 o.runnable.0 o.runnable.2
    (did_then _ _ _ (act AnswerPending ∷ row Reschedule x.0 ∷ []) (act HandOver ∷ act EndCall ∷ []) (Deliverer true (ThenEnds (Ran true))) as_ended [] [] x.3 o.ended)

pub share-requires-in-Orphaned : goal.share-requires-in-Orphaned
share-requires-in-Orphaned c = let l = subst (λ t. IfOk t (λ r. Leaves c.share-share.result r.1 (not (ends_run r.0)))) c.in-Ok-Ok.field-0-is c.in-Ok-Ok.ensures.share in record { there = l.is_there ∙ ap (λ x. not (ends_run x)) c.in-Orphaned.is }

pub hand_on-hand-requires-in-Orphaned-clause-cell : goal.hand_on-hand-requires-in-Orphaned-clause-cell
hand_on-hand-requires-in-Orphaned-clause-cell c = let s = c.requires.party in let x = by_end _ _ _ _ _ s.0 (c.answer_pending-found.ensures.path (work_first s.0 []) s.1) (sym c.closed.ensures ∙ c.if-closed.false) c.in-Ok-Ok.ensures.path (Some Orphaned) (ap end_of c.in-Ok-Ok.field-0-is ∙ ap (λ x. Some x) c.in-Orphaned.is) in let l = subst (λ t. IfOk t (λ r. Leaves c.share-share.result r.1 (not (ends_run r.0)))) c.in-Ok-Ok.field-0-is c.in-Ok-Ok.ensures.share in
    (x.4.cell ∙ (of_cell c.args.hand.share c.share-share.result c.args.hand.party c.requires.hand c.share-share.ensures ∙ sym (same_block c.share-share.result c.share-in-Orphaned.result c.in-Ok-Ok.ended.1 _ l c.share-in-Orphaned.ensures)), limit_is _ _ _ _ _ x.4 ∙ (of_limit c.args.hand.share c.share-share.result c.args.hand.party c.requires.hand c.share-share.ensures ∙ sym (same_limit c.share-share.result c.share-in-Orphaned.result c.in-Ok-Ok.ended.1 _ l c.share-in-Orphaned.ensures)))

pub hand_on-hand-requires-in-Orphaned-clause-party : goal.hand_on-hand-requires-in-Orphaned-clause-party
hand_on-hand-requires-in-Orphaned-clause-party c = let s = c.requires.party in let x = by_end _ _ _ _ _ s.0 (c.answer_pending-found.ensures.path (work_first s.0 []) s.1) (sym c.closed.ensures ∙ c.if-closed.false) c.in-Ok-Ok.ensures.path (Some Orphaned) (ap end_of c.in-Ok-Ok.field-0-is ∙ ap (λ x. Some x) c.in-Orphaned.is) in (Deliverer false (ThenEnds (Ran false)), Ran false, refl, refl, stands _ _ _ _ _ x.4)

pub returns-in-Orphaned-clause-path : goal.returns-in-Orphaned-clause-path
returns-in-Orphaned-clause-path c = let s = c.requires.party in let x = by_end _ _ _ _ _ s.0 (c.answer_pending-found.ensures.path (work_first s.0 []) s.1) (sym c.closed.ensures ∙ c.if-closed.false) c.in-Ok-Ok.ensures.path (Some Orphaned) (ap end_of c.in-Ok-Ok.field-0-is ∙ ap (λ x. Some x) c.in-Orphaned.is) in let o = c.hand_on-hand-in-Orphaned.ensures in orphaned x.0 c.hand_on-hand-in-Orphaned.result.1.party x.1 x.2 x.3 o.runnable.0 o.runnable.2
    (did_then _ _ _ (act AnswerPending ∷ row EndOrphaned x.0 ∷ []) (act HandOver ∷ act EndCall ∷ []) (Deliverer false (ThenEnds (Ran false))) as_ended [] [] x.4 o.ended)

pub returns-in-Idle-clause-path : goal.returns-in-Idle-clause-path
returns-in-Idle-clause-path c = let s = c.requires.party in let x = by_end _ _ _ _ _ s.0 (c.answer_pending-found.ensures.path (work_first s.0 []) s.1) (sym c.closed.ensures ∙ c.if-closed.false) c.in-Ok-Ok.ensures.path (Some Idle) (ap end_of c.in-Ok-Ok.field-0-is ∙ ap (λ x. Some x) c.in-Idle.is) in let l = subst (λ t. IfOk t (λ r. Leaves c.share-share.result r.1 (not (ends_run r.0)))) c.in-Ok-Ok.field-0-is c.in-Ok-Ok.ensures.share in idle x.0 x.1 x.2 x.3 (l.is_there ∙ ap (λ x. not (ends_run x)) c.in-Idle.is, l.is_last) x.4

pub returns-in-Ok-Err-clause-path : goal.returns-in-Ok-Err-clause-path
returns-in-Ok-Err-clause-path c = let s = c.requires.party in let x = by_end _ _ _ _ _ s.0 (c.answer_pending-found.ensures.path (work_first s.0 []) s.1) (sym c.closed.ensures ∙ c.if-closed.false) c.in-Ok-Err.ensures.path None (ap end_of c.in-Ok-Err.field-0-is) in
    let same = subst (λ t. IfErr t (λ k. IsSame c.share-share.result k)) c.in-Ok-Err.field-0-is c.in-Ok-Err.ensures.kept in
    closed s.0 (lives_kept c.args.hand.share c.into_maybe-share-in-Ok-Err.result c.share-share.result c.in-Ok-Err.kept c.args.hand.party _ _ _ _ c.requires.hand c.share-share.ensures same c.into_maybe-share-in-Ok-Err.ensures x) x

pub returns-in-Err-clause-path : goal.returns-in-Err-clause-path
returns-in-Err-clause-path c = pend_missed c.in-Err.ensures.missed

pub returns-then-closed-clause-bits : goal.returns-then-closed-clause-bits
returns-then-closed-clause-bits c = c.into_maybe-share.ensures.cell.0 ∙ c.share-share.ensures.0

pub returns-in-Rescheduled-clause-bits : goal.returns-in-Rescheduled-clause-bits
returns-in-Rescheduled-clause-bits c = let l = subst (λ t. IfOk t (λ r. Leaves c.share-share.result r.1 (not (ends_run r.0)))) c.in-Ok-Ok.field-0-is c.in-Ok-Ok.ensures.share in c.hand_on-hand.ensures.runnable.1.0 ∙ (c.share.ensures.0 ∙ (l.cell.0 ∙ c.share-share.ensures.0))

pub returns-in-Idle-clause-bits : goal.returns-in-Idle-clause-bits
returns-in-Idle-clause-bits c = let l = subst (λ t. IfOk t (λ r. Leaves c.share-share.result r.1 (not (ends_run r.0)))) c.in-Ok-Ok.field-0-is c.in-Ok-Ok.ensures.share in l.cell.0 ∙ c.share-share.ensures.0

pub returns-in-Orphaned-clause-bits : goal.returns-in-Orphaned-clause-bits
returns-in-Orphaned-clause-bits c = let l = subst (λ t. IfOk t (λ r. Leaves c.share-share.result r.1 (not (ends_run r.0)))) c.in-Ok-Ok.field-0-is c.in-Ok-Ok.ensures.share in c.hand_on-hand-in-Orphaned.ensures.runnable.1.0 ∙ (c.share-in-Orphaned.ensures.0 ∙ (l.cell.0 ∙ c.share-share.ensures.0))

pub returns-in-Ok-Err-clause-bits : goal.returns-in-Ok-Err-clause-bits
returns-in-Ok-Err-clause-bits c = let same = subst (λ t. IfErr t (λ k. IsSame c.share-share.result k)) c.in-Ok-Err.field-0-is c.in-Ok-Err.ensures.kept in c.into_maybe-share-in-Ok-Err.ensures.cell.0 ∙ (same.0 ∙ c.share-share.ensures.0)

pub returns-in-Rescheduled-clause-record : goal.returns-in-Rescheduled-clause-record
returns-in-Rescheduled-clause-record c = let l = subst (λ t. IfOk t (λ r. Leaves c.share-share.result r.1 (not (ends_run r.0)))) c.in-Ok-Ok.field-0-is c.in-Ok-Ok.ensures.share in (c.hand_on-hand.ensures.record.0, c.hand_on-hand.ensures.record.1 ∙ (c.share.ensures.0 ∙ (l.cell.0 ∙ c.share-share.ensures.0)))

pub returns-in-Orphaned-clause-record : goal.returns-in-Orphaned-clause-record
returns-in-Orphaned-clause-record c = let l = subst (λ t. IfOk t (λ r. Leaves c.share-share.result r.1 (not (ends_run r.0)))) c.in-Ok-Ok.field-0-is c.in-Ok-Ok.ensures.share in (c.hand_on-hand-in-Orphaned.ensures.record.0, c.hand_on-hand-in-Orphaned.ensures.record.1 ∙ (c.share-in-Orphaned.ensures.0 ∙ (l.cell.0 ∙ c.share-share.ensures.0)))

pub returns-in-Err-clause-bits : goal.returns-in-Err-clause-bits
returns-in-Err-clause-bits c = c.into_maybe-share-in-Err.ensures.cell.0 ∙ (c.in-Err.ensures.left.0 ∙ c.share-share.ensures.0)
