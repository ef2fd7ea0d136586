use Rattle.task_cell.proofs.Vocabulary.{ap, ◌∙◌, sym, subst, true, false, None, Some, Ran, Rescheduled, Idle, Orphaned, HandedOver}
use Rattle.task_cell.proofs.Moved.{stands, limit_is}
use Rattle.task_cell.specs.RunCalls.{end_of}
use Rattle.task_cell.proofs.Sharing.{same_cell, same_block, same_limit}
use Rattle.task_cell.proofs.RunEnds.{cleared_first, left_pending, by_end, found_closed, found_idle, found_woken, found_orphaned}
use Rattle.task_cell.proofs.cell.Share.finish_pending.Goals as goal

pub finish_cleared-requires-clause-party : goal.finish_cleared-requires-clause-party
finish_cleared-requires-clause-party g c = let s = c.requires.party in (_, stands _ _ _ _ _ (cleared_first _ _ _ _ s.2 (sym c.closed.ensures ∙ c.if-closed.true)))

pub returns-then-closed : goal.returns-then-closed
returns-then-closed g c = λ p y f. found_closed _ _ _ _ _ _ (cleared_first _ _ _ _ f (sym c.closed.ensures ∙ c.if-closed.true)) c.finish_cleared.ensures

pub end_pending-requires-clause-party : goal.end_pending-requires-clause-party
end_pending-requires-clause-party g c = let s = c.requires.party in (s.1, stands _ _ _ _ _ (left_pending _ _ _ _ s.2 (sym c.closed.ensures ∙ c.if-closed.false)), s.3)

pub finish_cleared-requires-in-Err-clause-cell : goal.finish_cleared-requires-in-Err-clause-cell
finish_cleared-requires-in-Err-clause-cell g c = let s = c.requires.party in let a = left_pending _ _ _ _ s.2 (sym c.closed.ensures ∙ c.if-closed.false) in let x = by_end _ _ _ _ _ s.1 s.2 (sym c.closed.ensures ∙ c.if-closed.false) c.end_pending.ensures.path None (ap end_of c.in-Err.is) in
    (x.cell ∙ sym a.cell) ∙ (c.requires.cell.0 ∙ sym (ap (λ z. z.0) c.in-Err.ensures.kept))

pub finish_cleared-requires-in-Err-clause-party : goal.finish_cleared-requires-in-Err-clause-party
finish_cleared-requires-in-Err-clause-party g c = let s = c.requires.party in let x = by_end _ _ _ _ _ s.1 s.2 (sym c.closed.ensures ∙ c.if-closed.false) c.end_pending.ensures.path None (ap end_of c.in-Err.is) in
    (_, stands _ _ _ _ _ x)

pub hand_on-requires-clause-cell : goal.hand_on-requires-clause-cell
hand_on-requires-clause-cell g c = let s = c.requires.party in let a = left_pending _ _ _ _ s.2 (sym c.closed.ensures ∙ c.if-closed.false) in let x = by_end _ _ _ _ _ s.1 s.2 (sym c.closed.ensures ∙ c.if-closed.false) c.end_pending.ensures.path (Some Rescheduled) (ap end_of c.in-Ok.is ∙ ap (λ x. Some x) c.in-Rescheduled.is) in
    ((x.3.cell ∙ sym a.cell) ∙ (c.requires.cell.0 ∙ sym (same_block c.args.self c.share.result c.in-Ok.ended.1 _ c.in-Ok.ensures.share c.share.ensures)), (limit_is _ _ _ _ _ x.3 ∙ sym (limit_is _ _ _ _ _ a)) ∙ (c.requires.cell.1 ∙ sym (same_limit c.args.self c.share.result c.in-Ok.ended.1 _ c.in-Ok.ensures.share c.share.ensures)))

pub hand_on-requires-clause-party : goal.hand_on-requires-clause-party
hand_on-requires-clause-party g c = let s = c.requires.party in let x = by_end _ _ _ _ _ s.1 s.2 (sym c.closed.ensures ∙ c.if-closed.false) c.end_pending.ensures.path (Some Rescheduled) (ap end_of c.in-Ok.is ∙ ap (λ x. Some x) c.in-Rescheduled.is) in (Ran true, stands _ _ _ _ _ x.3)

pub hand_on-requires-in-Orphaned-clause-cell : goal.hand_on-requires-in-Orphaned-clause-cell
hand_on-requires-in-Orphaned-clause-cell g c = let s = c.requires.party in let a = left_pending _ _ _ _ s.2 (sym c.closed.ensures ∙ c.if-closed.false) in let x = by_end _ _ _ _ _ s.1 s.2 (sym c.closed.ensures ∙ c.if-closed.false) c.end_pending.ensures.path (Some Orphaned) (ap end_of c.in-Ok.is ∙ ap (λ x. Some x) c.in-Orphaned.is) in
    ((x.4.cell ∙ sym a.cell) ∙ (c.requires.cell.0 ∙ sym (same_block c.args.self c.share-in-Orphaned.result c.in-Ok.ended.1 _ c.in-Ok.ensures.share c.share-in-Orphaned.ensures)), (limit_is _ _ _ _ _ x.4 ∙ sym (limit_is _ _ _ _ _ a)) ∙ (c.requires.cell.1 ∙ sym (same_limit c.args.self c.share-in-Orphaned.result c.in-Ok.ended.1 _ c.in-Ok.ensures.share c.share-in-Orphaned.ensures)))

pub hand_on-requires-in-Orphaned-clause-party : goal.hand_on-requires-in-Orphaned-clause-party
hand_on-requires-in-Orphaned-clause-party g c = let s = c.requires.party in let x = by_end _ _ _ _ _ s.1 s.2 (sym c.closed.ensures ∙ c.if-closed.false) c.end_pending.ensures.path (Some Orphaned) (ap end_of c.in-Ok.is ∙ ap (λ x. Some x) c.in-Orphaned.is) in (Ran false, stands _ _ _ _ _ x.4)

pub returns-in-Err : goal.returns-in-Err
returns-in-Err g c = λ p y f. found_closed _ _ _ _ _ _ (by_end _ _ _ _ _ y f (sym c.closed.ensures ∙ c.if-closed.false) c.end_pending.ensures.path None (ap end_of c.in-Err.is)) c.finish_cleared-in-Err.ensures

pub returns-in-Rescheduled : goal.returns-in-Rescheduled
returns-in-Rescheduled g c = λ p y f. let x = by_end _ _ _ _ _ y f (sym c.closed.ensures ∙ c.if-closed.false) c.end_pending.ensures.path (Some Rescheduled) (ap end_of c.in-Ok.is ∙ ap (λ x. Some x) c.in-Rescheduled.is) in
    found_woken _ _ _ _ _ x (subst (λ z. HandedOver g.Q.Schedule.scheduled z c.args.around true) (same_cell c.args.self c.share.result c.in-Ok.ended.1 _ c.in-Ok.ensures.share c.share.ensures) c.hand_on.ensures.fact) (c.hand_on.ensures.path (Ran true) (stands _ _ _ _ _ x.3))

pub returns-in-Idle : goal.returns-in-Idle
returns-in-Idle g c = λ p y f. found_idle _ _ _ _ (by_end _ _ _ _ _ y f (sym c.closed.ensures ∙ c.if-closed.false) c.end_pending.ensures.path (Some Idle) (ap end_of c.in-Ok.is ∙ ap (λ x. Some x) c.in-Idle.is))

pub returns-in-Orphaned : goal.returns-in-Orphaned
returns-in-Orphaned g c = λ p y f. let x = by_end _ _ _ _ _ y f (sym c.closed.ensures ∙ c.if-closed.false) c.end_pending.ensures.path (Some Orphaned) (ap end_of c.in-Ok.is ∙ ap (λ x. Some x) c.in-Orphaned.is) in
    found_orphaned _ _ _ _ _ x (subst (λ z. HandedOver g.Q.Schedule.scheduled z c.args.around false) (same_cell c.args.self c.share-in-Orphaned.result c.in-Ok.ended.1 _ c.in-Ok.ensures.share c.share-in-Orphaned.ensures) c.hand_on-in-Orphaned.ensures.fact) (c.hand_on-in-Orphaned.ensures.path (Ran false) (stands _ _ _ _ _ x.4))
