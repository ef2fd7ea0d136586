use Rattle.task_cell.proofs.Vocabulary.{[], ◌∙◌, sym, ap, is_some, false, OfRun, Ran, Ended}
use Rattle.task_cell.proofs.Moved.{stands, did_then}
use Rattle.task_exports.proofs.Notices.{both_there}
use Rattle.task_exports.proofs.Given.{was_last, left_others, woken_at}
use Rattle.task_exports.proofs.Ending.{finished_last, finished_last_wakes, finished_over, finished_wakes, others_call, others_wake}
use Rattle.task_exports.proofs.Live.{of_cell, lasts_left}
use Rattle.task_exports.proofs.ends.finish.Goals as goal

pub end_notify-awaiter-requires-clause-party : goal.end_notify-awaiter-requires-clause-party
end_notify-awaiter-requires-clause-party c = let s = c.requires.party in (s.0, OfRun, s.1, [], s.2, s.3)

pub give_up-last-requires-clause-cell : goal.give_up-last-requires-clause-cell
give_up-last-requires-clause-cell c = let s = c.requires.party in let e = c.end_notify-awaiter.ensures s.0 OfRun s.1 [] s.2 s.3 in e.did.cell ∙ of_cell c.args.hand.share c.share-share.result c.args.hand.party c.requires.hand c.share-share.ensures

pub give_up-last-requires-clause-party : goal.give_up-last-requires-clause-party
give_up-last-requires-clause-party c = let s = c.requires.party in let e = c.end_notify-awaiter.ensures s.0 OfRun s.1 [] s.2 s.3 in (s.0, Ran false, stands _ _ _ _ _ e.did)

pub returns-then-last-clause-path : goal.returns-then-last-clause-path
returns-then-last-clause-path c = let s = c.requires.party in let e = c.end_notify-awaiter.ensures s.0 OfRun s.1 [] s.2 s.3 in
    let l = was_last _ _ _ _ _ (c.give_up-last.ensures.path s.0 (Ran false) (stands _ _ _ _ _ e.did)) c.if-last.true in
    finished_last_wakes s.0 _ _ _ e.word (lasts_left c.args.hand.share c.give_up-last.result.1 c.share-share.result c.args.hand.party _ _ _ _ _ c.requires.hand c.share-share.ensures c.give_up-last.ensures.share c.if-last.true (did_then _ _ _ _ _ _ _ _ _ e.did l.did)) e.did l (sym (both_there s.0 c.end_notify-awaiter.result e.is_there) ∙ ap is_some c.in-Some.is)

pub note_woken-requires-clause-cell : goal.note_woken-requires-clause-cell
note_woken-requires-clause-cell c = let s = c.requires.party in let e = c.end_notify-awaiter.ensures s.0 OfRun s.1 [] s.2 s.3 in
    let o = left_others _ _ _ _ _ (c.give_up-last.ensures.path s.0 (Ran false) (stands _ _ _ _ _ e.did)) c.if-last.false in
    o.did.cell ∙ (e.did.cell ∙ (of_cell c.args.hand.share c.share-share.result c.args.hand.party c.requires.hand c.share-share.ensures ∙ sym c.ledger-ledger.ensures))

pub note_woken-requires-clause-party : goal.note_woken-requires-clause-party
note_woken-requires-clause-party c = let s = c.requires.party in let e = c.end_notify-awaiter.ensures s.0 OfRun s.1 [] s.2 s.3 in
    let o = left_others _ _ _ _ _ (c.give_up-last.ensures.path s.0 (Ran false) (stands _ _ _ _ _ e.did)) c.if-last.false in
    let w = others_wake s.0 _ _ o (sym (both_there s.0 c.end_notify-awaiter.result e.is_there) ∙ ap is_some c.in-Some.is) in (w.0, OfRun, [], w.1)

pub end-requires-clause-cell : goal.end-requires-clause-cell
end-requires-clause-cell c = let s = c.requires.party in let e = c.end_notify-awaiter.ensures s.0 OfRun s.1 [] s.2 s.3 in
    let o = left_others _ _ _ _ _ (c.give_up-last.ensures.path s.0 (Ran false) (stands _ _ _ _ _ e.did)) c.if-last.false in
    c.note_woken.ensures.cell ∙ (o.did.cell ∙ (e.did.cell ∙ (of_cell c.args.hand.share c.share-share.result c.args.hand.party c.requires.hand c.share-share.ensures ∙ sym c.ledger-ledger.ensures)))

pub end-requires-clause-party : goal.end-requires-clause-party
end-requires-clause-party c = let s = c.requires.party in let e = c.end_notify-awaiter.ensures s.0 OfRun s.1 [] s.2 s.3 in
    let o = left_others _ _ _ _ _ (c.give_up-last.ensures.path s.0 (Ran false) (stands _ _ _ _ _ e.did)) c.if-last.false in
    let w = others_wake s.0 _ _ o (sym (both_there s.0 c.end_notify-awaiter.result e.is_there) ∙ ap is_some c.in-Some.is) in (Ran false, Ended, stands _ _ _ _ _ (woken_at OfRun w.0 _ _ w.1 c.note_woken.ensures))

pub returns-in-Some-clause-path : goal.returns-in-Some-clause-path
returns-in-Some-clause-path c = let s = c.requires.party in let e = c.end_notify-awaiter.ensures s.0 OfRun s.1 [] s.2 s.3 in
    let o = left_others _ _ _ _ _ (c.give_up-last.ensures.path s.0 (Ran false) (stands _ _ _ _ _ e.did)) c.if-last.false in
    finished_wakes s.0 _ _ _ _ _ e.word (c.give_up-last.ensures.share.is_there, c.give_up-last.ensures.share.is_last ∙ c.if-last.false) e.did o (sym (both_there s.0 c.end_notify-awaiter.result e.is_there) ∙ ap is_some c.in-Some.is) c.note_woken.ensures c.end.ensures

pub returns-then-last-2-clause-path : goal.returns-then-last-2-clause-path
returns-then-last-2-clause-path c = let s = c.requires.party in let e = c.end_notify-awaiter.ensures s.0 OfRun s.1 [] s.2 s.3 in
    let l = was_last _ _ _ _ _ (c.give_up-last.ensures.path s.0 (Ran false) (stands _ _ _ _ _ e.did)) c.if-last-2.true in
    finished_last s.0 _ _ _ e.word (lasts_left c.args.hand.share c.give_up-last.result.1 c.share-share.result c.args.hand.party _ _ _ _ _ c.requires.hand c.share-share.ensures c.give_up-last.ensures.share c.if-last-2.true (did_then _ _ _ _ _ _ _ _ _ e.did l.did)) e.did l (sym (both_there s.0 c.end_notify-awaiter.result e.is_there) ∙ ap is_some c.in-None.is)

pub end-requires-in-None-clause-cell : goal.end-requires-in-None-clause-cell
end-requires-in-None-clause-cell c = let s = c.requires.party in let e = c.end_notify-awaiter.ensures s.0 OfRun s.1 [] s.2 s.3 in
    let o = left_others _ _ _ _ _ (c.give_up-last.ensures.path s.0 (Ran false) (stands _ _ _ _ _ e.did)) c.if-last-2.false in
    o.did.cell ∙ (e.did.cell ∙ (of_cell c.args.hand.share c.share-share.result c.args.hand.party c.requires.hand c.share-share.ensures ∙ sym c.ledger-ledger.ensures))

pub end-requires-in-None-clause-party : goal.end-requires-in-None-clause-party
end-requires-in-None-clause-party c = let s = c.requires.party in let e = c.end_notify-awaiter.ensures s.0 OfRun s.1 [] s.2 s.3 in
    let o = left_others _ _ _ _ _ (c.give_up-last.ensures.path s.0 (Ran false) (stands _ _ _ _ _ e.did)) c.if-last-2.false in
    (Ran false, Ended, others_call s.0 _ _ o (sym (both_there s.0 c.end_notify-awaiter.result e.is_there) ∙ ap is_some c.in-None.is))

pub returns-clause-path : goal.returns-clause-path
returns-clause-path c = let s = c.requires.party in let e = c.end_notify-awaiter.ensures s.0 OfRun s.1 [] s.2 s.3 in
    let o = left_others _ _ _ _ _ (c.give_up-last.ensures.path s.0 (Ran false) (stands _ _ _ _ _ e.did)) c.if-last-2.false in
    finished_over s.0 _ _ _ _ e.word (c.give_up-last.ensures.share.is_there, c.give_up-last.ensures.share.is_last ∙ c.if-last-2.false) e.did o (sym (both_there s.0 c.end_notify-awaiter.result e.is_there) ∙ ap is_some c.in-None.is) c.end-in-None.ensures
