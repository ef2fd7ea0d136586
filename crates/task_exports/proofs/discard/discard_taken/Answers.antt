use Rattle.task_cell.proofs.Vocabulary.{[], ◌∙◌, sym, ap, is_some, OfDrop}
use Rattle.task_exports.proofs.Notices.{both_there}
use Rattle.task_exports.proofs.Live.{lives_on}
use Rattle.task_exports.proofs.Ending.{taken_wakes, taken_gives, taken_none}
use Rattle.task_exports.proofs.discard.discard_taken.Goals as goal

pub end_notify-awaiter-requires-clause-party : goal.end_notify-awaiter-requires-clause-party
end_notify-awaiter-requires-clause-party c = let s = c.requires.party in (s.0, OfDrop, s.1, [], s.2, s.3)

pub returns-in-Some : goal.returns-in-Some
returns-in-Some c = let s = c.requires.party in let e = c.end_notify-awaiter.ensures s.0 OfDrop s.1 [] s.2 s.3 in
    taken_wakes s.0 _ _ (sym (both_there s.0 c.end_notify-awaiter.result e.is_there) ∙ ap is_some c.in-Some.is) e.word (lives_on c.args.hand.share c.into_maybe-share.result c.share-share.result c.args.hand.party _ _ _ _ c.requires.hand c.share-share.ensures c.into_maybe-share.ensures e.did) e.did

pub give_back-requires-clause-hand : goal.give_back-requires-clause-hand
give_back-requires-clause-hand c = let s = c.requires.party in let e = c.end_notify-awaiter.ensures s.0 OfDrop s.1 [] s.2 s.3 in lives_on c.args.hand.share c.into_maybe-share.result c.share-share.result c.args.hand.party _ _ _ _ c.requires.hand c.share-share.ensures c.into_maybe-share.ensures e.did

pub give_back-requires-clause-party : goal.give_back-requires-clause-party
give_back-requires-clause-party c = let s = c.requires.party in let e = c.end_notify-awaiter.ensures s.0 OfDrop s.1 [] s.2 s.3 in taken_none s.0 _ _ _ (sym (both_there s.0 c.end_notify-awaiter.result e.is_there) ∙ ap is_some c.in-None.is) e.did

pub returns-in-None : goal.returns-in-None
returns-in-None c = let s = c.requires.party in let e = c.end_notify-awaiter.ensures s.0 OfDrop s.1 [] s.2 s.3 in
    taken_gives s.0 _ _ _ _ (sym (both_there s.0 c.end_notify-awaiter.result e.is_there) ∙ ap is_some c.in-None.is) e.word e.did c.give_back.ensures.path
