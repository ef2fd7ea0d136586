use Rattle.task_cell.proofs.Moved.{stands}
use Rattle.task_exports.proofs.Crossing.{full_after}
use Rattle.task_exports.proofs.PollCall.{claims_done, ends_at_once, full_there, hands_out, keeps_at, look_claims, look_claims_taking, look_ends, look_ends_taking, takes_and_ends, takes_and_hands_out}
use Rattle.task_exports.proofs.Released.{at_taken, keeps_then}
use Rattle.task_exports.specs.CallPaths.{claims_by}
use Rattle.task_exports.proofs.calls.poll.end.Goals as goal

pub hand_out-requires-clause-handle : goal.hand_out-requires-clause-handle
hand_out-requires-clause-handle g c = let s = c.requires.party in full_there s.2 c.args.h.now _ _ _ s.3 (look_claims s.1 s.0 s.2 _ _ s.4 c.in-16.is).6

pub hand_out-requires-clause-party : goal.hand_out-requires-clause-party
hand_out-requires-clause-party g c = let s = c.requires.party in let x = look_claims s.1 s.0 s.2 _ _ s.4 c.in-16.is in (s.0, x.1, (x.4, stands _ _ _ _ _ x.6))

pub returns-in-16-clause-path : goal.returns-in-16-clause-path
returns-in-16-clause-path g c = λ i first before l. let x = look_claims first i before _ _ l c.in-16.is in
    hands_out g.A.Wake.woken g.A.Wake.compared c.args.awaiter.now g.C.Caller.did i (claims_by first) c.hand_out.result before _ _ (claims_done g.C.Caller.did first) x c.hand_out.ensures.fact (c.hand_out.ensures.path i x.1 (x.4, stands _ _ _ _ _ x.6))

pub claim-requires-clause-handle : goal.claim-requires-clause-handle
claim-requires-clause-handle g c = let s = c.requires.party in full_there s.2 c.args.h.now _ _ _ s.3 (look_claims_taking s.1 s.0 s.2 _ _ s.4 c.in-24.is).5.5

pub claim-requires-clause-party : goal.claim-requires-clause-party
claim-requires-clause-party g c = let s = c.requires.party in let x = look_claims_taking s.1 s.0 s.2 _ _ s.4 c.in-24.is in (s.0, x.1, (x.3, at_taken _ _ _ _ _ x.5))

pub hand_out-requires-in-Some-clause-handle : goal.hand_out-requires-in-Some-clause-handle
hand_out-requires-in-Some-clause-handle g c = let s = c.requires.party in let x = look_claims_taking s.1 s.0 s.2 _ _ s.4 c.in-24.is in
    full_after c.args.h.now c.claim.new.h _ _ _ (full_there s.2 c.args.h.now _ _ _ s.3 x.5.5) c.in-Some.ensures.handle (c.in-Some.ensures.path s.0 x.1 (x.3, at_taken _ _ _ _ _ x.5)).2

pub hand_out-requires-in-Some-clause-party : goal.hand_out-requires-in-Some-clause-party
hand_out-requires-in-Some-clause-party g c = let s = c.requires.party in let x = look_claims_taking s.1 s.0 s.2 _ _ s.4 c.in-24.is in (s.0, x.1, (x.3, stands _ _ _ _ _ (c.in-Some.ensures.path s.0 x.1 (x.3, at_taken _ _ _ _ _ x.5)).2))

pub returns-in-Some-clause-handle : goal.returns-in-Some-clause-handle
returns-in-Some-clause-handle g c = keeps_then c.args.h.now c.claim.new.h c.hand_out-in-Some.new.h c.in-Some.ensures.handle c.hand_out-in-Some.ensures.handle

pub returns-in-Some-clause-path : goal.returns-in-Some-clause-path
returns-in-Some-clause-path g c = λ i first before l. let x = look_claims_taking first i before _ _ l c.in-24.is in let o = c.in-Some.ensures.path i x.1 (x.3, at_taken _ _ _ _ _ x.5) in
    takes_and_hands_out g.A.Wake.woken g.A.Wake.compared c.args.awaiter.now g.C.Caller.did i (claims_by first) c.hand_out-in-Some.result before _ _ _ (claims_done g.C.Caller.did first) x o c.hand_out-in-Some.ensures.fact (c.hand_out-in-Some.ensures.path i x.1 (x.3, stands _ _ _ _ _ o.2))

pub returns-in-17-clause-handle : goal.returns-in-17-clause-handle
returns-in-17-clause-handle g c = let s = c.requires.party in keeps_at s.2 c.args.h.now s.3

pub returns-in-17-clause-path : goal.returns-in-17-clause-path
returns-in-17-clause-path g c = λ i first before l. ends_at_once g.A.Wake.woken g.A.Wake.compared c.args.awaiter.now g.C.Caller.did i (claims_by first) before _ (look_ends first i before _ _ l c.in-17.is)

pub shut-requires-clause-handle : goal.shut-requires-clause-handle
shut-requires-clause-handle g c = let s = c.requires.party in full_there s.2 c.args.h.now _ _ _ s.3 (look_ends_taking s.1 s.0 s.2 _ _ s.4 c.in-7.is).2.5

pub shut-requires-clause-party : goal.shut-requires-clause-party
shut-requires-clause-party g c = let s = c.requires.party in (s.0, at_taken _ _ _ _ _ (look_ends_taking s.1 s.0 s.2 _ _ s.4 c.in-7.is).2)

pub returns-in-Some-shut-clause-path : goal.returns-in-Some-shut-clause-path
returns-in-Some-shut-clause-path g c = λ i first before l. let x = look_ends_taking first i before _ _ l c.in-7.is in
    takes_and_ends g.A.Wake.woken g.A.Wake.compared c.args.awaiter.now g.C.Caller.did i (claims_by first) before _ _ x (c.in-Some-shut.ensures.path i (at_taken _ _ _ _ _ x.2))
