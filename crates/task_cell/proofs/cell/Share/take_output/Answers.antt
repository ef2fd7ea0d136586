use Rattle.task_cell.proofs.Vocabulary.{[], subst, OfClaim, TookOutput, notifies, position, places_of, StandsWith, poll_number, work_first}
use Rattle.task_cell.proofs.Moved.{stands, held_is}
use Rattle.task_cell.proofs.PollWays.{handed_out}
use Rattle.task_cell.proofs.cell.Share.take_output.Goals as goal

pub hand_out-requires-clause-party : goal.hand_out-requires-clause-party
hand_out-requires-clause-party g c = let s = c.requires.party in let p = c.args.party.now in let q = c.take_awaiter_of.new.party in let n = poll_number (position p) in let t = c.take_awaiter_of.ensures in
    (n, s.1, subst (λ held. StandsWith (TookOutput n) held q) (held_is p (notifies c.args.found.awaiter (OfClaim s.0)) (work_first s.1 []) s.2) (stands p q t.0 (TookOutput n) (places_of p) t.2), s.3)

pub returns-clause-path : goal.returns-clause-path
returns-clause-path g c = let t = c.take_awaiter_of.ensures in (t.0, t.1, handed_out t.0 c.args.party.now c.take_awaiter_of.new.party c.hand_out.new.party t.2 c.hand_out.ensures.path)
