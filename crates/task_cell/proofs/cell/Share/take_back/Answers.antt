use Rattle.task_cell.proofs.Vocabulary.{[], refl, Some, None, held, Second, awaiter_first, TookBack, ends_notified}
use Rattle.task_cell.proofs.Steps.{may_make}
use Rattle.task_cell.proofs.RunGoes.{at_rest}
use Rattle.task_cell.proofs.Carried.{exchanges_awaiter}
use Rattle.task_cell.proofs.Moved.{stands, first_held}
use Rattle.task_cell.proofs.PollMoved.{given_back}
use Rattle.task_cell.proofs.cell.Share.take_back.Goals as goal

pub take_awaiter-requires : goal.take_awaiter-requires
take_awaiter-requires g c = let s = c.requires.party in (c.requires.cell, (Some s.1, first_held c.args.party.now _ 1 (Second (Some s.1)) _ s.2))

pub fetch_and-requires-clause-allowed : goal.fetch_and-requires-clause-allowed
fetch_and-requires-clause-allowed g c = let s = c.requires.party in let p = c.args.party.now in let e = c.take_awaiter.ensures in
    let x = exchanges_awaiter p p (record { seat = c.take_awaiter.new.seat }) [] (TookBack s.0) (Some s.1) (held c.take_awaiter.result) None [] (at_rest (TookBack s.0) (awaiter_first (Some s.1) []) p p s.2 refl refl) e.0 e.2 e.3 in
    may_make _ (record { seat = c.take_awaiter.new.seat }) (TookBack s.0) (awaiter_first None []) _ _ (stands p (record { seat = c.take_awaiter.new.seat }) [] (TookBack s.0) (awaiter_first None []) x.1) (ends_notified _ _ _ _ _ s.0 _ _ _ refl) (λ m f. refl)

pub returns-clause-path : goal.returns-clause-path
returns-clause-path g c = let s = c.requires.party in let p = c.args.party.now in let e = c.take_awaiter.ensures in
    let x = exchanges_awaiter p p (record { seat = c.take_awaiter.new.seat }) [] (TookBack s.0) (Some s.1) (held c.take_awaiter.result) None [] (at_rest (TookBack s.0) (awaiter_first (Some s.1) []) p p s.2 refl refl) e.0 e.2 e.3 in
    given_back s.0 c.fetch_and.result (Some s.1) p (record { seat = c.take_awaiter.new.seat }) c.fetch_and.new.party s.2 x.1 c.fetch_and.ensures.cell c.fetch_and.ensures.made
