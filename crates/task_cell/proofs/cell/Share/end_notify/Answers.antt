use Rattle.task_cell.proofs.Vocabulary.{refl, [], None, held, Second, awaiter_first, Releaser, releases_awaiter}
use Rattle.task_cell.proofs.Steps.{may_make}
use Rattle.task_cell.proofs.Notified.{ended}
use Rattle.task_cell.proofs.RunGoes.{at_rest}
use Rattle.task_cell.proofs.Carried.{exchanges_awaiter}
use Rattle.task_cell.proofs.Moved.{stands, first_held}
use Rattle.task_cell.proofs.cell.Share.end_notify.Goals as goal

pub take_awaiter-awaiter-requires : goal.take_awaiter-awaiter-requires
take_awaiter-awaiter-requires g c = let s = c.requires.party in (c.requires.cell, (s.2, first_held c.args.party.now _ 1 (Second s.2) _ s.4))

pub fetch_and-requires-clause-allowed : goal.fetch_and-requires-clause-allowed
fetch_and-requires-clause-allowed g c = let s = c.requires.party in let p = c.args.party.now in let e = c.take_awaiter-awaiter.ensures in
    let x = exchanges_awaiter p p (record { seat = c.take_awaiter-awaiter.new.seat }) [] (Releaser s.0 s.1) s.2 (held c.take_awaiter-awaiter.result) None s.3 (at_rest (Releaser s.0 s.1) (awaiter_first s.2 s.3) p p s.4 refl refl) e.0 e.2 e.3 in
    may_make _ (record { seat = c.take_awaiter-awaiter.new.seat }) (Releaser s.0 s.1) (awaiter_first None s.3) _ _ (stands p (record { seat = c.take_awaiter-awaiter.new.seat }) [] (Releaser s.0 s.1) (awaiter_first None s.3) x.1) (releases_awaiter _ _ _ _ _ s.0 s.1 _ _ _ refl) (λ m f. refl)

pub returns : goal.returns
returns g c = λ hand way y places s waits. let p = c.args.party.now in let e = c.take_awaiter-awaiter.ensures in
    ended hand way y (held c.take_awaiter-awaiter.result) places p (record { seat = c.take_awaiter-awaiter.new.seat }) c.fetch_and.new.party c.fetch_and.result _ waits
    (exchanges_awaiter p p (record { seat = c.take_awaiter-awaiter.new.seat }) [] (Releaser hand way) y (held c.take_awaiter-awaiter.result) None places (at_rest (Releaser hand way) (awaiter_first y places) p p s refl refl) e.0 e.2 e.3) c.fetch_and.ensures.cell c.fetch_and.ensures.made refl
