use Rattle.task_cell.proofs.Vocabulary.{[], refl, Some, held, awaiter_first, after_storing}
use Rattle.task_cell.proofs.RunGoes.{at_rest}
use Rattle.task_cell.proofs.Carried.{exchanges_awaiter}
use Rattle.task_cell.proofs.PollTried.{put}
use Rattle.task_cell.proofs.cell.Share.put_clone.Goals as goal

pub returns : goal.returns
returns g c = λ i hand y s waits. let p = c.args.party.now in let e = c.put_awaiter.ensures in let at = after_storing i hand in
    put i hand y (held c.put_awaiter.result) c.args.clone.value p (record { seat = c.put_awaiter.new.seat }) c.put_awaiter.result waits
    (exchanges_awaiter p p (record { seat = c.put_awaiter.new.seat }) [] at y (held c.put_awaiter.result) (Some c.args.clone.value) [] (at_rest at (awaiter_first y []) p p s refl refl) e.0 e.2 e.3) refl
