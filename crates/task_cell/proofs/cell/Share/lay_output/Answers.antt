use Rattle.task_cell.proofs.Vocabulary.{refl, [], ReadyFutureDropped, Empty, Output, work_first}
use Rattle.task_cell.proofs.RunGoes.{at_rest}
use Rattle.task_cell.proofs.Carried.{exchanges_work}
use Rattle.task_cell.proofs.cell.Share.lay_output.Goals as goal

pub returns : goal.returns
returns g c = let p = c.args.party.now in let e = c.put_output.ensures in
    (exchanges_work p p (record { seat = c.put_output.new.seat }) [] ReadyFutureDropped Empty c.put_output.result.slot (Output c.args.output.value) [] (at_rest ReadyFutureDropped (work_first Empty []) p p c.requires.party refl refl) e.0 e.2 e.3).1
