use Rattle.task_laws.proofs.Theorem.{laws_hold}
use Rattle.task_laws.proofs.Owners.{owners_act}
use Rattle.task_laws.proofs.Reading.{whole_runs_agree}
use Rattle.task_laws.proofs.WholeCalls.{whole_calls_agree}
use Rattle.task_laws.proofs.LocalRows.{each_row_agrees}
use Rattle.task_laws.proofs.laws.Goals as goal

pub returns : goal.returns
returns c = record { interleavings = laws_hold; owners = owners_act; whole_runs = whole_runs_agree; whole_calls = whole_calls_agree; local_rows = each_row_agrees }
