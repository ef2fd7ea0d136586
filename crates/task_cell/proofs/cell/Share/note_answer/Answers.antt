use Rattle.task_cell.proofs.Vocabulary.{sym, subst}
use Rattle.task_cell.specs.RunCalls.{NotesAnswer, notes_ready, notes_pending}
use Rattle.task_cell.proofs.cell.Share.note_answer.Goals as goal

pub returns-in-Ready : goal.returns-in-Ready
returns-in-Ready g c = λ held s. subst (NotesAnswer held c.args.party c.answer_ready-found.new.party c.answer_ready-found.result) (sym c.in-Ready.is) (notes_ready _ (c.answer_ready-found.ensures held s))

pub returns-in-Pending : goal.returns-in-Pending
returns-in-Pending g c = λ held s. subst (NotesAnswer held c.args.party c.answer_pending-found.new.party c.answer_pending-found.result) (sym c.in-Pending.is) (notes_pending c.answer_pending-found.ensures.room (c.answer_pending-found.ensures.path held s))
