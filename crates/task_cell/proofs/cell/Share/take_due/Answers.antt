use Rattle.task_cell.proofs.Vocabulary.{sym, subst, [], refl, None, notifies, Stands, TakesDue, takes_none, held}
use Rattle.task_cell.specs.RunPaths.{not_due}
use Rattle.task_cell.proofs.RunRest.{took_due}
use Rattle.task_cell.proofs.cell.Share.take_due.Goals as goal

pub returns-then-due : goal.returns-then-due
returns-then-due g c = λ way s. subst (λ b. TakesDue way b c.args.party.now c.notify.new.party (held c.notify.result)) (sym c.if-due.true)
    (took_due way c.args.party.now c.notify.new.party (held c.notify.result) (subst (λ b. Stands (notifies b way) c.args.party.now) c.if-due.true s) c.notify.ensures)

pub returns-else-due : goal.returns-else-due
returns-else-due g c = λ way s. subst (λ b. TakesDue way b c.args.party.now c.args.party.now None) (sym c.if-due.false)
    (takes_none [] not_due (record { cell = refl; is = subst (λ b. Stands (notifies b way) c.args.party.now) c.if-due.false s }))
