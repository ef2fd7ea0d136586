use Rattle.task_cell.proofs.Vocabulary.{◌≡◌, true, sym, subst, has_ended, saw_ended}
use Rattle.task_cell.proofs.PollSeen.{deeds_after, saw_after}
use Rattle.async_task.proofs.HandleParties.{closed_before}
use Rattle.async_task.proofs.cancel.Cancel.cancel_once.Goals as goal

pub returns-clause-ended : goal.returns-clause-ended
returns-clause-ended g c = λ e. let f = c.cancel.ensures.path in subst (λ l. saw_ended l ≡ true) (sym (deeds_after _ _ f.0 _ f.2)) (saw_after has_ended f.0 _ e)

pub returns-then-self-clause-path : goal.returns-then-self-clause-path
returns-then-self-clause-path g c = let t = c.args.self.now.task.inner in closed_before _ t.party c.args.self.now.cancelled c.if-self.true t.alone t.free
