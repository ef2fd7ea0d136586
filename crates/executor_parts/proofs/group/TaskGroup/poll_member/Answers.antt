use Rattle.std.proofs.Common.{◌≡◌, ◌∙◌, ap, sym, subst}
use Rattle.std.specs.Prelude.{IfOk}
use Rattle.task_core.specs.declared.traits.TaskPoll.{TaskPoll}
use Rattle.task_core.specs.declared.traits.TaskPoll.TheVariants.{Pending as Waits, Refused}
use Rattle.task_cell.specs.Belongs.{HasYielded}
use Rattle.task_cell.specs.PollPaths.{IfOutput}
use Rattle.async_task.specs.HandlePaths.{IfSomeOutput}
use Rattle.executor_parts.specs.Cancelled.{IsCancel, WasCancelled}
use Rattle.executor_parts.specs.Outputs.{MayGive}
use Rattle.executor_parts.proofs.Outputs.{has-ended, if-err, of-fallible, settled-gives}
use Rattle.executor_parts.proofs.group.TaskGroup.poll_member.Goals as goal
use Rattle.executor_parts.proofs.group.TaskGroup.poll_member.Goals.{in-Some, in-None, in-Some-awaiter_of, in-None-awaiter_of}

pub returns-after-awaiter_of-clause-cancelled : goal.returns-after-awaiter_of-clause-cancelled
returns-after-awaiter_of-clause-cancelled g c = if-err c.settle.result c.settle.ensures.member (λ stays is cancels pending. absurd (subst (λ m. IsCancel m) c.in-Runs.is cancels))

pub returns-after-awaiter_of-clause-cancel : goal.returns-after-awaiter_of-clause-cancel
returns-after-awaiter_of-clause-cancel g c = if-err c.settle.result c.settle.ensures.member (λ stays is cancels. absurd (subst (λ m. IsCancel m) c.in-Runs.is cancels))

pub returns-after-awaiter_of-clause-runs : goal.returns-after-awaiter_of-clause-runs
returns-after-awaiter_of-clause-runs g c = if-err c.settle.result c.settle.ensures.member (λ stays is cancels. absurd (subst (λ m. IsCancel m) is cancels))

pub returns-after-awaiter_of-2-clause-runs : goal.returns-after-awaiter_of-2-clause-runs
returns-after-awaiter_of-2-clause-runs g c = if-err c.settle-in-Cancelled.result c.settle-in-Cancelled.ensures.member (λ stays is cancels. subst (λ m. IsCancel m) (sym c.in-Cancelled.is) tt)

pub returns-after-awaiter_of-2-clause-cancel : goal.returns-after-awaiter_of-2-clause-cancel
returns-after-awaiter_of-2-clause-cancel g c = if-err c.settle-in-Cancelled.result c.settle-in-Cancelled.ensures.member (λ stays is cancels. subst (λ m. IsCancel m) (sym is) tt)

apart : {T : Type 0} (poll : TaskPoll T) → poll ≡ Refused → poll ≡ Waits → ⊥
apart poll refused waits = cc

pub returns-after-awaiter_of-2-clause-cancelled : goal.returns-after-awaiter_of-2-clause-cancelled
returns-after-awaiter_of-2-clause-cancelled g c = elim c.match-awaiter_of-2.branch [
  | in-Some-awaiter_of w ↦ if-err c.settle-in-Cancelled.result c.settle-in-Cancelled.ensures.member (λ stays is cancels pending. subst (λ m. WasCancelled m) (sym is) (ap (λ k. k.cancelled) w.cancel-is ∙ w.poll.ensures.cancelled))
  | in-None-awaiter_of w ↦ if-err c.settle-in-Cancelled.result c.settle-in-Cancelled.ensures.pending (λ stays waits cancels pending. absurd (apart c.match-awaiter_of-2.polled w.polled-is (waits pending)))
]

pub returns-after-awaiter_of-clause-gives : goal.returns-after-awaiter_of-clause-gives
returns-after-awaiter_of-clause-gives g c =
    let told : IfOutput c.match-awaiter_of.polled (HasYielded c.in-Runs.task.inner.share) = elim c.match-awaiter_of.branch [
      | in-Some w ↦ subst (λ polled. IfOutput polled (HasYielded c.in-Runs.task.inner.share)) (sym w.polled-is) w.poll-polled.ensures.yielded
      | in-None w ↦ subst (λ polled. IfOutput polled (HasYielded c.in-Runs.task.inner.share)) (sym w.polled-is) tt
    ] in
    subst (λ member. IfOk c.settle.result (λ ended. IfOk ended.answer (MayGive member))) (sym c.in-Runs.is) (settled-gives (HasYielded c.in-Runs.task.inner.share) c.settle.result c.match-awaiter_of.polled told c.settle.ensures.answer)

pub returns-after-awaiter_of-clause-stays : goal.returns-after-awaiter_of-clause-stays
returns-after-awaiter_of-clause-stays g c =
    let same : c.match-awaiter_of.task.inner.share ≡ c.in-Runs.task.inner.share = elim c.match-awaiter_of.branch [
      | in-Some w ↦ ap (λ task. task.inner.share) w.task-is ∙ w.poll-polled.ensures.cell
      | in-None w ↦ ap (λ task. task.inner.share) w.task-is
    ] in
    if-err c.settle.result c.settle.ensures.member (λ stays is output may. subst (λ member. MayGive member output) (sym c.in-Runs.is) (subst (λ share. HasYielded share output) same (subst (λ member. MayGive member output) is may)))

pub returns-after-awaiter_of-2-clause-gives : goal.returns-after-awaiter_of-2-clause-gives
returns-after-awaiter_of-2-clause-gives g c =
    let told : IfOutput c.match-awaiter_of-2.polled (HasYielded c.in-Cancelled.cancel.task.inner.share) = elim c.match-awaiter_of-2.branch [
      | in-Some-awaiter_of w ↦ subst (λ polled. IfOutput polled (HasYielded c.in-Cancelled.cancel.task.inner.share)) (sym w.polled-is) (of-fallible (HasYielded c.in-Cancelled.cancel.task.inner.share) w.closed_where_none-polled.result (subst (λ answer. IfSomeOutput answer (HasYielded c.in-Cancelled.cancel.task.inner.share)) (sym w.closed_where_none-polled.ensures) w.poll.ensures.yielded))
      | in-None-awaiter_of w ↦ subst (λ polled. IfOutput polled (HasYielded c.in-Cancelled.cancel.task.inner.share)) (sym w.polled-is) tt
    ] in
    subst (λ member. IfOk c.settle-in-Cancelled.result (λ ended. IfOk ended.answer (MayGive member))) (sym c.in-Cancelled.is) (settled-gives (HasYielded c.in-Cancelled.cancel.task.inner.share) c.settle-in-Cancelled.result c.match-awaiter_of-2.polled told c.settle-in-Cancelled.ensures.answer)

pub returns-after-awaiter_of-2-clause-stays : goal.returns-after-awaiter_of-2-clause-stays
returns-after-awaiter_of-2-clause-stays g c =
    let same : c.match-awaiter_of-2.cancel.task.inner.share ≡ c.in-Cancelled.cancel.task.inner.share = elim c.match-awaiter_of-2.branch [
      | in-Some-awaiter_of w ↦ ap (λ cancel. cancel.task.inner.share) w.cancel-is ∙ w.poll.ensures.cell
      | in-None-awaiter_of w ↦ ap (λ cancel. cancel.task.inner.share) w.cancel-is
    ] in
    if-err c.settle-in-Cancelled.result c.settle-in-Cancelled.ensures.member (λ stays is output may. subst (λ member. MayGive member output) (sym c.in-Cancelled.is) (subst (λ share. HasYielded share output) same (subst (λ member. MayGive member output) is may)))

pub returns-in-HasEnded-clause-gives : goal.returns-in-HasEnded-clause-gives
returns-in-HasEnded-clause-gives g c = subst (λ member. IfOk c.numbered.result.answer (MayGive member)) (sym c.in-HasEnded.is) (has-ended c.numbered.result.answer c.in-HasEnded.ended.answer c.numbered.ensures.answer)
