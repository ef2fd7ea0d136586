-- A poll that hands out what is made of the output has the same path.
use Rattle.task_cell.proofs.Vocabulary.{◌≡◌, Bool, List, Option, Result, Some, None, subst, TaskPoll, Deed, AnswerPath, waits, has_ended_since, has_output_since, PollPath, finds_output, finds_ended}
use Rattle.task_core.specs.declared.traits.TaskPoll.TheVariants.{Pending as Waits, Ready, Refused}
use Rattle.task_cell.specs.declared.cell.Party.{Party}
use Rattle.task_cell.specs.PollPaths.{is_refused, looks_again}
use Rattle.async_task.specs.HandlePaths.{PollsOnce}

-- the same answer, with what is made of the output
abbrev pub answer_as : {T U : Type 0} → (T → U) → TaskPoll (Option T) → TaskPoll (Option U)
answer_as f (Ready (Some x)) = Ready (Some (f x))
answer_as f (Ready None) = Ready None
answer_as f Waits = Waits
answer_as f Refused = Refused

module _ {A K T U : Type 0} (f : T → U) (cloned : A → Result A K → Type 0) (woken woken_by_ref : A → K → Type 0) (compared : A → A → Bool → Type 0) (awaiter : A) where
  answered_as : (path : List Deed) (answer : TaskPoll (Option T)) → AnswerPath woken compared awaiter path answer → AnswerPath woken compared awaiter path (answer_as f answer)
  answered_as _ _ (waits w e) = waits w e
  answered_as _ _ (has_ended_since w taken e t) = has_ended_since w taken e t
  answered_as _ _ (has_output_since w path x c) = has_output_since w path (f x) c

  polled_as : (path : List Deed) (answer : TaskPoll (Option T)) → PollPath cloned woken woken_by_ref compared awaiter path answer → PollPath cloned woken woken_by_ref compared awaiter path (answer_as f answer)
  polled_as _ _ (finds_output w path x c) = finds_output w path (f x) c
  polled_as _ _ (finds_ended w taken e t) = finds_ended w taken e t
  polled_as _ _ (is_refused w told e e' c) = is_refused w told e e' c
  polled_as _ _ (looks_again w registered path answer e e' r a) = looks_again w registered path (answer_as f answer) e e' r (answered_as path answer a)

  -- the same where the answer that was found is known
  pub polls_as : {F V P : Type 0} (p q : Party F V P) (found answer : TaskPoll (Option T)) → found ≡ answer → PollsOnce cloned woken woken_by_ref compared awaiter p q found → PollsOnce cloned woken woken_by_ref compared awaiter p q (answer_as f answer)
  polls_as p q found answer e h = (h.0, polled_as h.0 answer (subst (λ (x : TaskPoll (Option T)). PollPath cloned woken woken_by_ref compared awaiter h.0 x) e h.1), h.2)
