-- What a poll has seen of the task's end, and what an earlier poll has seen.
use Rattle.task_cell.proofs.Vocabulary.{◌≡◌, Bool, true, false, List, [], ◌∷◌, ◌++◌, Option, None, sym, ap, subst, Result, Err, Me, State, TaskPoll, Position, Look, EndCall, Deed, View, Party}
use Rattle.task_cell.proofs.Vocabulary.{row, act, after, head_of, leaves_such, saw, saw_ended, has_output, has_ended, deeds, DidWith, AnswerPath, waits, has_ended_since, has_output_since, PollPath}
use Rattle.task_cell.proofs.Vocabulary.{finds_output, finds_ended, true_left, true_right, arith, TaskPlace}
use Rattle.task_core.specs.declared.traits.TaskPoll.TheVariants.{Ready}
use Rattle.task_cell.specs.PollPaths.{is_refused, looks_again}
use Rattle.task_cell.proofs.Moved.{after-append}

-- what was seen before a path has been seen after it
pub saw_after : (test : State → Bool) (path earlier : List Deed) → saw test earlier ≡ true → saw test (after path earlier) ≡ true
saw_after test [] earlier e = e
saw_after test (d ∷ path) earlier e = saw_after test path (d ∷ earlier) (true_right (leaves_such test d.act d.found) (saw test earlier) e)

-- a look that finds the task ended
looked : (w : State) (path earlier : List Deed) → has_ended w ≡ true → saw_ended (after (row Look w ∷ path) earlier) ≡ true
looked w path earlier e = saw_after has_ended path (row Look w ∷ earlier) (true_left (has_ended w) (saw has_ended earlier) e)

-- the deeds of a party after a path
pub deeds_after : {F V A : Type 0} (p q : Party F V A) (path : List Deed) (at : Position) → DidWith path at [] p q → deeds q ≡ after path (deeds p)
deeds_after {F} {V} {A} p q path at g = ap (λ (m : Me (TaskPlace F V A) View). (head_of m.0.members).deeds) g.is

module _ {A K T : Type 0} (cloned : A → Result A K → Type 0) (woken woken_by_ref : A → K → Type 0) (compared : A → A → Bool → Type 0) (awaiter : A) where
  answer_saw : (path : List Deed) (answer : TaskPoll (Option T)) (earlier : List Deed) → AnswerPath woken compared awaiter path answer → answer ≡ Ready None → saw_ended (after path earlier) ≡ true
  answer_saw _ _ earlier (waits w e) is = absurd (cc)
  answer_saw _ _ earlier (has_ended_since w taken e t) is = looked w (taken ++ act EndCall ∷ []) earlier e
  answer_saw _ _ earlier (has_output_since w path x c) is = absurd (cc)

  -- a poll that answers ready without output has seen the task ended
  path_saw : (path : List Deed) (answer : TaskPoll (Option T)) (earlier : List Deed) → PollPath cloned woken woken_by_ref compared awaiter path answer → answer ≡ Ready None → saw_ended (after path earlier) ≡ true
  path_saw _ _ earlier (finds_output w path x c) is = absurd (cc)
  path_saw _ _ earlier (finds_ended w taken e t) is = looked w (taken ++ act EndCall ∷ []) earlier e
  path_saw _ _ earlier (is_refused w told e e' c) is = absurd (cc)
  path_saw _ _ earlier (looks_again w registered path answer e e' r a) is =
      subst (λ l. saw_ended l ≡ true) (sym (after-append (row Look w ∷ registered) path earlier)) (answer_saw path answer (after (row Look w ∷ registered) earlier) a is)

  module _ {F V P : Type 0} where
    pub poll_saw : (p q : Party F V P) (path : List Deed) (at : Position) (answer : TaskPoll (Option T)) → PollPath cloned woken woken_by_ref compared awaiter path answer → DidWith path at [] p q → answer ≡ Ready None → saw_ended (deeds q) ≡ true
    poll_saw p q path at answer h g is = subst (λ l. saw_ended l ≡ true) (sym (deeds_after p q path at g)) (path_saw path answer (deeds p) h is)

-- a word cannot be of a task that has ended and that has its output
pub not_both : {P : Type 0} (w : State) → has_ended w ≡ true → has_output w ≡ true → P
not_both w e f = absurd (grind arith)

abbrev as_error : State → Result State State
as_error w = Err w

-- a look that finds the task going on contradicts one that saw it ended
pub still_ended : {P : Type 0} (w : State) → (v : State) × (as_error w ≡ as_error v) × (has_ended v ≡ true) → has_ended w ≡ false → P
still_ended w x f = absurd (cc)
