use Rattle.task_cell.proofs.Vocabulary.{◌∷◌, [], sym, ◌∙◌, Ok, Err, OfPoll, Notifier, Look, ClaimOutput, EndCall, position, row, act, waits, poll_number}
use Rattle.task_cell.proofs.Moved.{stands}
use Rattle.task_cell.proofs.PollWays.{has_claimed}
use Rattle.task_cell.proofs.PollAnswers.{seen_again, waited, saw_end, answers_ended, answers_output}
use Rattle.task_cell.specs.Belongs.{HasYielded}
use Rattle.task_cell.proofs.Vocabulary.{subst}
use Rattle.task_cell.proofs.cell.Share.answer.Goals as goal

pub take_output-output-requires-clause-party : goal.take_output-output-requires-clause-party
take_output-output-requires-clause-party g c = let p = c.args.party.now in let q = c.look_again.new.party in let w = c.in-Ok.found in has_claimed w (row Look w ∷ row ClaimOutput w ∷ []) p q (seen_again p q (Ok w) c.in-Ok.ensures)

pub returns-in-Ok : goal.returns-in-Ok
returns-in-Ok g c = let p = c.args.party.now in let q = c.look_again.new.party in let w = c.in-Ok.found in let t = c.take_output-output.ensures.path in record {
  path = answers_output g.A.Wake.cloned g.A.Wake.woken g.A.Wake.woken_by_ref g.A.Wake.compared c.args.awaiter.now.awaiter.now w c.hand_out.result t.0 p q c.take_output-output.new.party (seen_again p q (Ok w) c.in-Ok.ensures) t.1 t.2;
  yielded = subst (λ k. HasYielded c.args.self.now k.output) (sym c.hand_out.ensures) c.take_output-output.ensures.yielded;
}

pub returns-then-has_to_wait : goal.returns-then-has_to_wait
returns-then-has_to_wait g c = let p = c.args.party.now in let q = c.look_again.new.party in let w = c.in-Err.found in let e = sym c.has_to_wait.ensures ∙ c.if-has_to_wait.true in
    record { path = (row Look w ∷ act EndCall ∷ [], waits w e, waited w p q (seen_again p q (Err w) c.in-Err.ensures) e); yielded = tt }

pub answer_closed-requires-clause-party : goal.answer_closed-requires-clause-party
answer_closed-requires-clause-party g c = let p = c.args.party.now in let q = c.look_again.new.party in let w = c.in-Err.found in let n = poll_number (position p) in
    let s = saw_end w p q (seen_again p q (Err w) c.in-Err.ensures) (sym c.has_to_wait.ensures ∙ c.if-has_to_wait.false) in (n, stands p q (row Look w ∷ []) (Notifier (OfPoll n)) [] s.1)

pub returns-else-has_to_wait : goal.returns-else-has_to_wait
returns-else-has_to_wait g c = let p = c.args.party.now in let q = c.look_again.new.party in let w = c.in-Err.found in let t = c.answer_closed.ensures in
    let s = saw_end w p q (seen_again p q (Err w) c.in-Err.ensures) (sym c.has_to_wait.ensures ∙ c.if-has_to_wait.false) in record {
      path = answers_ended g.A.Wake.cloned g.A.Wake.woken g.A.Wake.woken_by_ref g.A.Wake.compared c.args.awaiter.now.awaiter.now w (poll_number (position p)) t.0 p q c.answer_closed.new.party s.0 t.1 s.1 t.2;
      yielded = tt;
    }
