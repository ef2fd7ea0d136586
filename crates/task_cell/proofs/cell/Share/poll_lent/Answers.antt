use Rattle.task_cell.proofs.Vocabulary.{◌∷◌, [], ◌++◌, sym, ap, ◌∙◌, refl, true, false, Ok, Err, OfPoll, Notifier, Registrar, Looking, Look, ClaimOutput, as_task, position, row, poll_number}
use Rattle.task_cell.proofs.Moved.{stands, position_is}
use Rattle.task_cell.proofs.PollSeen.{poll_saw, still_ended}
use Rattle.task_cell.proofs.PollWays.{has_claimed}
use Rattle.task_cell.proofs.PollAnswers.{seen, saw, came, comes, is_looking, polled_output, polled_ended, polled_refused, polled_again}
use Rattle.task_cell.proofs.Registrations.{registers_after, registers_first}
use Rattle.task_cell.specs.Belongs.{HasYielded}
use Rattle.task_cell.proofs.Vocabulary.{subst}
use Rattle.task_cell.proofs.cell.Share.poll_lent.Goals as goal

pub take_output-output-requires-clause-party : goal.take_output-output-requires-clause-party
take_output-output-requires-clause-party g c = let w = c.in-Ok.found in has_claimed w (row ClaimOutput w ∷ []) c.args.party.now c.look.new.party (seen c.args.party.now c.look.new.party (Ok w) c.in-Ok.ensures.path)

pub returns-in-Ok : goal.returns-in-Ok
returns-in-Ok g c = let p = c.args.party.now in let q = c.look.new.party in let w = c.in-Ok.found in let t = c.take_output-output.ensures.path in
    let whole = polled_output g.A.Wake.cloned g.A.Wake.woken g.A.Wake.woken_by_ref g.A.Wake.compared c.args.awaiter.now.awaiter.now w c.hand_out.result t.0 p q c.take_output-output.new.party (seen p q (Ok w) c.in-Ok.ensures.path) t.1 t.2 in
    record {
      path = whole;
      yielded = subst (λ k. HasYielded c.args.self.now k.output) (sym c.hand_out.ensures) c.take_output-output.ensures.yielded;
      ended = λ z. let e = c.in-Ok.ensures.ended z in cc;
      closed = λ z. poll_saw g.A.Wake.cloned g.A.Wake.woken g.A.Wake.woken_by_ref g.A.Wake.compared c.args.awaiter.now.awaiter.now p c.take_output-output.new.party whole.0 _ _ whole.1 whole.2 z;
      registered = λ z. absurd (cc);
    }

pub answer_closed-requires-clause-party : goal.answer_closed-requires-clause-party
answer_closed-requires-clause-party g c = let p = c.args.party.now in let q = c.look.new.party in let w = c.in-Err.found in let n = poll_number (position p) in
    (n, stands p q (row Look w ∷ []) (Notifier (OfPoll n)) [] (saw w p q true (seen p q (Err w) c.in-Err.ensures.path) (sym c.has_ended.ensures ∙ c.if-has_ended.true)))

pub returns-then-has_ended : goal.returns-then-has_ended
returns-then-has_ended g c = let p = c.args.party.now in let q = c.look.new.party in let w = c.in-Err.found in let n = poll_number (position p) in let t = c.answer_closed.ensures in let f = sym c.has_ended.ensures ∙ c.if-has_ended.true in
    let whole = polled_ended g.A.Wake.cloned g.A.Wake.woken g.A.Wake.woken_by_ref g.A.Wake.compared c.args.awaiter.now.awaiter.now w n t.0 p q c.answer_closed.new.party f t.1 (saw w p q true (seen p q (Err w) c.in-Err.ensures.path) f) t.2 in
    record {
      path = whole;
      yielded = tt;
      ended = λ z. refl;
      closed = λ z. poll_saw g.A.Wake.cloned g.A.Wake.woken g.A.Wake.woken_by_ref g.A.Wake.compared c.args.awaiter.now.awaiter.now p c.answer_closed.new.party whole.0 _ _ whole.1 whole.2 z;
      registered = λ z. absurd (cc);
    }

pub register-requires-clause-party : goal.register-requires-clause-party
register-requires-clause-party g c = let p = c.args.party.now in let q = c.look.new.party in let w = c.in-Err.found in let n = poll_number (position p) in let f = sym c.has_ended.ensures ∙ c.if-has_ended.false in let s = seen p q (Err w) c.in-Err.ensures.path in let on = saw w p q false s f in
    (n, stands p q (row Look w ∷ []) (Registrar n) [] on)

pub returns-then-not-register : goal.returns-then-not-register
returns-then-not-register g c = let p = c.args.party.now in let q = c.look.new.party in let w = c.in-Err.found in let n = poll_number (position p) in let f = sym c.has_ended.ensures ∙ c.if-has_ended.false in let s = seen p q (Err w) c.in-Err.ensures.path in let on = saw w p q false s f in let r = came g.A.Wake.cloned g.A.Wake.woken g.A.Wake.woken_by_ref g.A.Wake.compared c.args.awaiter.now.awaiter.now q c.register.new.party c.register.result false c.register.ensures c.if-not-register.true in
    let whole = polled_refused g.A.Wake.cloned g.A.Wake.woken g.A.Wake.woken_by_ref g.A.Wake.compared c.args.awaiter.now.awaiter.now w n p q c.register.new.party s.0 f on r in
    record {
      path = whole;
      yielded = tt;
      ended = λ z. still_ended w (c.in-Err.ensures.ended z) f;
      closed = λ z. poll_saw g.A.Wake.cloned g.A.Wake.woken g.A.Wake.woken_by_ref g.A.Wake.compared c.args.awaiter.now.awaiter.now p c.register.new.party whole.0 _ _ whole.1 whole.2 z;
      registered = λ z. absurd (cc);
    }

pub answer-requires-clause-cell : goal.answer-requires-clause-cell
answer-requires-clause-cell g c = let p = c.args.party.now in let q = c.look.new.party in let w = c.in-Err.found in let n = poll_number (position p) in let f = sym c.has_ended.ensures ∙ c.if-has_ended.false in let s = seen p q (Err w) c.in-Err.ensures.path in let on' = saw w p q false s f in let r = came g.A.Wake.cloned g.A.Wake.woken g.A.Wake.woken_by_ref g.A.Wake.compared c.args.awaiter.now.awaiter.now q c.register.new.party c.register.result true c.register.ensures c.if-not-register.false in
    let on = is_looking g.A.Wake.cloned g.A.Wake.woken g.A.Wake.woken_by_ref g.A.Wake.compared c.args.awaiter.now.awaiter.now w n r.0 p q c.register.new.party on' r.2 in on.cell ∙ c.requires.cell

pub answer-requires-clause-party : goal.answer-requires-clause-party
answer-requires-clause-party g c = let p = c.args.party.now in let q = c.look.new.party in let w = c.in-Err.found in let n = poll_number (position p) in let f = sym c.has_ended.ensures ∙ c.if-has_ended.false in let s = seen p q (Err w) c.in-Err.ensures.path in let on = saw w p q false s f in let r = came g.A.Wake.cloned g.A.Wake.woken g.A.Wake.woken_by_ref g.A.Wake.compared c.args.awaiter.now.awaiter.now q c.register.new.party c.register.result true c.register.ensures c.if-not-register.false in
    (n, stands p c.register.new.party ((row Look w ∷ []) ++ r.0) (Looking n) [] (is_looking g.A.Wake.cloned g.A.Wake.woken g.A.Wake.woken_by_ref g.A.Wake.compared c.args.awaiter.now.awaiter.now w n r.0 p q c.register.new.party on r.2))

pub returns : goal.returns
returns g c = let p = c.args.party.now in let q = c.look.new.party in let w = c.in-Err.found in let n = poll_number (position p) in let f = sym c.has_ended.ensures ∙ c.if-has_ended.false in let s = seen p q (Err w) c.in-Err.ensures.path in let on = saw w p q false s f in let r = came g.A.Wake.cloned g.A.Wake.woken g.A.Wake.woken_by_ref g.A.Wake.compared c.args.awaiter.now.awaiter.now q c.register.new.party c.register.result true c.register.ensures c.if-not-register.false in let k = c.answer.ensures.path in
    let whole = polled_again g.A.Wake.cloned g.A.Wake.woken g.A.Wake.woken_by_ref g.A.Wake.compared c.args.awaiter.now.awaiter.now w n c.answer.result p q c.register.new.party c.answer.new.party s.0 f on r c.answer.ensures.path in
    record {
      path = whole;
      yielded = c.answer.ensures.yielded;
      ended = λ z. still_ended w (c.in-Err.ensures.ended z) f;
      closed = λ z. poll_saw g.A.Wake.cloned g.A.Wake.woken g.A.Wake.woken_by_ref g.A.Wake.compared c.args.awaiter.now.awaiter.now p c.answer.new.party whole.0 _ _ whole.1 whole.2 z;
      registered = λ z. let lent = c.args.awaiter.now.awaiter.now in let m = c.register.new.party in let same = ap poll_number (position_is q (Registrar n) [] (stands p q (row Look w ∷ []) (Registrar n) [] on)) in
          let came = comes g.A.Wake.cloned g.A.Wake.woken g.A.Wake.woken_by_ref g.A.Wake.compared lent q m c.register.result c.register.ensures c.if-not-register.false in
          registers_first g.A.Wake lent p m c.answer.new.party k.0 (as_task (poll_number (position m))) (registers_after g.A.Wake lent p q m (row Look w ∷ []) (Registrar n) on same came) k.2;
    }
