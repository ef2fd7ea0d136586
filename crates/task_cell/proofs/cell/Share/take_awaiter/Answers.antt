use Rattle.task_cell.proofs.Vocabulary.{ap, subst, held}
use Rattle.task_cell.proofs.PollWays.{in_hand, hand_stands, dropped, woke, nothing}
use Rattle.task_cell.proofs.cell.Share.take_awaiter.Goals as goal

pub note_dropped-requires-clause-party : goal.note_dropped-requires-clause-party
note_dropped-requires-clause-party g c = let s = c.requires.party in
    let h = in_hand s.0 s.1 c.args.party.now c.notify.new.party c.in-Some.taken.value (held c.notify.result) s.2 s.3 c.notify.ensures (ap held c.in-Some.is) in (h.2, s.0, s.1, hand_stands s.0 s.1 c.args.party.now c.notify.new.party h, s.3)

pub note_woken-requires-clause-party : goal.note_woken-requires-clause-party
note_woken-requires-clause-party g c = let s = c.requires.party in
    let h = in_hand s.0 s.1 c.args.party.now c.notify.new.party c.in-Some.taken.value (held c.notify.result) s.2 s.3 c.notify.ensures (ap held c.in-Some.is) in (h.2, s.0, s.1, hand_stands s.0 s.1 c.args.party.now c.notify.new.party h)

pub returns-then-is_woken_by : goal.returns-then-is_woken_by
returns-then-is_woken_by g c = let s = c.requires.party in
    dropped g.A.Wake.woken g.A.Wake.compared c.args.awaiter.now.awaiter.now s.0 s.1 c.args.party.now c.notify.new.party c.note_dropped.new.party c.in-Some.taken.value c.in-Some.taken.value.awaiter (held c.notify.result) s.2 s.3 c.notify.ensures (ap held c.in-Some.is)
    (subst (λ b. g.A.Wake.compared c.in-Some.taken.value.awaiter c.args.awaiter.now.awaiter.now b) c.if-is_woken_by.true c.is_woken_by.ensures) c.note_dropped.ensures

pub returns-else-is_woken_by : goal.returns-else-is_woken_by
returns-else-is_woken_by g c = let s = c.requires.party in
    woke g.A.Wake.woken g.A.Wake.compared c.args.awaiter.now.awaiter.now s.0 s.1 c.args.party.now c.notify.new.party c.note_woken.new.party c.in-Some.taken.value c.in-Some.taken.value.awaiter (held c.notify.result) s.2 s.3 c.notify.ensures (ap held c.in-Some.is)
    (subst (λ b. g.A.Wake.compared c.in-Some.taken.value.awaiter c.args.awaiter.now.awaiter.now b) c.if-is_woken_by.false c.is_woken_by.ensures) (assumption c) c.note_woken.ensures

pub returns-in_default : goal.returns-in_default
returns-in_default g c = let s = c.requires.party in
    nothing g.A.Wake.woken g.A.Wake.compared c.args.awaiter.now.awaiter.now s.0 s.1 c.args.party.now c.notify.new.party (held c.notify.result) s.2 s.3 c.notify.ensures (ap held c.in_default.is)
