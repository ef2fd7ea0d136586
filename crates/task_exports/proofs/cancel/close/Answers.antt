use Rattle.std.specs.Prelude.{IfNone, ◌-◌, ◌^◌}
use Rattle.task_steps.specs.Attempts.{HasMissed}
use Rattle.std.proofs.Common.{refl, sym, ap, ◌∙◌, subst, Some}
use Rattle.std.specs.Prelude.{IfSome}
use Rattle.task_exports.proofs.Cancelling.{busy_cell, busy_stands, closed_so, deliverer_stands, handed_alone, handed_due, nobody_scheduled, row_cell, row_limit, row_over}
use Rattle.task_exports.proofs.Detaching.{is_runnable, live_runnable}
use Rattle.task_exports.specs.TaskAnswers.{HasRunnable, IsRunnableAt, cancel_missed}
use Rattle.task_cell.specs.Belongs.{Leaves, cell_of}
use Rattle.task_cell.specs.Calls.{first}
use Rattle.task_cell.specs.TaskPaths.{Cancels as CancelsRow}
use Rattle.task_steps.specs.TaskScripts.{brings_share}
use Rattle.task_exports.proofs.cancel.close.Goals as goal

pub returns-in-None-clause-path : goal.returns-in-None-clause-path
returns-in-None-clause-path c = λ n s. cancel_missed (subst (λ o. IfNone o (HasMissed (2 ^ 64 - 1) c.close_task_some.new.party.seat.me)) c.in-None.is c.close_task_some.ensures.missed)

pub returns-in-Some-None-clause-path : goal.returns-in-Some-None-clause-path
returns-in-Some-None-clause-path c = λ n s. row_over n c.args.party.now c.close_task_some.new.party _ (ap first c.in-Some-None.field-0-is) (c.in-Some-None.ensures.path n s)

pub leave_closed-requires-clause-cell : goal.leave_closed-requires-clause-cell
leave_closed-requires-clause-cell c = let s = c.requires.party in busy_cell s.0 c.args.party.now c.close_task_some.new.party _ (subst (λ x. CancelsRow s.0 c.args.party.now c.close_task_some.new.party (Some x)) c.in-Busy.is (subst (λ x. CancelsRow s.0 c.args.party.now c.close_task_some.new.party (first x)) c.in-Some-Some.field-0-is (c.in-Some-Some.ensures.path s.0 s.1))) ∙ c.requires.cell.0

pub leave_closed-requires-clause-party : goal.leave_closed-requires-clause-party
leave_closed-requires-clause-party c = let s = c.requires.party in (s.0, busy_stands s.0 c.args.party.now c.close_task_some.new.party _ (subst (λ x. CancelsRow s.0 c.args.party.now c.close_task_some.new.party (Some x)) c.in-Busy.is (subst (λ x. CancelsRow s.0 c.args.party.now c.close_task_some.new.party (first x)) c.in-Some-Some.field-0-is (c.in-Some-Some.ensures.path s.0 s.1))))

pub returns-in-Busy-clause-path : goal.returns-in-Busy-clause-path
returns-in-Busy-clause-path c = λ n s. let x = (subst (λ x. CancelsRow n c.args.party.now c.close_task_some.new.party (Some x)) c.in-Busy.is (subst (λ x. CancelsRow n c.args.party.now c.close_task_some.new.party (first x)) c.in-Some-Some.field-0-is (c.in-Some-Some.ensures.path n s))) in closed_so n c.args.party.now c.close_task_some.new.party c.leave_closed.new.party _ c.leave_closed.result x (c.leave_closed.ensures n (busy_stands n c.args.party.now c.close_task_some.new.party _ x))

pub returns-in-Busy-clause-runnable : goal.returns-in-Busy-clause-runnable
returns-in-Busy-clause-runnable c = let s = c.requires.party in let x = (subst (λ x. CancelsRow s.0 c.args.party.now c.close_task_some.new.party (Some x)) c.in-Busy.is (subst (λ x. CancelsRow s.0 c.args.party.now c.close_task_some.new.party (first x)) c.in-Some-Some.field-0-is (c.in-Some-Some.ensures.path s.0 s.1))) in
    subst (λ b. HasRunnable b (cell_of c.args.share.now) c.args.out.now) (sym (nobody_scheduled s.0 c.close_task_some.new.party c.leave_closed.new.party _ c.leave_closed.result (c.leave_closed.ensures s.0 (busy_stands s.0 c.args.party.now c.close_task_some.new.party _ x)))) c.requires.room

pub hand_over-runnable-requires-clause-cell : goal.hand_over-runnable-requires-clause-cell
hand_over-runnable-requires-clause-cell c = let s = c.requires.party in row_cell s.0 c.args.party.now c.close_task_some.new.party _ (subst (λ x. CancelsRow s.0 c.args.party.now c.close_task_some.new.party (Some x)) c.in-Idle.is (subst (λ x. CancelsRow s.0 c.args.party.now c.close_task_some.new.party (first x)) c.in-Some-Some.field-0-is (c.in-Some-Some.ensures.path s.0 s.1))) ∙ c.requires.cell.0

pub hand_over-runnable-requires-clause-party : goal.hand_over-runnable-requires-clause-party
hand_over-runnable-requires-clause-party c = let s = c.requires.party in (_, refl, deliverer_stands s.0 c.args.party.now c.close_task_some.new.party _ (subst (λ x. CancelsRow s.0 c.args.party.now c.close_task_some.new.party (Some x)) c.in-Idle.is (subst (λ x. CancelsRow s.0 c.args.party.now c.close_task_some.new.party (first x)) c.in-Some-Some.field-0-is (c.in-Some-Some.ensures.path s.0 s.1))))

pub returns-then-due-clause-path : goal.returns-then-due-clause-path
returns-then-due-clause-path c = λ n s. handed_due n c.args.party.now c.close_task_some.new.party c.hand_over-runnable.new.party _ c.if-due.true (subst (λ x. CancelsRow n c.args.party.now c.close_task_some.new.party (Some x)) c.in-Idle.is (subst (λ x. CancelsRow n c.args.party.now c.close_task_some.new.party (first x)) c.in-Some-Some.field-0-is (c.in-Some-Some.ensures.path n s))) c.hand_over-runnable.ensures.path

pub returns-else-due-clause-path : goal.returns-else-due-clause-path
returns-else-due-clause-path c = λ n s. handed_alone n c.args.party.now c.close_task_some.new.party c.hand_over-runnable.new.party _ c.if-due.false (subst (λ x. CancelsRow n c.args.party.now c.close_task_some.new.party (Some x)) c.in-Idle.is (subst (λ x. CancelsRow n c.args.party.now c.close_task_some.new.party (first x)) c.in-Some-Some.field-0-is (c.in-Some-Some.ensures.path n s))) c.hand_over-runnable.ensures.path

pub returns-then-due-clause-runnable : goal.returns-then-due-clause-runnable
returns-then-due-clause-runnable c = let s = c.requires.party in let x = (subst (λ x. CancelsRow s.0 c.args.party.now c.close_task_some.new.party (Some x)) c.in-Idle.is (subst (λ x. CancelsRow s.0 c.args.party.now c.close_task_some.new.party (first x)) c.in-Some-Some.field-0-is (c.in-Some-Some.ensures.path s.0 s.1))) in let l = (subst (λ o. IfSome o (λ closed. Leaves c.args.share.now closed.1 (brings_share closed.0))) c.in-Some-Some.field-0-is c.in-Some-Some.ensures.share) in let q = c.close_task_some.new.party in
    let live = live_runnable c.args.share.now c.in-Some-Some.closed.1 _ q c.hand_over-runnable.result (row_cell s.0 c.args.party.now q _ x ∙ c.requires.cell.0) (row_limit s.0 c.args.party.now q _ x ∙ c.requires.cell.1) l (ap brings_share c.in-Idle.is) c.hand_over-runnable.ensures.runnable in
    (c.put.ensures.1, subst (λ h. IsRunnableAt (cell_of c.args.share.now) h) (sym c.put.ensures.0) (live, (λ i. (l.cell.0 i, l.cell.1 i)), is_runnable q c.hand_over-runnable.result c.hand_over-runnable.ensures.runnable))

pub returns-else-due-clause-runnable : goal.returns-else-due-clause-runnable
returns-else-due-clause-runnable c = let s = c.requires.party in let x = (subst (λ x. CancelsRow s.0 c.args.party.now c.close_task_some.new.party (Some x)) c.in-Idle.is (subst (λ x. CancelsRow s.0 c.args.party.now c.close_task_some.new.party (first x)) c.in-Some-Some.field-0-is (c.in-Some-Some.ensures.path s.0 s.1))) in let l = (subst (λ o. IfSome o (λ closed. Leaves c.args.share.now closed.1 (brings_share closed.0))) c.in-Some-Some.field-0-is c.in-Some-Some.ensures.share) in let q = c.close_task_some.new.party in
    let live = live_runnable c.args.share.now c.in-Some-Some.closed.1 _ q c.hand_over-runnable.result (row_cell s.0 c.args.party.now q _ x ∙ c.requires.cell.0) (row_limit s.0 c.args.party.now q _ x ∙ c.requires.cell.1) l (ap brings_share c.in-Idle.is) c.hand_over-runnable.ensures.runnable in
    (c.put.ensures.1, subst (λ h. IsRunnableAt (cell_of c.args.share.now) h) (sym c.put.ensures.0) (live, (λ i. (l.cell.0 i, l.cell.1 i)), is_runnable q c.hand_over-runnable.result c.hand_over-runnable.ensures.runnable))
