use Rattle.task_cell.proofs.Vocabulary.{◌∙◌, ap, refl, subst, Some}
use Rattle.task_steps.specs.TaskScripts.{brings_share}
use Rattle.task_cell.proofs.Moved.{stands, limit_is}
use Rattle.task_cell.proofs.Sharing.{same_cell}
use Rattle.task_cell.proofs.TaskCalls.{Closes, closed_busy, closed_idle, cancels_over, cancels_busy, cancels_idle}
use Rattle.task_cell.proofs.cell.Share.cancel.Goals as goal

pub returns-in_default : goal.returns-in_default
returns-in_default g c = let s = c.requires.party in record { path = cancels_over _ _ _ _ s.0 s.1 (c.in_default.ensures.path s.0 s.1) }

pub none-requires : goal.none-requires
none-requires g c = record { there = c.in-Some.ensures.share.is_there ∙ ap brings_share c.in-Busy.is; last = c.in-Some.ensures.share.is_last }

pub leave_closed-requires-clause-cell : goal.leave_closed-requires-clause-cell
leave_closed-requires-clause-cell g c = let f = subst (λ x. Closes c.args.party.now c.close_task.new.party (Some x)) c.in-Busy.is c.in-Some.ensures.path in let x = closed_busy _ _ _ c.requires.party f in x.1.cell ∙ c.requires.cell.0

pub leave_closed-requires-clause-party : goal.leave_closed-requires-clause-party
leave_closed-requires-clause-party g c = let f = subst (λ x. Closes c.args.party.now c.close_task.new.party (Some x)) c.in-Busy.is c.in-Some.ensures.path in let s = c.requires.party in (s.0, stands _ _ _ _ _ (closed_busy _ _ _ s f).1)

pub returns-in-Busy : goal.returns-in-Busy
returns-in-Busy g c = let f = subst (λ x. Closes c.args.party.now c.close_task.new.party (Some x)) c.in-Busy.is c.in-Some.ensures.path in let s = c.requires.party in
    record { path = cancels_busy _ _ _ _ _ s.0 _ s.1 (f s.0 s.1) (c.leave_closed.ensures s.0 (stands _ _ _ _ _ (closed_busy _ _ _ s f).1)) }

pub share-requires : goal.share-requires
share-requires g c = record { there = c.in-Some.ensures.share.is_there ∙ ap brings_share c.in-Idle.is }

pub deliver_by-requires-clause-cell : goal.deliver_by-requires-clause-cell
deliver_by-requires-clause-cell g c = let f = subst (λ x. Closes c.args.party.now c.close_task.new.party (Some x)) c.in-Idle.is c.in-Some.ensures.path in let s = c.requires.party in let x = f s.0 s.1 in (x.3.cell ∙ c.requires.cell.0, limit_is _ _ _ _ _ x.3 ∙ c.requires.cell.1)

pub deliver_by-requires-clause-share : goal.deliver_by-requires-clause-share
deliver_by-requires-clause-share g c = same_cell c.args.self.now c.share.result c.in-Some.closed.1 _ c.in-Some.ensures.share c.share.ensures

pub deliver_by-requires-clause-party : goal.deliver_by-requires-clause-party
deliver_by-requires-clause-party g c = let f = subst (λ x. Closes c.args.party.now c.close_task.new.party (Some x)) c.in-Idle.is c.in-Some.ensures.path in let s = c.requires.party in (_, refl, stands _ _ _ _ _ (f s.0 s.1).3)

pub leave_closed-requires-in-Idle-clause-cell : goal.leave_closed-requires-in-Idle-clause-cell
leave_closed-requires-in-Idle-clause-cell g c = let f = subst (λ x. Closes c.args.party.now c.close_task.new.party (Some x)) c.in-Idle.is c.in-Some.ensures.path in let x = closed_idle _ _ _ _ c.requires.party f c.deliver_by.ensures.path in x.1.cell ∙ c.requires.cell.0

pub leave_closed-requires-in-Idle-clause-party : goal.leave_closed-requires-in-Idle-clause-party
leave_closed-requires-in-Idle-clause-party g c = let f = subst (λ x. Closes c.args.party.now c.close_task.new.party (Some x)) c.in-Idle.is c.in-Some.ensures.path in let s = c.requires.party in (s.0, stands _ _ _ _ _ (closed_idle _ _ _ _ s f c.deliver_by.ensures.path).1)

pub returns-in-Idle : goal.returns-in-Idle
returns-in-Idle g c = let f = subst (λ x. Closes c.args.party.now c.close_task.new.party (Some x)) c.in-Idle.is c.in-Some.ensures.path in let s = c.requires.party in let h = c.deliver_by.ensures in record {
  path = cancels_idle _ _ _ _ _ _ s.0 _ s.1 (f s.0 s.1) h.fact h.path (c.leave_closed-in-Idle.ensures s.0 (stands _ _ _ _ _ (closed_idle _ _ _ _ s f h.path).1));
}
