use Rattle.task_cell.proofs.Vocabulary.{subst, false, Nothing, Detaches, HandedOver}
use Rattle.task_cell.proofs.Moved.{stands}
use Rattle.task_cell.proofs.Sharing.{same_cell}
use Rattle.task_cell.proofs.TaskCalls.{detaches_unclaimed, detaches_shared, detaches_last, detaches_orphaned}
use Rattle.task_cell.specs.Belongs.{values_in}
use Rattle.task_cell.proofs.cell.Share.detach.Goals as goal

pub returns-in-Shared : goal.returns-in-Shared
returns-in-Shared g c = record { path = detaches_shared (values_in c.args.self) _ c.args.party.now c.give_task_up-found.new.party (subst (Detaches (values_in c.args.self) c.args.party.now c.give_task_up-found.new.party) c.in-Shared.is c.give_task_up-found.ensures.path) }

pub returns-in-Unclaimed : goal.returns-in-Unclaimed
returns-in-Unclaimed g c = record { path = detaches_unclaimed (values_in c.args.self) _ _ _ _ (subst (Detaches (values_in c.args.self) c.args.party.now c.give_task_up-found.new.party) c.in-Unclaimed.is c.give_task_up-found.ensures.path) c.leave_unclaimed.ensures }

pub returns-in-Last : goal.returns-in-Last
returns-in-Last g c = record { path = detaches_last (values_in c.args.self) _ _ _ _ (subst (Detaches (values_in c.args.self) c.args.party.now c.give_task_up-found.new.party) c.in-Last.is c.give_task_up-found.ensures.path) c.empty_at_end.ensures }

pub returns-in-Orphaned : goal.returns-in-Orphaned
returns-in-Orphaned g c = let x = (subst (Detaches (values_in c.args.self) c.args.party.now c.give_task_up-found.new.party) c.in-Orphaned.is c.give_task_up-found.ensures.path) in
    record {
      path = detaches_orphaned (values_in c.args.self) _ _ _ _ x (subst (λ z. HandedOver g.Q.Schedule.scheduled z c.args.around false) (same_cell c.args.self c.share-in-Orphaned.result c.give_task_up-found.result.1 _ c.give_task_up-found.ensures.share c.share-in-Orphaned.ensures) c.hand_on.ensures.fact)
          (c.hand_on.ensures.path Nothing (stands _ _ _ _ _ x.2));
    }
