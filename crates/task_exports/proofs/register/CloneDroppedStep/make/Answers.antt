use Rattle.std.proofs.Common.{[], ◌∷◌, subst}
use Rattle.task_cell.proofs.Moved.{position_is, stands}
use Rattle.task_cell.specs.Calls.{Did}
use Rattle.task_core.specs.declared.acts.Act.TheVariants.{DropAwaiter}
use Rattle.task_laws.specs.declared.positions.Position.TheVariants.{UnusedClone, Looking}
use Rattle.task_steps.specs.Deeds.{act}
use Rattle.task_steps.specs.Standing.{poll_number}
use Rattle.task_exports.proofs.register.CloneDroppedStep.make.Goals as goal

pub look_again-requires-clause-party : goal.look_again-requires-clause-party
look_again-requires-clause-party c = let s = c.requires.starts in (s.0, stands _ _ _ _ _ (subst (λ at. Did (act DropAwaiter ∷ []) (Looking (poll_number at)) c.args.party.now c.note_clone_dropped.new.party) (position_is c.args.party.now (UnusedClone s.0) _ s.1) c.note_clone_dropped.ensures))

pub returns : goal.returns
returns c = record {
  does = λ n s1. let g = subst (λ at. Did (act DropAwaiter ∷ []) (Looking (poll_number at)) c.args.party.now c.note_clone_dropped.new.party) (position_is c.args.party.now (UnusedClone n) _ s1) c.note_clone_dropped.ensures in
      ((c.note_clone_dropped.new.party, g, c.look_again.ensures n (stands _ _ _ _ _ g)));
}
