use Rattle.std.proofs.Common.{[], ◌∷◌, refl}
use Rattle.task_exports.proofs.Polling.{poll_dealt, poll_ends_dealt}
use Rattle.task_cell.proofs.Moved.{stands}
use Rattle.task_core.specs.declared.acts.Act.TheVariants.{DropAwaiter}
use Rattle.task_laws.specs.declared.positions.NotifyingCall.TheVariants.{OfPoll}
use Rattle.task_laws.specs.declared.positions.PollAnswer.TheVariants.{IsClosed}
use Rattle.task_steps.specs.Deeds.{act}
use Rattle.task_exports.proofs.poll.PollDroppedStep.make.Goals as goal

pub note_dropped-requires-clause-party : goal.note_dropped-requires-clause-party
note_dropped-requires-clause-party c = let s = c.requires.starts in (s.1.0, OfPoll s.0, [], s.1.1, refl)

pub end_poll-requires-clause-party : goal.end_poll-requires-clause-party
end_poll-requires-clause-party c = let s = c.requires.starts in (s.0, IsClosed, stands _ _ _ _ _ (poll_dealt s.0 s.1.0 (act DropAwaiter ∷ []) c.args.party.now c.note_dropped.new.party s.1.1 c.note_dropped.ensures))

pub returns : goal.returns
returns c = record { does = λ n s1. (refl, poll_ends_dealt n s1.0 (act DropAwaiter ∷ []) c.args.party.now c.note_dropped.new.party c.end_poll.new.party s1.1 c.note_dropped.ensures c.end_poll.ensures) }
