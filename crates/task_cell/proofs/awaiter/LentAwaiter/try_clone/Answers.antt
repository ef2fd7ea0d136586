use Rattle.task_cell.proofs.Vocabulary.{◌∙◌, []}
use Rattle.task_cell.proofs.PollWays.{is_of_poll}
use Rattle.task_cell.proofs.awaiter.LentAwaiter.try_clone.Goals as goal

pub returns-in-Ok-clause-number : goal.returns-in-Ok-clause-number
returns-in-Ok-clause-number g c = let s = c.requires.party in c.to_store.ensures.number ∙ is_of_poll c.args.party.now _ [] s.1
