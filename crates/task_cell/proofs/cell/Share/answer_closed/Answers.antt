use Rattle.task_cell.proofs.Vocabulary.{IsClosed, Answering}
use Rattle.task_cell.proofs.Moved.{stands}
use Rattle.task_cell.proofs.PollWays.{is_answering, ended_closed}
use Rattle.task_cell.proofs.cell.Share.answer_closed.Goals as goal

pub end_poll-requires-clause-party : goal.end_poll-requires-clause-party
end_poll-requires-clause-party g c = let s = c.requires.party in let t = c.take_awaiter.ensures in
    (s.0, IsClosed, stands c.args.party.now c.take_awaiter.new.party t.0 (Answering s.0 IsClosed) _ (is_answering s.0 t.0 c.args.party.now c.take_awaiter.new.party s.1 t.2))

pub returns : goal.returns
returns g c = let s = c.requires.party in let t = c.take_awaiter.ensures in
    (t.0, t.1, ended_closed s.0 t.0 c.args.party.now c.take_awaiter.new.party c.end_poll.new.party s.1 t.2 c.end_poll.ensures)
