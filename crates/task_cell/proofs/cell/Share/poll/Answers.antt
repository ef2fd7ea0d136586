use Rattle.task_cell.proofs.Vocabulary.{List, subst, Deed, Did, PollPath, as_task, poll_number, position}
use Rattle.task_cell.specs.Stores.{Registration}
use Rattle.task_cell.proofs.cell.Share.poll.Goals as goal

pub returns-clause-path : goal.returns-clause-path
returns-clause-path g c = subst (λ a. (path : List Deed) × PollPath g.A.Wake.cloned g.A.Wake.woken g.A.Wake.woken_by_ref g.A.Wake.compared a path c.poll_lent.result × Did path (as_task (poll_number (position c.args.party.now))) c.args.party.now c.poll_lent.new.party)
    c.new.ensures c.poll_lent.ensures.path

pub returns-clause-registered : goal.returns-clause-registered
returns-clause-registered g c = λ e. subst (λ a. Registration g.A.Wake a c.args.party.now c.poll_lent.new.party) c.new.ensures (c.poll_lent.ensures.registered e)
