use Rattle.task_cell.proofs.Vocabulary.{◌∙◌, [], false, OfRun, Ran, Ended, CallEnding, held}
use Rattle.task_cell.proofs.Moved.{stands}
use Rattle.task_cell.proofs.RunRest.{run_gives_up, due_cell, run_has, rested, ended_call}
use Rattle.task_cell.proofs.cell.Share.finish.Goals as goal

pub release-ledger-requires-clause-party : goal.release-ledger-requires-clause-party
release-ledger-requires-clause-party g c = let d = c.take_due-awaiter.ensures OfRun c.requires.party in
    let x = run_gives_up c.args.due c.args.party.now c.take_due-awaiter.new.party (held c.take_due-awaiter.result) d in (x.0, Ran false, x.1)

pub release-ledger-requires-clause-cell : goal.release-ledger-requires-clause-cell
release-ledger-requires-clause-cell g c = due_cell OfRun c.args.due c.args.party.now c.take_due-awaiter.new.party (held c.take_due-awaiter.result) (c.take_due-awaiter.ensures OfRun c.requires.party) ∙ c.requires.cell

pub wake_taken-requires-clause-party : goal.wake_taken-requires-clause-party
wake_taken-requires-clause-party g c = let d = c.take_due-awaiter.ensures OfRun c.requires.party in
    (OfRun, run_has c.args.due c.args.party.now c.take_due-awaiter.new.party c.release-ledger.new.party (held c.take_due-awaiter.result) d c.release-ledger.ensures.path)

pub end-requires-clause-cell : goal.end-requires-clause-cell
end-requires-clause-cell g c = let d = c.take_due-awaiter.ensures OfRun c.requires.party in
    let k = c.wake_taken.ensures OfRun (run_has c.args.due c.args.party.now c.take_due-awaiter.new.party c.release-ledger.new.party (held c.take_due-awaiter.result) d c.release-ledger.ensures.path) in k.2.cell ∙ c.release-ledger.ensures.ledger

pub end-requires-clause-party : goal.end-requires-clause-party
end-requires-clause-party g c = let d = c.take_due-awaiter.ensures OfRun c.requires.party in
    let k = c.wake_taken.ensures OfRun (run_has c.args.due c.args.party.now c.take_due-awaiter.new.party c.release-ledger.new.party (held c.take_due-awaiter.result) d c.release-ledger.ensures.path) in
    (Ran false, Ended, stands c.release-ledger.new.party c.wake_taken.new.party k.0 (CallEnding (Ran false) Ended) [] k.2)

pub returns : goal.returns
returns g c = rested _ c.args.due c.args.party.now c.take_due-awaiter.new.party c.release-ledger.new.party c.wake_taken.new.party c.end.new.party (held c.take_due-awaiter.result) (c.take_due-awaiter.ensures OfRun c.requires.party) c.release-ledger.ensures.path c.wake_taken.ensures
    (λ s. ended_call (Ran false) Ended c.wake_taken.new.party c.end.new.party s c.end.ensures)
