use Rattle.task_cell.proofs.Vocabulary.{refl, ap, subst, WakesTask}
use Rattle.task_cell.specs.Calls.{second}
use Rattle.task_cell.proofs.WakerMoves.{wake_gives, wake_made}
use Rattle.task_cell.proofs.cell.Share.woken.Goals as goal

pub runnable_of-runnable-requires-clause-cell : goal.runnable_of-runnable-requires-clause-cell
runnable_of-runnable-requires-clause-cell g c = let s = c.requires.path in
    let x = wake_gives _ _ s.0 c.args.party (c.in-Some.share, c.in-Some.deliverer) s.1.0 (ap (λ m. m.0.limit) s.1.1) (subst (λ made. WakesTask s.0 c.args.party (second made)) c.in-Some.is s.2) in (x.0, x.1)

pub runnable_of-runnable-requires-clause-deliverer : goal.runnable_of-runnable-requires-clause-deliverer
runnable_of-runnable-requires-clause-deliverer g c = let s = c.requires.path in
    (wake_gives _ _ s.0 c.args.party (c.in-Some.share, c.in-Some.deliverer) s.1.0 (ap (λ m. m.0.limit) s.1.1) (subst (λ made. WakesTask s.0 c.args.party (second made)) c.in-Some.is s.2)).2

pub returns-in-None-clause-nothing : goal.returns-in-None-clause-nothing
returns-in-None-clause-nothing g c = let s = c.requires.path in wake_made _ _ s.0 c.args.party _ _ s.1 refl (subst (λ made. WakesTask s.0 c.args.party (second made)) c.in-None.is s.2)
