use Rattle.task_replay.proofs.Allowed.{is_allowed}
use Rattle.task_replay.proofs.progress.next_act.Goals as goal

pub returns-in-Some-clause-allowed : goal.returns-in-Some-clause-allowed
returns-in-Some-clause-allowed g c =
    is_allowed c.args.player.now.machine c.machine-machine.result.now c.args.player.now.steps c.args.party c.position.result c.in-Some.position c.word.result c.act_there.result
    c.args.player.now.played c.machine-machine.ensures.machine c.position.ensures c.in-Some.is c.word.ensures c.act_there.ensures
