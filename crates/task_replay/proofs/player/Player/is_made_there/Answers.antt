use Rattle.std.proofs.Common.{◌∙◌, ap, arith, sym}
use Rattle.std.specs.Prelude.{slice_get}
use Rattle.task_replay.specs.Replay.{Standing}
use Rattle.task_replay.proofs.Playing.{begun_within}
use Rattle.task_replay.proofs.player.Player.is_made_there.Goals as goal

pub is_made-requires : goal.is_made-requires
is_made-requires g c =
    let at = ap (λ (n : Standing). slice_get n.parties c.step.inside.party) (sym c.machine.ensures.machine) ∙ (sym c.position.ensures ∙ c.in-Some.is) in
    omega (arith, begun_within c.args.self.now.machine c.args.self.now.steps c.step.inside.party c.in-Some.position at c.args.self.now.played, c.args.self.now.counted)
