use Rattle.std.proofs.Common.{◌∙◌, ap, arith, subst, sym, Some}
use Rattle.std.specs.Prelude.{IsSome, slice_get}
use Rattle.task_laws.specs.Table.{Scene, rule}
use Rattle.task_laws.specs.Machine.{Step}
use Rattle.task_replay.specs.Replay.{Standing, StepsTo, scene_at}
use Rattle.task_replay.proofs.Playing.{references_within, begun_within}
use Rattle.task_replay.proofs.Refused.{allowed_there}
use Rattle.task_replay.proofs.player.Player.refusal.Goals as goal

pub refusal_at-requires-clause-references : goal.refusal_at-requires-clause-references
refusal_at-requires-clause-references g c =
    let same = ap (λ (s : Scene). s.word.references) (c.scene.ensures ∙ ap scene_at c.machine-2.ensures.machine) in
    omega (arith, same, references_within c.args.self.now.machine c.args.self.now.steps c.args.self.now.played, c.args.self.now.limited)

pub refusal_at-requires-clause-polls : goal.refusal_at-requires-clause-polls
refusal_at-requires-clause-polls g c =
    let at = ap (λ (n : Standing). slice_get n.parties c.step.inside.party) (sym c.machine.ensures.machine) ∙ (sym c.position.ensures ∙ c.in-Some.is) in
    omega (arith, begun_within c.args.self.now.machine c.args.self.now.steps c.step.inside.party c.in-Some.position at c.args.self.now.played, c.args.self.now.counted)

pub returns-clause-allowed : goal.returns-clause-allowed
returns-clause-allowed g c = λ h.
    let at = ap (λ (n : Standing). slice_get n.parties c.step.inside.party) (sym c.machine.ensures.machine) ∙ (sym c.position.ensures ∙ c.in-Some.is) in
    let allowed = subst (λ (s : Scene). IsSome (rule s c.step.inside.act c.in-Some.position)) (c.scene.ensures ∙ ap scene_at c.machine-2.ensures.machine) (c.refusal_at.ensures.allowed h) in
    subst (λ (s : Step). (next : Standing) × StepsTo c.args.self.now.machine s (Some next)) c.step.view_is
    (allowed_there c.args.self.now.machine (record { party = c.step.inside.party; act = c.step.inside.act }) c.in-Some.position at allowed)
