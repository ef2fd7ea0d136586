use Rattle.std.proofs.Common.{◌≡◌, ◌∙◌, ◌++◌, length, sym, ap, Some, None, arith}
use Rattle.std.proofs.lemmas.List.{length-append}
use Rattle.std.proofs.lemmas.Option.{slice_get_within}
use Rattle.std.specs.Option.{option_map}
use Rattle.task_replay.specs.Line.{listed}
use Rattle.task_replay.specs.Replay.{Standing, outcome_of}
use Rattle.task_replay.proofs.Replayed.{leaves, left_so, at_view}
use Rattle.task_replay.proofs.machine.Machine.step.Goals as goal

pub returns-in_default-rule_of_act-clause-answered : goal.returns-in_default-rule_of_act-clause-answered
returns-in_default-rule_of_act-clause-answered g c = λ m e. at_view m (record { party = c.next.inside.party; act = c.next.inside.act }) c.args.next _ c.next.view_is
    (leaves m (record { party = c.next.inside.party; act = c.next.inside.act }) c.args.self.now _ c.in-Some.position None e c.scene.ensures (sym c.position.ensures ∙ c.in-Some.is) (c.rule_of_act.ensures ∙ ap (option_map outcome_of) c.in_default-rule_of_act.is))

pub index_mut-requires : goal.index_mut-requires
index_mut-requires g c =
    let within = slice_get_within c.args.self.now.parties c.next.inside.party c.in-Some.position (sym c.position.ensures ∙ c.in-Some.is) in
    let same : length c.self.inside.parties.items ≡ length (c.args.self.now.parties ++ listed c.in-Some-rule_of_act.effect.added) = ap (λ (n : Standing). length n.parties) (c.self.view_is ∙ c.in_ok-add.ensures.grown) in
    omega (arith, within, same, length-append c.args.self.now.parties (listed c.in-Some-rule_of_act.effect.added))

pub returns-clause-answered : goal.returns-clause-answered
returns-clause-answered g c = λ m e. at_view m (record { party = c.next.inside.party; act = c.next.inside.act }) c.args.next _ c.next.view_is
    (leaves m (record { party = c.next.inside.party; act = c.next.inside.act }) c.args.self.now _ c.in-Some.position (Some c.in-Some-rule_of_act.effect) e c.scene.ensures (sym c.position.ensures ∙ c.in-Some.is) (c.rule_of_act.ensures ∙ ap (option_map outcome_of) c.in-Some-rule_of_act.is)
    ∙ left_so c.args.self.now _ _ c.self.inside.slots _ c.next.inside.party c.in-Some-rule_of_act.effect (c.self.view_is ∙ c.in_ok-add.ensures.grown)
    (slice_get_within c.args.self.now.parties c.next.inside.party c.in-Some.position (sym c.position.ensures ∙ c.in-Some.is)))
