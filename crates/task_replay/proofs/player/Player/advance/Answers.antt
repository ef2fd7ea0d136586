use Rattle.std.proofs.Common.{◌≤◌, ◌∙◌, arith, sym, subst, Some}
use Rattle.std.proofs.Math.Logic.{∥∥₁_map}
use Rattle.task_replay.specs.Replay.{Standing, StepsTo, Played}
use Rattle.task_core.specs.declared.word.TheConstants.{LIMIT}
use Rattle.task_replay.proofs.Replayed.{where_yes}
use Rattle.task_replay.proofs.Playing.{played_more, references_within, begun_within, limit_within}
use Rattle.task_replay.proofs.player.Player.advance.Goals as goal

pub step-requires-clause-references : goal.step-requires-clause-references
step-requires-clause-references g c = omega (arith, references_within c.args.self.now.machine c.args.self.now.steps c.args.self.now.played, c.args.self.now.limited)

pub step-requires-clause-polls : goal.step-requires-clause-polls
step-requires-clause-polls g c = λ p at. omega (arith, begun_within c.args.self.now.machine c.args.self.now.steps c.args.step.party p at c.args.self.now.played, c.args.self.now.counted)

pub invariant_of-self : goal.invariant_of-self
invariant_of-self g c = record {
  played = subst (λ (n : Standing). ∥ Played n c.args.self.now.steps ∥₁) (sym c.in_err-allowed.ensures.refused) c.args.self.now.played;
  limited = subst (λ (n : Standing). n.limit ≤ LIMIT) (sym c.in_err-allowed.ensures.refused) c.args.self.now.limited;
  counted = c.args.self.now.counted;
}

pub invariant_of-self-then-allowed : goal.invariant_of-self-then-allowed
invariant_of-self-then-allowed g c =
    let does : StepsTo c.args.self.now.machine c.args.step (Some c.step.new.self) = λ m e. c.in_ok-allowed.ensures.answered m e ∙ where_yes c.in_ok-allowed.allowed c.step.new.self c.if-allowed.true in
    record {
      played = ∥∥₁_map c.args.self.now.played (played_more c.args.self.now.machine c.step.new.self c.args.step c.args.self.now.steps does);
      limited = limit_within c.args.self.now.machine c.step.new.self c.args.step c.args.self.now.steps LIMIT does c.args.self.now.played c.args.self.now.limited;
      counted = omega (arith, c.requires);
    }

pub invariant_of-self-else-allowed : goal.invariant_of-self-else-allowed
invariant_of-self-else-allowed g c =
    let same = c.in_ok-allowed.ensures.unchanged c.if-allowed.false in
    record {
      played = subst (λ (n : Standing). ∥ Played n c.args.self.now.steps ∥₁) (sym same) c.args.self.now.played;
      limited = subst (λ (n : Standing). n.limit ≤ LIMIT) (sym same) c.args.self.now.limited;
      counted = c.args.self.now.counted;
    }
