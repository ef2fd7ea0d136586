use Rattle.std.proofs.Common.{◌∙◌, ap}
use Rattle.example_pool.proofs.Sums.{is_sum}
use Rattle.example_pool.proofs.add_both.Goals as goal

pub returns : goal.returns
returns g c =
    let one = is_sum (λ _ _ _ moved. moved) c.args.first.0 c.args.first.1 _ _ (ap (λ f. f.left) c.in_ok-one.ensures.spawned ∙ c.sum_of.ensures.0) (ap (λ f. f.right) c.in_ok-one.ensures.spawned ∙ c.sum_of.ensures.1) c.in_ok-sum.ensures.answer.0.output.1 in
    let other = is_sum (λ _ _ _ moved. moved) c.args.second.0 c.args.second.1 _ _ (ap (λ f. f.left) c.in_ok-other.ensures.spawned ∙ c.sum_of-2.ensures.0) (ap (λ f. f.right) c.in_ok-other.ensures.spawned ∙ c.sum_of-2.ensures.1) c.in_ok-block_on.ensures.answer.0.output.1 in
    record { sums = (one, other) }
