use Rattle.std.proofs.Common.{◌≡◌, [], sym, subst, arith}
use Rattle.std.specs.Prelude.{nat_eq}
use Rattle.std.specs.List.{IsDistinct}
use Rattle.std.proofs.lemmas.Grind.{common_steps}
use Rattle.executor_parts.specs.Numbers.{IsMarked}
use Rattle.executor_parts.proofs.numbers.Numbers.new.Goals as goal
use Rattle.executor_parts.proofs.Marks.{all_clear, none_distinct}

pub invariant_of-result : goal.invariant_of-result
invariant_of-result c =
    let waits = c.in_ok-waits.waits in
    let posted = c.in_ok-posted.posted in
    let items : posted.items ≡ [] = c.in_ok-posted.ensures.items in
    let capacity = c.in_ok-posted.ensures.capacity in
    let len = c.in_ok-waits.ensures.len in
    let counted = waits.ok in
    record {
      distinct = subst (IsDistinct nat_eq) (sym items) none_distinct;
      marked = subst (IsMarked waits.items) (sym items) (all_clear waits.items c.args.room (c.in_ok-waits.ensures.items_if_clones_equal (λ _ e. e)));
      reserved = grind (arith, common_steps);
    }
