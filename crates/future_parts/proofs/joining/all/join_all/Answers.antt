use Rattle.std.proofs.Common.{◌≡◌, ◌≤◌, length, ap, ◌∙◌, subst, arith}
use Rattle.std.proofs.lemmas.List.{length-map}
use Rattle.std.proofs.lemmas.Option.{same_Some}
use Rattle.std.specs.VecDeque.{deque_capacity}
use Rattle.future_parts.specs.declared.joining.half.Half.TheVariants.{Awaited}
use Rattle.future_parts.proofs.joining.all.join_all.Goals as goal

pub invariant_of-result : goal.invariant_of-result
invariant_of-result g c =
    let made = c.in-Ok-with_capacity.ensures in
    let long = ap length c.await_each.ensures ∙ length-map c.args.futures.items Awaited in
    record { room = λ kept same. subst (λ k. (length k.items ≡ 0) × (length c.await_each.result.items ≤ deque_capacity k)) (same_Some _ _ same) (ap length made.items, omega (arith, long, made.capacity, c.len-2.ensures, c.args.futures.ok.0)) }
