use Rattle.std.proofs.Common.{◌++◌, map, length, sym, ap, ◌∙◌, arith}
use Rattle.std.proofs.lemmas.List.{append_assoc, length-append}
use Rattle.future_parts.specs.declared.joining.half.Half.TheVariants.{Awaited}
use Rattle.future_parts.proofs.joining.all.await_each.Goals as goal

pub loop-future-preserved : goal.loop-future-preserved
loop-future-preserved g c =
    let i = c.loop-future.invariant in
    let popped = c.in-Some.ensures in
    let pushed = c.push_back_reserved.ensures in
    let room = ap length popped.items in
    let more = ap length pushed.items ∙ length-append c.loop-future.halves.items _ in
    record {
      room = omega (arith, i.room, room, more, pushed.capacity);
      moved = ap (λ xs. xs ++ map Awaited c.pop_front.new.self.items) pushed.items ∙ append_assoc c.loop-future.halves.items _ _ ∙ ap (λ xs. c.loop-future.halves.items ++ map Awaited xs) (sym popped.items) ∙ i.moved;
    }
