use Rattle.std.proofs.Common.{◌≤◌, ℕ, List, true, sym, subst, length, arith}
use Rattle.std.specs.Prelude.{nat_eq, slice_set}
use Rattle.std.specs.List.{IsDistinct}
use Rattle.std.specs.VecDeque.{deque_capacity}
use Rattle.std.proofs.lemmas.Grind.{common_steps}
use Rattle.executor_parts.specs.Numbers.{IsMarked}
use Rattle.executor_parts.proofs.numbers.Numbers.post.Goals as goal
use Rattle.executor_parts.proofs.Marks.{not_waiting, has_room, marked_post, distinct_post}

pub push_back_reserved-requires : goal.push_back_reserved-requires
push_back_reserved-requires c =
    let s = c.args.self.now in
    let idle = not_waiting s.waits.items s.posted.items c.args.number c.index.result.now s.marked c.index.ensures c.if-index.false in
    let room = has_room s.waits.items s.posted.items c.args.number c.requires s.marked s.distinct idle in
    let reserved : length s.waits.items ≤ deque_capacity s.posted = s.reserved in
    let counted = s.posted.ok in
    grind (arith, common_steps)

pub invariant_of-self : goal.invariant_of-self
invariant_of-self c =
    let s = c.args.self.now in
    let idle = not_waiting s.waits.items s.posted.items c.args.number c.index.result.now s.marked c.index.ensures c.if-index.false in
    let items = c.push_back_reserved.ensures.items in
    let reserved : length s.waits.items ≤ deque_capacity s.posted = s.reserved in
    let capacity = c.push_back_reserved.ensures.capacity in
    record {
      distinct = subst (IsDistinct nat_eq) (sym {A = List ℕ} items) (distinct_post s.posted.items c.args.number s.distinct idle);
      marked = subst (IsMarked (slice_set s.waits.items c.args.number true)) (sym {A = List ℕ} items) (marked_post s.waits.items s.posted.items c.args.number c.requires s.marked);
      reserved = grind (arith, common_steps);
    }
