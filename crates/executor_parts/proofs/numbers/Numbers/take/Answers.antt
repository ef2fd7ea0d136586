use Rattle.std.proofs.Common.{◌≤◌, subst, length, arith}
use Rattle.std.specs.Prelude.{nat_eq}
use Rattle.std.specs.List.{IsDistinct}
use Rattle.std.specs.VecDeque.{deque_capacity}
use Rattle.std.proofs.lemmas.Grind.{common_steps}
use Rattle.executor_parts.specs.Numbers.{IsMarked}
use Rattle.executor_parts.proofs.numbers.Numbers.take.Goals as goal
use Rattle.executor_parts.proofs.Marks.{first_below, distinct_rest, marked_take}

pub index_mut-requires : goal.index_mut-requires
index_mut-requires c =
    let s = c.args.self.now in
    let lt = first_below s.waits.items s.posted.items c.in_ok-number.number c.pop_front.new.self.items s.marked c.in_ok-number.ensures.items in
    let counted = s.waits.ok in
    omega arith

pub invariant_of-self-2 : goal.invariant_of-self-2
invariant_of-self-2 c =
    let s = c.args.self.now in
    let n = c.in_ok-number.number in
    let rest = c.pop_front.new.self.items in
    let items = c.in_ok-number.ensures.items in
    let distinct = subst (IsDistinct nat_eq) items s.distinct in
    let reserved : length s.waits.items ≤ deque_capacity s.posted = s.reserved in
    let capacity = c.in_ok-number.ensures.capacity in
    record {
      distinct = distinct_rest n rest distinct;
      marked = marked_take s.waits.items n rest (first_below s.waits.items s.posted.items n rest s.marked items) distinct (subst (IsMarked s.waits.items) items s.marked);
      reserved = grind (arith, common_steps);
    }
