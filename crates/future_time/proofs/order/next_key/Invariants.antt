use Rattle.std.proofs.Common.{◌≡◌, ◌≤◌, max, ◌-◌}
use Rattle.futures.specs.LinkedLists.Wheel.{key_limit, EachDeadline, SameDeadlines}
use Rattle.future_time.proofs.order.next_key.Given as goal

abbrev pub invariant-loop-at : goal.invariant-loop-at
invariant-loop-at l = record {
  kept : SameDeadlines l.fn.wheel l.wheel;
  ahead : EachDeadline l.wheel (λ when. l.wheel.elapsed ≤ when);
  forward : l.fn.wheel.elapsed ≤ l.wheel.elapsed;
  bounded : l.wheel.elapsed ≤ max l.fn.wheel.elapsed l.until;
  limit : key_limit l.wheel ≡ key_limit l.fn.wheel;
}

abbrev pub decreases-loop-at : goal.decreases-loop-at
decreases-loop-at l = l.until - l.wheel.elapsed
