use Rattle.std.proofs.Common.{length, ap, arith}
use Rattle.std.proofs.lemmas.List.Edits.{length-remove}
use Rattle.future_parts.proofs.asked.permits.Permits.end.Goals as goal

pub invariant_of-self : goal.invariant_of-self
invariant_of-self g c =
    let s = c.args.self.now in
    let left = ap length c.take_at.ensures.others in
    let fewer = length-remove s.line.waiters.items c.in-Some.index c.in-Some.ensures.bound in
    record {
      none_idle = λ free. omega (arith, left, fewer, s.none_idle free);
      joined = omega (arith, left, fewer, s.joined, c.take_at.ensures.next);
      small = s.small;
    }

pub invariant_of-self-then-self-gt0 : goal.invariant_of-self-then-self-gt0
invariant_of-self-then-self-gt0 g c =
    let s = c.args.self.now in
    record { none_idle = s.none_idle; joined = omega (arith, s.joined); small = omega (arith, s.small) }
