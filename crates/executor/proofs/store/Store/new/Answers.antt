use Rattle.std.proofs.Common.{◌≡◌}
use Rattle.executor.specs.StoreParts.{part_number}
use Rattle.executor.proofs.Counted.{longer}
use Rattle.executor.proofs.Placed.{placed-more}
use Rattle.executor.proofs.store.Store.new.Goals as goal

pub loop-part-preserved : goal.loop-part-preserved
loop-part-preserved g c = record {
  many = longer _ _ _ c.in_ok-push.ensures.items c.loop-part.invariant.many;
  each = placed-more (λ i part. part_number part ≡ i) _ _ _ _ c.in_ok-push.ensures.items c.loop-part.invariant.many c.loop-part.invariant.each c.in_ok-new.ensures;
}
