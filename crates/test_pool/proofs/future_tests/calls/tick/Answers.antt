use contract.BorrowLft.{⊑_static, ⊑_trans}
use Rattle.test_pool.proofs.future_tests.calls.tick.Goals as goal

-- The runtime lives for ever, so it outlives the pool.
pub tick-requires-lives-F-Future : goal.tick-requires-lives-F-Future
tick-requires-lives-F-Future g c κs within = ⊑_trans _ _ _ (⊑_static _) c.type_bounds.static-R
