use contract.BorrowLft.{⊑_static, ⊑_trans}
use Rattle.test_pool.proofs.future_tests.calls.block_on.Goals as goal

-- The runtime lives for ever, so it outlives the pool.
pub block_on-requires-lives-F-Future : goal.block_on-requires-lives-F-Future
block_on-requires-lives-F-Future g c κs within = ⊑_trans _ _ _ (⊑_static _) c.type_bounds.static-R
