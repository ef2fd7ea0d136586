use contract.BorrowLft.{⊑_static, ⊑_trans}
use Rattle.test_pool.proofs.future_tests.calls.work_turns.Goals as goal

-- The runtime lives for ever, so it outlives the pool.
pub work-requires-lives-F-Future : goal.work-requires-lives-F-Future
work-requires-lives-F-Future g c κs within = ⊑_trans _ _ _ (⊑_static _) c.type_bounds.static-R
