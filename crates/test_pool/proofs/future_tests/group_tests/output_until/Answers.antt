use contract.BorrowLft.{⊑_static, ⊑_trans}
use Rattle.test_pool.proofs.future_tests.group_tests.output_until.Goals as goal

-- The runtime lives for ever, so it outlives the pool.
pub next_member_until-requires-lives-F-Future : goal.next_member_until-requires-lives-F-Future
next_member_until-requires-lives-F-Future g c κs within = ⊑_trans _ _ _ (⊑_static _) c.type_bounds.static-R
