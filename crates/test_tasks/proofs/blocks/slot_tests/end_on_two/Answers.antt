use Rattle.std.proofs.Common.{rules, refl}
use Rattle.test_tasks.proofs.blocks.slot_tests.end_on_two.Goals as goal

-- src/slot_tests.rt:114:25
pub new-share-requires : goal.new-share-requires
new-share-requires g c = record { shares = search rules; holds = search rules; rule = (0, refl, search rules, (λ _. (c.of.result.value.first, c.of.result.value.second, refl))) }
