use Rattle.std.proofs.Common.{◌≡◌, true, take}
use Rattle.std.specs.List.{list_all}
use Rattle.future_parts.specs.Joining.{is_ended}
use Rattle.future_parts.proofs.joining.all.have_ended.Given as goal

abbrev pub invariant-loop-index : goal.invariant-loop-index
invariant-loop-index g l = list_all is_ended (take l.index l.halves.items) ≡ true
