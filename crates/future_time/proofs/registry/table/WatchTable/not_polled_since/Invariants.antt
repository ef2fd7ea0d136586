use Rattle.std.proofs.Common.{◌≡◌, ◌++◌}
use Rattle.std.specs.List.{filter_map}
use Rattle.slab.specs.Slab.{entries}
use Rattle.future_time.specs.Watching.{shown_since}
use Rattle.future_time.proofs.registry.table.WatchTable.not_polled_since.Given as goal

abbrev pub invariant-loop-task : goal.invariant-loop-task
invariant-loop-task g l = l.shown.items ++ filter_map (shown_since l.since) l.task-iterator ≡ filter_map (shown_since l.since) (entries l.self.entries)
