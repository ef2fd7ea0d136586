-- What is proved of a future and an output of the cell says nothing to the caller, and anything can be proved of those that stand for the caller's.
use Rattle.task_core.specs.declared.traits.Poll.{Poll}
use Rattle.task_core.specs.declared.traits.Yields.{Ghosts}
use Rattle.task_core.specs.Yielded.{unpolled, polled}
use Rattle.task_cell.specs.declared.cell.Party.{Party}
use Rattle.task_cell.specs.Starts.{TakesUp, finds_closed, starts}
use Rattle.task_exports.specs.Unknown.{unknown}
use Rattle.task_steps.specs.declared.kept.Kept.{Kept}
use Rattle.task_steps.specs.declared.table.Slot.{Slot}
use Rattle.task_steps.specs.declared.table.Slot.TheVariants.{Empty, Future, Output}
use Rattle.task_steps.specs.Rule.{IsFuture, IsOutput}
use Rattle.task_steps.specs.Values.{Values, values_of}
use Rattle.std.specs.Prelude.{Bool, true, false}

module _ {F T : Type 0} (values : Values F T) where
  pub future_unknown : (y : Slot F T) → IsFuture values y → IsFuture (unknown {F = F} {T = T}) y
  future_unknown Empty is = is
  future_unknown (Future f) is = tt
  future_unknown (Output x) is = is

  pub output_unknown : (y : Slot F T) → IsOutput values y → IsOutput (unknown {F = F} {T = T}) y
  output_unknown Empty is = is
  output_unknown (Future f) is = is
  output_unknown (Output x) is = tt

module _ {F T A : Type 0} {values : Values F T} where
  pub takes_up_unknown : (p q : Party F T A) (b : Bool) → TakesUp values p q b → TakesUp unknown p q b
  takes_up_unknown p q false (finds_closed w y e is g) = finds_closed w y e (future_unknown values y is) g
  takes_up_unknown p q true (starts w y e is g) = starts w y e (future_unknown values y is) g

module _ {F O : Type 0} {G : Ghosts F O} (all : (f : F) (answer : Poll O) (g : F) → G.moves f answer g) (spawned : F) where
  pub known_future : (y : Slot F (Kept F O G)) → IsFuture (unknown {F = F} {T = Kept F O G}) y → IsFuture (values_of G spawned) y
  known_future Empty is = is
  known_future (Future f) is = polled spawned f unpolled (all spawned _ f)
  known_future (Output x) is = is

  pub known_output : (y : Slot F (Kept F O G)) → IsOutput (unknown {F = F} {T = Kept F O G}) y → IsOutput (values_of G spawned) y
  known_output Empty is = is
  known_output (Future f) is = is
  known_output (Output x) is = record { before = spawned; after = spawned; continued = unpolled; answered = all spawned _ spawned }
