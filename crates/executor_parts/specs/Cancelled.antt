use Rattle.std.specs.Prelude.{◌≡◌, true, ⊤}
use Rattle.task_core.specs.declared.traits.Yields.{Ghosts}
use Rattle.executor_parts.specs.declared.group.member.Member.{Member}
use Rattle.executor_parts.specs.declared.group.member.Member.TheVariants.{Runs, Cancelled, HasEnded}

module _ {R F Q M A X B O K L : Type 0} {G : Ghosts F O} where
  -- the next poll of the member, if it has not ended, cancels it
  abbrev pub IsCancel : Member R F Q M A X B O K L G → Type 0
  IsCancel (Runs task) = ⊥
  IsCancel (Cancelled handle) = ⊤
  IsCancel (HasEnded ended posted) = ⊤

  -- the member was cancelled, or has ended
  abbrev pub WasCancelled : Member R F Q M A X B O K L G → Type 0
  WasCancelled (Runs task) = ⊥
  WasCancelled (Cancelled handle) = handle.cancelled ≡ true
  WasCancelled (HasEnded ended posted) = ⊤
