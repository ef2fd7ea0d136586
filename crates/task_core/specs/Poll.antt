-- 6 of 6: what a poll of a future answered.
use Rattle.std.specs.Prelude.{⊤}
use Rattle.task_core.specs.declared.traits.Poll.{Poll}
use Rattle.task_core.specs.declared.traits.Poll.TheVariants.{Pending, Ready}

-- the fact holds of the output, if there is one
abbrev pub IfReady : {A : Type 0} → Poll A → (A → Type 0) → Type 0
IfReady (Ready output) P = P output
IfReady Pending P = ⊤
