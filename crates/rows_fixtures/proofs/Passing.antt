-- What the two calls of the counting allocator have in common.
use Rattle.std.specs.Prelude.{[], ◌∷◌}
use denote.Builtin.{RefOf}
use denote.Param.{bounded, param}
use denote.RattleType.{RattleType}
use denote.Signature.{Slot, plain}
use mir.Syntax.{Args, Dict, a_type, dnil, dcons}
use Rattle.rows_fixtures.specs.contracts.counting.Counting as counting

-- the type below, with its calls and its drop
abbrev pub given : RattleType → Dict → Dict → Args
given B calls drops = bounded (a_type ∷ []) (B, tt) (dcons calls (dcons drops dnil))

-- `&self`
abbrev pub itself : RattleType → Slot 2
itself B = RefOf (0 ∷ []) tt (plain (λ _. counting.the_row (param 0 B))) (λ _. tt)
