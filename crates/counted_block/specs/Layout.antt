-- Where the parts of a block lie: the word and the holds first, then the two slots, then the value.
use Rattle.std.specs.Prelude.{ℕ, ◌+◌}
use prog.Memory.{up, align, size}
use denote.RattleType.{RattleType}
use denote.Memory.{lone}

-- the offset of slot 0, behind the two words
abbrev pub at_first : RattleType → ℕ
at_first R = up (align (lone R.mir)) 16

-- the offset of slot 1
abbrev pub at_second : RattleType → RattleType → ℕ
at_second R Q = up (align (lone Q.mir)) (at_first R + size (lone R.mir))

-- the offset of the value
abbrev pub at_value : RattleType → RattleType → RattleType → ℕ
at_value R Q T = up (align (lone T.mir)) (at_second R Q + size (lone Q.mir))
