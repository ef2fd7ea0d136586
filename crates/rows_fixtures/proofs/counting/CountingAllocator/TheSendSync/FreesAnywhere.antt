-- Any thread may give a block back to an allocator that counts, where it may to the one below.
use mir.Syntax.{Dict}
use denote.RattleType.{RattleType}
use denote.Param.Send.{Frees}
use Rattle.std.specs.declared.alloc.Allocator as Alloc
use Rattle.rows_fixtures.specs.contracts.counting.CountingAllocator.TheImpl.{ghosts}

pub frees : (B : RattleType) (h : Alloc.Ghosts B.Denot) (d e : Dict) → Frees h h.dealloc_token → Frees (ghosts B h d e) (ghosts B h d e).dealloc_token
frees B h d e below = record { frees = λ a τ p. below.frees a.below τ p }
