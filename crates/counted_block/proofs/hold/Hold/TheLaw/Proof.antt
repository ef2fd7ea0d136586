-- The law of a hold, as of every owner. Assumes `Logic`.
use denote.RattleType.{RattleType}
use denote.Param.Laws.{Laws}
use Rattle.std.specs.contracts.marker.PhantomData as phantom
use Rattle.std.specs.declared.alloc.Allocator as Alloc
use Rattle.counted_block.specs.declared.rule.BlockRule.{Ghosts}
use Rattle.counted_block.specs.contracts.hold.Hold as C
use Rattle.counted_block.specs.Blocks.{is_one, of_holds}
use Rattle.counted_block.proofs.Fields.{hold_kind}
use Rattle.counted_block.proofs.Lending.{marked, pair_shared, owner_law}

pub shares : (S W V K Y T A : RattleType) (g : Ghosts Y.Denot S.Denot W.Denot V.Denot K.Denot) (h : Alloc.Ghosts A.Denot) (LS : Laws S) (LW : Laws W) (LV : Laws V) (LK : Laws K) (LY : Laws Y)
    (LT : Laws T) (LA : Laws A) → Rattle.counted_block.proofs.hold.Hold.TheLaw.Statement.statement S W V K Y T A g h LS LW LV LK LY LT LA
shares S W V K Y T A g h LS LW LV LK LY LT LA = owner_law S W V K Y T A g h LT (C.struct S W V K Y T A g h)
    (C.the_codes S.Denot W.Denot V.Denot K.Denot Y.Denot T.Denot A.Denot S.coded W.coded V.coded K.coded Y.coded T.coded A.coded (phantom.the_row (marked S W V K Y T A g h LT)).coded)
    (hold_kind S W V K Y T A g h).see is_one of_holds (pair_shared S W V K Y T A g h LT)
