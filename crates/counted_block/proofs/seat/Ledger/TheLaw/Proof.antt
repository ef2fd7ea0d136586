-- A `&` to a ledger has the invariant. Assumes `Logic`.
use Rattle.std.proofs.Common.{[], ◌∷◌}
use denote.RattleType.{RattleType}
use denote.RawPtr.{◌+ₚ◌}
use denote.Param.Laws.{Laws}
use denote.Param.Shared.{copy_shared}
use denote.Struct.Laws.{field_copy}
use denote.Struct.Lending.{of_Lends, lent_at_shr_laws}
use denote.Struct.Tuple.{Tuple}
use Rattle.std.specs.contracts.marker.PhantomData as phantom
use Rattle.std.specs.declared.alloc.Allocator as Alloc
use Rattle.counted_block.specs.declared.rule.BlockRule.{Ghosts}
use Rattle.counted_block.specs.contracts.seat.Ledger as C
use Rattle.counted_block.specs.Layout.{at_value}
use Rattle.counted_block.specs.Blocks.{place}
use Rattle.counted_block.specs.Held.{content, looked_at}
use Rattle.counted_block.proofs.Lending.{kept_laws, lends_kept}

pub shares : (S W V K Y T A : RattleType) (g : Ghosts Y.Denot S.Denot W.Denot V.Denot K.Denot) (h : Alloc.Ghosts A.Denot) (LS : Laws S) (LW : Laws W) (LV : Laws V) (LK : Laws K) (LY : Laws Y)
    (LT : Laws T) (LA : Laws A)
    → Rattle.counted_block.proofs.seat.Ledger.TheLaw.Statement.statement S W V K Y T A g h LS LW LV LK LY LT LA
shares S W V K Y T A g h LS LW LV LK LY LT LA = let Marked = Tuple (S ∷ W ∷ V ∷ K ∷ Y ∷ T ∷ A ∷ []) in
    of_Lends (C.struct S W V K Y T A g h) (C.the_codes S.Denot W.Denot V.Denot K.Denot Y.Denot T.Denot A.Denot S.coded W.coded V.coded K.coded Y.coded T.coded A.coded (phantom.the_row Marked).coded)
    (C.the_heap S W V K Y T A g h) (C.the_lent S W V K Y T A g h) (λ d p. kept_laws S W V.coded.code (g.holds d.key) g.out (content S W T (h.dealloc_token d.heap) d.id d.value) d.id)
    (copy_shared (phantom.the_field Marked) (field_copy (phantom.the_type Marked) tt), tt) (λ M 𝓤 𝓛 d p. let k = h.dealloc_token d.heap in let z = d.id in
    lends_kept S W V.coded.code (g.holds d.key) g.out (content S W T k z d.value) z (looked_at S W T k z d.value) (lent_at_shr_laws T LT.shr_laws (place z +ₚ at_value S W T) d.value) 𝓛
    (C.the_row S W V K Y T A g h).lives)
