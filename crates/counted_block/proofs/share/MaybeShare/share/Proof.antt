-- `share` is the share where it is there.
use Rattle.counted_block.proofs.Names.{◌≡◌, [], ◌∷◌, refl, dcons, dnil, Val, inst_fn, SProp, emp, ftrue, ‵, raw, ◌⊛◌, given, ◌$◌, ◌∵◌, !, qed, by, move, keep, drop, no}
use Rattle.counted_block.proofs.Names.{split, fsplit, fsplit3, fjoin, fjoin3, fpick, learn, use0, rewrite, stop, fld, of_opd, no_more, and_then, returns, enter, alloc_all, pass_all, free_all}
use Rattle.counted_block.proofs.Names.{look_at, get, get_in, sets, agg, sub, whole, tables, fact, fact_i, RattleType, owns, types_at, plain, Ptr, nothing, param, bounded, alive, Stays, stay_dropped}
use Rattle.counted_block.proofs.Names.{walk_of, Goes-dropped, proved, leaves, Bool, true, BlockId, parts_if, ptr_and_marker, pair_typed, ptr_typed, in_place, Types, seven, pair_told, located}
use Rattle.counted_block.specs.contracts.share.MaybeShare as source
use Rattle.counted_block.specs.contracts.share.Share as target
use Rattle.counted_block.specs.contracts.share.MaybeShare.share as promised
use Rattle.counted_block.proofs.share.MaybeShare.share.Code as code

pub share_spec : {M : Type 1} → Rattle.counted_block.proofs.share.MaybeShare.share.Statement.statement M
share_spec 𝓤 𝓛 𝓜 𝓡 wired S₀ W₀ V₀ K₀ Y₀ T₀ A₀ _ _ _ _ _ _ _ g d h dh dd _ _ _ =
    let H = 𝓛.H in let machine = tables 𝓤 H 𝓜 𝓡 𝓡.env in let S : RattleType = param 0 S₀ in let W : RattleType = param 1 W₀ in let V = param 2 V₀ in let K = param 3 K₀ in
    let Y = param 4 Y₀ in let R : RattleType = param 5 T₀ in let A = param 6 A₀ in let promise = promised.ended S₀ W₀ V₀ K₀ Y₀ T₀ A₀ g d h dh dd in
    let claims = promised.clauses S₀ W₀ V₀ K₀ Y₀ T₀ A₀ g d h dh dd 𝓛 𝓜.mem 𝓡.returns in let types : Types seven = (S₀, (W₀, (V₀, (K₀, (Y₀, (T₀, (A₀, tt))))))) in
    let at_types = bounded seven types (dcons d (dcons dh (dcons dd dnil))) in let routine = inst_fn at_types code.function in let MaybeRow : RattleType = source.the_row S W V K Y R A g h in
    let OwnRow : RattleType = target.the_row S W V K Y R A g h in let self = plain (λ _. MaybeRow) in let staying : Stays promise.signature.params promise.kept = (stay_dropped self no, tt) in
    proved 𝓛 promise staying claims 𝓜 𝓡 (Goes-dropped 𝓛 7 self no (λ κs x f. refl), tt) (promised.Key.name at_types) routine (code.unfolded 𝓤 H 𝓜 𝓡 wired types d dh dd) (λ
    κs. ((λ w. ptr_and_marker w.at ∷ []), tt)) (λ κs. ((λ w vs so. pair_told w.at vs so.0), tt)) (λ κs qs bounds a gh are. let s : MaybeRow.Denot = a.0 in let p : Ptr = s.at in
    let z : BlockId = s.id in let start : (walk_of 𝓛 promise staying claims).Ghost = ((κs, qs, bounds, a, (ptr_and_marker p ∷ [], tt)), gh) in let returned : Val →
    SProp 𝓤 = (walk_of 𝓛 promise staying claims).post start in qed 𝓛 ((raw (alive 𝓛 promise.signature κs qs) ⊛ ‵ (owns (types_at promise.signature.params κs) a start.0.4)) ∷
    raw (fact 𝓤 _) ∷ raw (fact 𝓤 _) ∷ raw (fact 𝓤 _) ∷ raw (fact 𝓤 _) ∷ raw (fact 𝓤 _) ∷ raw (fact 𝓤 _) ∷ raw (fact 𝓤 _) ∷ given (s.there ≡ true) (‵ ftrue) ∷
    []) ∵ keep ! (8 ∷ 0 ∷ []) $ learn ! (λ is. drop ! $ split ! $ move ! (1 ∷ []) $ fsplit ! $ fsplit ! $ keep ! (1 ∷ 3 ∷ []) $ fsplit ! $ fpick ! (λ at. drop ! $ fsplit3 ! $
    let inb = in_place p z at in rewrite ! 0 (λ (b : Bool). ‵ (parts_if b s.last z)) is refl $ fjoin3 ! $ enter ! machine.C machine.Λ routine (ptr_and_marker p ∷ []) returned $
    alloc_all ! (λ l. pass_all ! refl (pair_typed p inb, tt) $ sets ! (of_opd ! (get_in ! (fld ! refl (stop !)) (sub ! 0 refl (whole !)))) refl (ptr_typed p inb) $
    sets ! (agg ! (no_more !)) refl (tt, tt) $ sets ! (agg ! (and_then ! (get ! refl) (and_then ! (get ! refl) (no_more !)))) refl (pair_typed p inb) $ located ! p z at $
    let sh : OwnRow.Denot = record { at = p; marker = s.marker; id = z; key = s.key; value = s.value; heap = s.heap } in let Told : Type 0 = (z ≡ z) × (s.key ≡ s.key) × (s.value ≡ s.value)
    × (s.heap ≡ s.heap) in use0 𝓛 (raw (fact 𝓤 Told)) (fact_i 𝓤 Told (emp 𝓤) (refl, refl, refl, refl)) $ nothing ! $ nothing ! $ fjoin ! $ returns ! (look_at ! 0 refl) $
    free_all ! refl $ keep ! (3 ∷ 0 ∷ 2 ∷ 1 ∷ []) $ by ! (leaves 𝓛 promise staying claims start (ptr_and_marker p) sh (tt, tt) (tt, tt))))))
