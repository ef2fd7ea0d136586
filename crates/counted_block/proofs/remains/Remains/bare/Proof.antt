-- `bare` gathers the parts of the block, and makes its box again.
use Rattle.counted_block.proofs.Names.{◌≡◌, ℕ, [], ◌∷◌, refl, ap, dcons, dnil, Val, inst_fn, SProp, emp, Fml, ftrue, ‵, raw, ◌⊛◌, given, ◌$◌, ◌∵◌, !, qed, by, move}
use Rattle.counted_block.proofs.Names.{keep, drop, split, split3, fsplit, fjoin, fpick, learn, use0, use1, use3, rewrite, stop, fld, of_opd, no_more, and_then, returns, enter, alloc_all, pass_all}
use Rattle.counted_block.proofs.Names.{free_all, look_at, get, get_in, sets, is, agg, sub, whole, tables, fact, fact_i, no, RattleType, owns, types_at, plain, Ptr, ptr_val, nothing, param, bounded}
use Rattle.counted_block.proofs.Names.{Stays, stay_dropped, walk_of, Goes-dropped, proved, leaves, Bool, true, some, later, await, pick, alive, box_owns, State, Final, Place, First, Second, BlockId}
use Rattle.counted_block.proofs.Names.{place, word_of, Known, words_in, remains_if, content, slots_there, reboxes, ptr_and_marker, pair_typed, in_place, gathers, Types, seven, PairData, pair_told}
use Rattle.counted_block.proofs.Names.{pair_made}
use mathlib.Core.Option as maybe
use Rattle.counted_block.specs.contracts.bare.Bare as bare
use Rattle.counted_block.specs.contracts.inner.Inner as inner
use Rattle.counted_block.specs.contracts.remains.Remains as remains
use Rattle.counted_block.specs.contracts.remains.Remains.bare as promised
use Rattle.counted_block.proofs.remains.Remains.bare.Code as code

pub bare_spec : {M : Type 1} → Rattle.counted_block.proofs.remains.Remains.bare.Statement.statement M
bare_spec 𝓤 𝓛 𝓜 𝓡 wired S₀ W₀ V₀ K₀ Y₀ T₀ A₀ LS LW _ _ _ LT _ g d h dh dd _ _ _ =
    let H = 𝓛.H in let machine = tables 𝓤 H 𝓜 𝓡 𝓡.env in let S : RattleType = param 0 S₀ in let W : RattleType = param 1 W₀ in let V = param 2 V₀ in let K = param 3 K₀ in
    let Y = param 4 Y₀ in let R : RattleType = param 5 T₀ in let A = param 6 A₀ in let promise = promised.ended S₀ W₀ V₀ K₀ Y₀ T₀ A₀ g d h dh dd in
    let claims = promised.clauses S₀ W₀ V₀ K₀ Y₀ T₀ A₀ g d h dh dd 𝓛 𝓜.mem 𝓡.returns in let types : Types seven = (S₀, (W₀, (V₀, (K₀, (Y₀, (T₀, (A₀, tt))))))) in
    let at_types = bounded seven types (dcons d (dcons dh (dcons dd dnil))) in let routine = inst_fn at_types code.function in let Er : RattleType = remains.the_row S W V K Y R A g h in
    let Ir : RattleType = inner.the_row S W R in let Br : RattleType = bare.the_row Ir A h in let self = plain (λ _. Er) in let staying : Stays promise.signature.params promise.kept =
    (stay_dropped self no, tt) in proved 𝓛 promise staying claims 𝓜 𝓡 (Goes-dropped 𝓛 7 self no (λ κs x f. refl), tt) (promised.Key.name at_types) routine (code.unfolded 𝓤 H 𝓜
    𝓡 wired types d dh dd) (λ κs. ((λ w. ptr_and_marker w.at ∷ []), tt)) (λ κs. ((λ w vs so. pair_told w.at vs so.0), tt)) (λ κs qs bounds a gh are. let s : Er.Denot = a.0 in
    let p : Ptr = s.at in let x : R.Denot = s.value in let k = h.dealloc_token s.heap in let z : BlockId = s.id in let holds = g.holds s.key in let P : Fml = content S W R k z x in
    let seat : maybe.Option (ℕ × V.Denot) = s.seat in let start : (walk_of 𝓛 promise staying claims).Ghost = ((κs, qs, bounds, a, (ptr_and_marker p ∷ [], tt)), gh) in let returned : Val →
    SProp 𝓤 = (walk_of 𝓛 promise staying claims).post start in qed 𝓛 ((raw (alive 𝓛 promise.signature κs qs) ⊛ ‵ (owns (types_at promise.signature.params κs) a start.0.4)) ∷
    raw (fact 𝓤 _) ∷ raw (fact 𝓤 _) ∷ raw (fact 𝓤 _) ∷ raw (fact 𝓤 _) ∷ raw (fact 𝓤 _) ∷ raw (fact 𝓤 _) ∷ raw (fact 𝓤 _) ∷ given (s.there ≡ true) (‵ ftrue) ∷
    []) ∵ keep ! (8 ∷ 0 ∷ []) $ learn ! (λ ended_so. drop ! $ split ! $ move ! (1 ∷ []) $ fsplit ! $ fsplit ! $ keep ! (1 ∷ 3 ∷ []) $ fsplit ! $ fpick ! (λ at. drop ! $
    rewrite ! 0 (λ (u : Bool). ‵ (remains_if S W V.coded.code holds g.out P z u seat)) ended_so refl $ fpick ! (λ t. let st : State (Place S.Denot W.Denot) V.Denot = t.0 in let hh : ℕ = t.1 in
    let w : ℕ = word_of st in use1 𝓛 (later (some (λ (m : S.Denot × W.Denot). given (Final (Known holds seat) (w ∷ []) (First m.0 ∷ Second m.1 ∷ [])) (‵ (words_in z w hh) ⊛
    ‵ (slots_there S W R k z x m) ⊛ ‵ P)))) (gathers 𝓛 S W R k z x V.coded holds g.out seat st hh) $ enter ! machine.C machine.Λ routine (ptr_and_marker p ∷ []) returned $
    alloc_all ! (λ l. pass_all ! refl (pair_typed p (in_place p z at), tt) $ await ! tt $ pick ! (λ m. learn ! (λ final. split3 ! $ let i : Ir.Denot = record
    { word = w; holds = hh; first = m.0; second = m.1; value = x } in use3 𝓛 (‵ (box_owns k Ir (place z) i)) (reboxes 0 1 5 S₀ W₀ T₀ LS LW LT 𝓛 z x k ((w, hh), m)) $
    sets ! (is ! (of_opd ! (get_in ! (fld ! refl (stop !)) (sub ! 0 refl (whole !)))) (ap ptr_val at)) refl (tt, tt) $ sets ! (agg ! (no_more !)) refl (tt, tt) $
    sets ! (agg ! (and_then ! (get ! refl) (and_then ! (get ! refl) (no_more !)))) refl (tt, (tt, (tt, tt))) $ use0 𝓛 (‵ (PairData.own_val (place z, (tt, tt)) (ptr_and_marker (place z) ∷
    []))) (pair_made 𝓛 (place z)) $ fjoin ! $ let r : Br.Denot = record { at = place z; marker = record {}; value = i; heap = s.heap } in let Told : Type 0 = (x ≡ x) × (s.heap ≡ s.heap) ×
    Final (Known holds seat) (w ∷ []) (First m.0 ∷ Second m.1 ∷ []) in use0 𝓛 (raw (fact 𝓤 Told)) (fact_i 𝓤 Told (emp 𝓤) (refl, refl, final)) $ nothing ! $ nothing ! $ fjoin ! $
    returns ! (look_at ! 0 refl) $ free_all ! refl $ keep ! (3 ∷ 0 ∷ 2 ∷ 1 ∷ []) $ by ! (leaves 𝓛 promise staying claims start (ptr_and_marker (place z)) r (tt, tt) (tt, tt)))))))))
