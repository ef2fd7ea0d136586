-- `give_up` is one step on the holds of the block, which may have ended.
use Rattle.counted_block.proofs.Names.{◌≡◌, ℕ, ◌+◌, eqb, [], ◌∷◌, refl, ap, lit<, w64, dcons, dnil, Val, vint, vptr, vstruct, vcons, vnil, SProp, inst_fn, emp, Fml, ftrue, finv}
use Rattle.counted_block.proofs.Names.{‵, raw, ◌⊛◌, mean, at_ret, ◌$◌, ◌∵◌, !, qed, by, move, keep, drop, split, fsplit, fsplit3, fjoin, fpick, use0, use1, use2, via, stop, fld}
use Rattle.counted_block.proofs.Names.{addr, lit, of_opd, no_more, and_then, first, blocks, exec, Calls-last, returns, enter, alloc_all, pass_all, free_all, look_at, get, get_in, through, sets, is}
use Rattle.counted_block.proofs.Names.{lands_last, env, agg, sub, whole, tables, fact, fact_i, no, RattleType, owns, types_at, fm, plain, Ptr, block_ptr, ptr_val, nothing, param, bounded, Stays}
use Rattle.counted_block.proofs.Names.{stay_dropped, walk_of, Goes-dropped, after, proved, leaves, seq_cst, found, finds, subs, BlockId, place, block, content, ptr_and_marker, pair_typed, in_place}
use Rattle.counted_block.proofs.Names.{kept_inv, alive, Types, seven, pair_told, located, numbered}
use mathlib.Core.Option as maybe
use Rattle.counted_block.specs.contracts.hold.Hold as hold
use Rattle.counted_block.specs.contracts.remains.Remains as remains
use Rattle.counted_block.proofs.Holds as holding
use Rattle.counted_block.specs.contracts.hold.Hold.give_up as promised
use Rattle.counted_block.proofs.hold.Hold.give_up.Code as code

pub give_up_spec : {M : Type 1} → Rattle.counted_block.proofs.hold.Hold.give_up.Statement.statement M
give_up_spec 𝓤 𝓛 𝓜 𝓡 wired S₀ W₀ V₀ K₀ Y₀ T₀ A₀ _ _ _ _ _ _ _ g d h dh dd _ _ _ =
    let H = 𝓛.H in let machine = tables 𝓤 H 𝓜 𝓡 𝓡.env in let S : RattleType = param 0 S₀ in let W : RattleType = param 1 W₀ in let V = param 2 V₀ in let K = param 3 K₀ in
    let Y = param 4 Y₀ in let R : RattleType = param 5 T₀ in let A = param 6 A₀ in let promise = promised.ended S₀ W₀ V₀ K₀ Y₀ T₀ A₀ g d h dh dd in
    let claims = promised.clauses S₀ W₀ V₀ K₀ Y₀ T₀ A₀ g d h dh dd 𝓛 𝓜.mem 𝓡.returns in let types : Types seven = (S₀, (W₀, (V₀, (K₀, (Y₀, (T₀, (A₀, tt))))))) in
    let at_types = bounded seven types (dcons d (dcons dh (dcons dd dnil))) in let routine = inst_fn at_types code.function in let OwnRow : RattleType = hold.the_row S W V K Y R A g h in
    let Er : RattleType = remains.the_row S W V K Y R A g h in let self = plain (λ _. OwnRow) in let staying : Stays promise.signature.params promise.kept = (stay_dropped self no, tt) in
    proved 𝓛 promise staying claims 𝓜 𝓡 (Goes-dropped 𝓛 7 self no (λ κs x f. refl), tt) (promised.Key.name at_types) routine (code.unfolded 𝓤 H 𝓜 𝓡 wired types d dh dd) (λ
    κs. ((λ w. ptr_and_marker w.at ∷ []), tt)) (λ κs. ((λ w vs so. pair_told w.at vs so.0), tt)) (λ κs qs bounds a gh are. let s : OwnRow.Denot = a.0 in let p : Ptr = s.at in
    let x : R.Denot = s.value in let k = h.dealloc_token s.heap in let z : BlockId = s.id in let pb : ℕ = z.block in let e : ℕ = z.offset + 8 in let P : Fml = content S W R k z x in
    let holds = g.holds s.key in let J : Fml = block S W V.coded.code holds g.out P z in let start : (walk_of 𝓛 promise staying claims).Ghost =
    ((κs, qs, bounds, a, (ptr_and_marker p ∷ [], tt)), gh) in let returned : Val → SProp 𝓤 = (walk_of 𝓛 promise staying claims).post start in
    qed 𝓛 ((raw (alive 𝓛 promise.signature κs qs) ⊛ ‵ (owns (types_at promise.signature.params κs) a start.0.4)) ∷ raw (fact 𝓤 _) ∷ raw (fact 𝓤 _) ∷ raw (fact 𝓤 _) ∷
    raw (fact 𝓤 _) ∷ raw (fact 𝓤 _) ∷ raw (fact 𝓤 _) ∷ raw (fact 𝓤 _) ∷ ‵ ftrue ∷ []) ∵ keep ! (0 ∷ []) $ split ! $ move ! (1 ∷ []) $ fsplit ! $ fsplit ! $
    keep ! (1 ∷ 3 ∷ []) $ fsplit ! $ fpick ! (λ at. drop ! $ fsplit3 ! $ move ! (1 ∷ []) $ use1 𝓛 (‵ (finv J)) (kept_inv S W V.coded.code holds g.out P z 𝓛) $
    -- [the invariant; the parts; the value; the tokens]
    enter ! machine.C machine.Λ routine (ptr_and_marker p ∷ []) returned $ alloc_all ! (λ l. pass_all ! refl (pair_typed p (in_place p z at), tt) $ let here = env routine.locals l in
    sets ! (is ! (of_opd ! (get_in ! (fld ! refl (stop !)) (sub ! 0 refl (whole !)))) (ap ptr_val at)) refl (tt, tt) $ first ! $ blocks ! $ sets ! (addr ! (through ! refl (fld ! refl (stop !))))
    refl (tt, tt) $ let out : ℕ → Fml = holding.released 𝓛 S W V.coded holds g.out P z in use2 𝓛 (raw (machine.C _ (vptr pb e ∷ vint w64 1 ∷ seq_cst ∷
    []) (λ u. mean 𝓛 (found out u)))) (via 𝓤 _ (holding.releases 𝓛 S W V.coded holds g.out P z) (subs 𝓛 𝓜 𝓡 (code.calls-std::sync::atomic::raw::fetch_sub 𝓡.env wired)
    (block_ptr pb e) 1 (lit< tt) out)) $ sets ! (agg ! (and_then ! (lit ! tt) (no_more !))) refl (tt, (record { fits = lit< tt }, tt)) $ Calls-last ! (fm 𝓛 𝓜 𝓡) (found out) (and_then ! (get
    ! refl) (and_then ! (lit ! tt) (and_then ! (get ! refl) (no_more !)))) (λ u. finds ! out (λ n fits. lands_last ! refl (tt, record { fits = fits }) $
    exec ! machine.C machine.Λ here (after 2 routine.body) (at_ret here returned) $ sets ! (of_opd ! (get ! refl)) refl (tt, record { fits = fits }) $ sets ! (agg ! (no_more !)) refl (tt, tt) $
    sets ! (agg ! (and_then ! (get ! refl) (and_then ! (get ! refl) (no_more !)))) refl (tt, (tt, (tt, tt))) $ sets ! (of_opd ! (get ! refl)) refl (tt, (tt, (tt, tt))) $
    sets ! (agg ! (and_then ! (get ! refl) (and_then ! (get ! refl) (no_more !)))) refl (tt, (record { fits = fits }, ((tt, (tt, tt)), tt))) $ let q : Val = ptr_and_marker (place z) in
    let r : Val = vstruct (vcons (vint w64 n) (vcons q vnil)) in let none : ℕ → maybe.Option (ℕ × V.Denot) = λ _. maybe.none in let last = eqb n 9223372036854775809 in
    let rh : Er.Denot = record { at = place z; marker = s.marker; id = z; key = s.key; value = x; heap = s.heap; there = last; seat = none 0 } in located ! (place z) z refl $
    numbered ! Er rh q n fits $ let Told : Type 0 = (z ≡ z) × (s.key ≡ s.key) × (x ≡ x) × (s.heap ≡ s.heap) × (none 0 ≡ none 0) × (last ≡ last) in
    use0 𝓛 (raw (fact 𝓤 Told)) (fact_i 𝓤 Told (emp 𝓤) (refl, refl, refl, refl, refl, refl)) $
    -- [what is told; the result; the value; the tokens]
    nothing ! $ nothing ! $ fjoin ! $ returns ! (look_at ! 0 refl) $ free_all ! refl $ keep ! (4 ∷ 0 ∷ 2 ∷ 1 ∷ []) $ by ! (leaves 𝓛 promise staying claims start r (n, rh) (tt, tt)
    (tt, tt)))))))
