-- `try_hold` is one step on the holds of the block.
use Rattle.counted_block.proofs.Names.{◌≡◌, ℕ, ◌+◌, eqb, [], ◌∷◌, refl, lit<, w64, named, dcons, dnil, Val, vint, vptr, vstruct, vcons, vnil, inst_fn, SProp, emp, Lft, Fml, flft}
use Rattle.counted_block.proofs.Names.{finv, ‵, raw, ◌⊛◌, mean, at_ret, ◌$◌, ◌∵◌, !, qed, by, move, keep, drop, split, join, fsplit, fjoin, fjoin3, use0, use1, use2, via, stop}
use Rattle.counted_block.proofs.Names.{hop, fld, addr, load, lit, of_opd, no_more, and_then, first, blocks, exec, Calls-last, returns, enter, alloc_all, pass_all, free_all, look_at, get, through}
use Rattle.counted_block.proofs.Names.{sets, lands_last, env, agg, sub, whole, look_in, tables, fact, fact_i, yes, RattleType, owns, types_at, plain, block_ptr, nothing, param, bounded, RefOf}
use Rattle.counted_block.proofs.Names.{shr_vals, shr_Tells, shr_bor-open, obor_close, Stays, stay_dropped, walk_of, Goes-dropped, after, proved, leaves, fm, seq_cst, found, not, finds, BlockId}
use Rattle.counted_block.proofs.Names.{place, block, content, kept_of, tokens, ptr_and_marker, kept_shows, bumps, Types, seven, halve, of_shares, share_kind, lent_self, opens_self, closes_self}
use Rattle.counted_block.proofs.Names.{located, numbered}
use Rattle.counted_block.specs.contracts.share.Share as share
use Rattle.counted_block.specs.contracts.hold.MaybeHold as maybe_hold
use Rattle.counted_block.proofs.Holds as holding
use Rattle.counted_block.specs.contracts.share.Share.try_hold as promised
use Rattle.counted_block.proofs.share.Share.try_hold.Code as code

pub try_hold_spec : {M : Type 1} → Rattle.counted_block.proofs.share.Share.try_hold.Statement.statement M
try_hold_spec 𝓤 𝓛 𝓜 𝓡 wired S₀ W₀ V₀ K₀ Y₀ T₀ A₀ _ _ _ _ _ _ _ g d h dh dd _ _ _ =
    let H = 𝓛.H in let machine = tables 𝓤 H 𝓜 𝓡 𝓡.env in let S : RattleType = param 0 S₀ in let W : RattleType = param 1 W₀ in let V = param 2 V₀ in let K = param 3 K₀ in
    let Y = param 4 Y₀ in let R : RattleType = param 5 T₀ in let A = param 6 A₀ in let promise = promised.ended S₀ W₀ V₀ K₀ Y₀ T₀ A₀ g d h dh dd in
    let claims = promised.clauses S₀ W₀ V₀ K₀ Y₀ T₀ A₀ g d h dh dd 𝓛 𝓜.mem 𝓡.returns in let types : Types seven = (S₀, (W₀, (V₀, (K₀, (Y₀, (T₀, (A₀, tt))))))) in
    let at_types = bounded seven types (dcons d (dcons dh (dcons dd dnil))) in let routine = inst_fn at_types code.function in let OwnRow : RattleType = share.the_row S W V K Y R A g h in
    let MaybeRow : RattleType = maybe_hold.the_row S W V K Y R A g h in let I = share_kind S W V K Y R A g h in let self = RefOf (0 ∷ []) tt (plain (λ _. OwnRow)) (λ _. tt) in
    let staying : Stays promise.signature.params promise.kept = (stay_dropped self yes, tt) in proved 𝓛 promise staying claims 𝓜 𝓡 (Goes-dropped 𝓛 8 self yes (λ κs x f. refl), tt)
    (promised.Key.name at_types) routine (code.unfolded 𝓤 H 𝓜 𝓡 wired types d dh dd) (λ κs. (shr_vals, tt)) (λ κs. (shr_Tells (named 0) κs.0 OwnRow, tt)) (λ κs qs bounds a gh are.
    let self_block : ℕ = a.0.ref_ptr.0 in let self_offset : ℕ = a.0.ref_ptr.1 in let κ : Lft = κs.0 in let s : OwnRow.Denot = a.0.now in let x : R.Denot = s.value in
    let k = h.dealloc_token s.heap in let z : BlockId = s.id in let Beside : Fml = tokens 7 κs.1 qs.1 in let pb : ℕ = z.block in let e : ℕ = z.offset + 8 in let P : Fml = content S W R k z x in
    let holds = g.holds s.key in let J : Fml = block S W V.coded.code holds g.out P z in let Kp : Fml = kept_of S W R V.coded.code holds g.out k z x in
    let start : (walk_of 𝓛 promise staying claims).Ghost = ((κs, qs, bounds, a, (vptr self_block self_offset ∷ [], tt)), gh) in let returned : Val →
    SProp 𝓤 = (walk_of 𝓛 promise staying claims).post start in qed 𝓛 (((‵ (flft κ qs.0) ⊛ ‵ Beside) ⊛ ‵ (owns (types_at promise.signature.params κs) a start.0.4)) ∷
    raw ((claims κs a).requires gh) ∷ []) ∵ keep ! (0 ∷ []) $ split ! $ split ! $ move ! (2 ∷ []) $ fsplit ! $ fsplit ! $ keep ! (1 ∷ 3 ∷ 4 ∷ []) $
    enter ! machine.C machine.Λ routine (vptr self_block self_offset ∷ []) returned $ alloc_all ! (λ l. pass_all ! refl ((tt, tt), tt) $ let here = env routine.locals l in
    lent_self S W V K Y R A g h I ! s self_block self_offset $ fsplit ! $ fsplit ! $ move ! (2 ∷ []) $ fsplit ! $ use1 𝓛 (‵ (finv J) ⊛
    ‵ Kp) (kept_shows S W V.coded.code holds g.out P z 𝓛) $ split ! $
    -- [the invariant; what is kept; the value; the two tokens, lent; the fields; the token; the others]
    move ! (3 ∷ []) $ drop ! $ move ! (4 ∷ 5 ∷ 3 ∷ []) $ opens_self S W V K Y R A g h I ! tt (place z) self_block self_offset (λ q. first ! $ blocks ! $
    sets ! (addr ! (through ! refl (fld ! refl (hop ! (look_in ! 0 (sub ! 0 refl (whole !))) (fld ! refl (stop !)))))) refl (tt, tt) $ closes_self S W V K Y R A g h I ! tt q (place z) self_block
    self_offset $
    -- [the token; the fields; the grips, lent; the invariant; what is kept; the value; the others]
    move ! (2 ∷ 0 ∷ []) $ shr_bor-open ! tt (halve 𝓛 z.grips of_shares) (λ r. let out : ℕ → Fml = holding.with_hold 𝓛 S W V.coded holds g.out P z r in move ! (3 ∷ 1 ∷ []) $
    use2 𝓛 (raw (machine.C _ (vptr pb e ∷ seq_cst ∷ []) (λ u. mean 𝓛 (found out u)))) (via 𝓤 _ (holding.holds_more 𝓛 S W V.coded holds g.out P z r) (bumps 𝓛 𝓜 𝓡
    (code.calls-std::sync::atomic::raw::saturating_increment 𝓡.env wired) (block_ptr pb e) out)) $ sets ! (agg ! (and_then ! (lit ! tt) (no_more !))) refl (tt, (record { fits = lit< tt }, tt)) $
    Calls-last ! (fm 𝓛 𝓜 𝓡) (found out) (and_then ! (get ! refl) (and_then ! (get ! refl) (no_more !))) (λ u. finds ! out (λ n fits. lands_last ! refl (tt, record { fits = fits }) $
    exec ! machine.C machine.Λ here (after 1 routine.body) (at_ret here returned) $ sets ! (of_opd ! (get ! refl)) refl (tt, record { fits = fits }) $ fsplit ! $ move ! (2 ∷ 0 ∷ []) $
    obor_close ! tt $ drop ! $
    -- [the token; the hold, if there is one; the fields; what is kept; the value; the others]
    move ! (2 ∷ 0 ∷ []) $ opens_self S W V K Y R A g h I ! tt (place z) self_block self_offset (λ q₂. sets ! (of_opd ! (load ! (through ! refl (fld ! refl (stop !))) (look_in ! 0 (sub ! 0
    refl (whole !))))) refl (tt, tt) $ closes_self S W V K Y R A g h I ! tt q₂ (place z) self_block self_offset $ sets ! (agg ! (no_more !)) refl (tt, tt) $
    sets ! (agg ! (and_then ! (get ! refl) (and_then ! (get ! refl) (no_more !)))) refl (tt, (tt, (tt, tt))) $ sets ! (of_opd ! (get ! refl)) refl (tt, (tt, (tt, tt))) $
    sets ! (agg ! (and_then ! (get ! refl) (and_then ! (get ! refl) (no_more !)))) refl (tt, (record { fits = fits }, ((tt, (tt, tt)), tt))) $ move ! (2 ∷ 3 ∷ 4 ∷ []) $ fjoin3 ! $
    let u : Val = vstruct (vcons (vint w64 n) (vcons (ptr_and_marker (place z)) vnil)) in let full = eqb n 9223372036854775807 in let mh : MaybeRow.Denot = record
    { at = place z; marker = s.marker; id = z; key = s.key; value = x; heap = s.heap; there = not full } in located ! (place z) z refl $ numbered ! MaybeRow mh (ptr_and_marker (place z)) n fits $
    -- [the result; the token; the fields; the others]
    move ! (1 ∷ 3 ∷ []) $ join ! $ nothing ! $ nothing ! $ fjoin ! $ let Told : Type 0 = (z ≡ z) × (s.key ≡ s.key) × (x ≡ x) × (s.heap ≡ s.heap) × (not full ≡ not full) in
    use0 𝓛 (raw (fact 𝓤 Told)) (fact_i 𝓤 Told (emp 𝓤) (refl, refl, refl, refl, refl)) $ returns ! (look_at ! 0 refl) $ free_all ! refl $ keep ! (2 ∷ 1 ∷ 3 ∷ 0 ∷ []) $
    by ! (leaves 𝓛 promise staying claims start u (n, mh) (tt, tt) (tt, tt)))))))))
