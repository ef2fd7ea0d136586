-- `note` changes a seat's view beside the machine.
use Rattle.counted_block.proofs.Names.{◌≡◌, ℕ, List, [], ◌∷◌, sym, refl, named, dcons, dnil, Val, vptr, inst_fn, SProp, emp, Lft, Fml, ftrue, fex, flft, fhide, finv, ‵, raw, given}
use Rattle.counted_block.proofs.Names.{◌⊛◌, later, await, ◌$◌, ◌∵◌, !, qed, by, move, keep, drop, split, split3, join, fsplit, fsplit3, fjoin, fjoin3, fpick, learn, use0, use1, use2}
use Rattle.counted_block.proofs.Names.{rewrite, feq_i, of_opd, returns, enter, alloc_all, pass_all, free_all, look_at, sets, tables, fact, fact_i, yes, vunit, RattleType, owns, types_at, plain, Me}
use Rattle.counted_block.proofs.Names.{nothing, opens, closes, unhide, hidden_shr, param, bounded, RefOf, shr_vals, shr_Tells, mut_vals, mut_Tells, Stays, stay_dropped, stay_ref, walk_of, Goes-ref}
use Rattle.counted_block.proofs.Names.{Goes-dropped, proved, leaves, unit_lit, step, Place, BlockId, seat_owns, block, Notes, content, kept_of, tokens, LedgerData, kept_inv, Types, eight}
use Rattle.counted_block.proofs.Names.{ledger_lent}
use mathlib.Core.Option as maybe
use Rattle.counted_block.specs.contracts.seat.Seat as seat
use Rattle.counted_block.specs.contracts.seat.Ledger as ledger
use Rattle.counted_block.proofs.Moving as moving
use Rattle.counted_block.specs.contracts.seat.Ledger.note as promised
use Rattle.counted_block.proofs.seat.Ledger.note.Code as code

pub note_spec : {M : Type 1} → Rattle.counted_block.proofs.seat.Ledger.note.Statement.statement M
note_spec 𝓤 𝓛 𝓜 𝓡 wired S₀ W₀ V₀ K₀ Y₀ T₀ A₀ M₀ _ _ _ _ _ _ _ _ g d h dh dd m dm _ _ _ _ =
    let H = 𝓛.H in let machine = tables 𝓤 H 𝓜 𝓡 𝓡.env in let S : RattleType = param 0 S₀ in let W : RattleType = param 1 W₀ in let V = param 2 V₀ in let K = param 3 K₀ in
    let Y = param 4 Y₀ in let R : RattleType = param 5 T₀ in let A = param 6 A₀ in let promise = promised.ended S₀ W₀ V₀ K₀ Y₀ T₀ A₀ M₀ g d h dh dd m dm in
    let claims = promised.clauses S₀ W₀ V₀ K₀ Y₀ T₀ A₀ M₀ g d h dh dd m dm 𝓛 𝓜.mem 𝓡.returns in let types : Types eight =
    (S₀, (W₀, (V₀, (K₀, (Y₀, (T₀, (A₀, (M₀, tt)))))))) in let at_types = bounded eight types (dcons d (dcons dh (dcons dd (dcons dm dnil)))) in
    let routine = inst_fn at_types code.function in let OwnRow : RattleType = ledger.the_row S W V K Y R A g h in let SeatRow : RattleType = seat.the_row S W V in
    let D : RattleType = LedgerData S W V K Y R A g h in let self = RefOf (0 ∷ []) tt (plain (λ _. OwnRow)) (λ _. tt) in let by_mut = plain (λ _. SeatRow) in
    let staying : Stays promise.signature.params promise.kept = (stay_dropped self yes, (stay_ref (1 ∷ []) tt by_mut, tt)) in proved 𝓛 promise staying claims 𝓜 𝓡
    (Goes-dropped 𝓛 10 self yes (λ κs x f. refl), (Goes-ref 𝓛 10 1 tt by_mut, tt)) (promised.Key.name at_types) routine (code.unfolded 𝓤 H 𝓜 𝓡 wired types d dh dd dm) (λ κs.
    (shr_vals, (mut_vals, tt))) (λ κs. (shr_Tells (named 0) κs.0 OwnRow, (mut_Tells (named 1) κs.1.0 SeatRow, tt))) (λ κs qs bounds a gh are. let self_block : ℕ = a.0.ref_ptr.0 in
    let self_offset : ℕ = a.0.ref_ptr.1 in let κ : Lft = κs.0 in let s : OwnRow.Denot = a.0.now in let x : R.Denot = s.value in let k = h.dealloc_token s.heap in let z : BlockId = s.id in
    let seat_block : ℕ = a.1.0.ref_ptr.0 in let seat_offset : ℕ = a.1.0.ref_ptr.1 in let t : SeatRow.Denot = a.1.0.now in let id : ℕ = t.id in
    let v : Me (Place S.Denot W.Denot) V.Denot = t.me in let Beside : Fml = tokens 8 κs.1.1 qs.1.1 in let holds = g.holds s.key in let P : Fml = content S W R k z x in
    let J : Fml = block S W V.coded.code holds g.out P z in let start : (walk_of 𝓛 promise staying claims).Ghost =
    ((κs, qs, bounds, a, (vptr self_block self_offset ∷ [], (vptr seat_block seat_offset ∷ [], tt))), gh) in let returned : Val → SProp 𝓤 = (walk_of 𝓛 promise staying claims).post start
    in let then : ℕ → Me (Place S.Denot W.Denot) V.Denot → Type 0 = m.then s.key (step 2 0 0 0 maybe.none) v in qed 𝓛 (((‵ (flft κ qs.0) ⊛ ‵ (flft κs.1.0 qs.1.0) ⊛ ‵ Beside) ⊛
    ‵ (owns (types_at promise.signature.params κs) a start.0.4)) ∷ raw (fact 𝓤 _) ∷ raw (fact 𝓤 _) ∷ raw (fact 𝓤 _) ∷ raw (fact 𝓤 _) ∷ raw (fact 𝓤 _) ∷
    raw (fact 𝓤 _) ∷ raw (fact 𝓤 _) ∷ raw (fact 𝓤 _) ∷ given (t.block ≡ z) (‵ ftrue) ∷ given (Notes holds id v then) (‵ ftrue) ∷ []) ∵ keep ! (9 ∷ 10 ∷ 0 ∷ []) $
    learn ! (λ same. drop ! $ learn ! (λ allows. drop ! $ split ! $ split3 ! $ move ! (3 ∷ []) $ fsplit3 ! $ fsplit ! $ move ! (2 ∷ []) $ fsplit3 ! $ keep ! (4 ∷ 6 ∷ 1 ∷ 2 ∷ 7 ∷
    8 ∷ []) $ enter ! machine.C machine.Λ routine (vptr self_block self_offset ∷ vptr seat_block seat_offset ∷ []) returned $ alloc_all ! (λ l. pass_all ! refl ((tt, tt), ((tt, tt), tt)) $
    use1 𝓛 (‵ (hidden_shr D κ (tt, tt) self_block self_offset) ⊛ ‵ (fhide (kept_of S W R V.coded.code holds g.out k z x))) (ledger_lent S W V K Y R A g h 𝓛 κ s self_block self_offset)
    $ split ! $ move ! (1 ∷ []) $ unhide ! $ use1 𝓛 (‵ (finv J)) (kept_inv S W V.coded.code holds g.out P z 𝓛) $ move ! (1 ∷ []) $ drop ! $
    -- [the invariant; the token; the seat, in two; its token; the others]
    let New : ℕ × V.Denot → Fml = moving.noted 𝓛 S W V.coded holds g.out P z id v then allows in move ! (2 ∷ 3 ∷ 4 ∷ []) $ opens ! tt SeatRow seat_block seat_offset (λ bits. move ! (1
    ∷ []) $ fsplit ! $ rewrite ! 1 (λ (w : BlockId). ‵ (seat_owns S W w V.coded.code id v)) same refl $ move ! (6 ∷ 1 ∷ []) $ use2 𝓛 (later (‵ (fex (ℕ × V.Denot) New)))
    (moving.notes 𝓛 S W V.coded holds g.out P z id v then allows) $ await ! tt $ fpick ! (λ u. fsplit ! $ fpick ! (λ so. drop ! $ let t' : SeatRow.Denot = record
    { marker = t.marker; block = z; id = id; me = (u.1, v.1) } in let Told : Type 0 = (z ≡ t.block) × (id ≡ id) × ((n : ℕ) × then n (u.1, v.1)) in
    -- [the seat; its fields, its cell and three more; the token; the others]
    move ! (1 ∷ 0 ∷ []) $ fjoin ! $ move ! (1 ∷ 0 ∷ 2 ∷ 3 ∷ 4 ∷ []) $ closes ! tt SeatRow t' bits seat_block seat_offset $ feq_i ! (List Val) (vptr seat_block seat_offset ∷
    []) (vptr seat_block seat_offset ∷ []) refl $ fjoin3 ! $ nothing ! $ move ! (1 ∷ 0 ∷ []) $ fjoin ! $ nothing ! $ fjoin ! $ move ! (1 ∷ 3 ∷ []) $ join ! $ move ! (2 ∷ 0 ∷ []) $
    join ! $ use0 𝓛 (raw (fact 𝓤 Told)) (fact_i 𝓤 Told (emp 𝓤) (sym same, refl, (u.0, so))) $ feq_i ! (List Val) (vunit ∷ []) (vunit ∷ []) refl $
    sets ! (of_opd ! (unit_lit !)) refl (tt, tt) $ returns ! (look_at ! 0 refl) $ free_all ! refl $ keep ! (2 ∷ 3 ∷ 0 ∷ 1 ∷ []) $ by ! (leaves 𝓛 promise staying claims start vunit tt
    (tt, (t', tt)) (tt, (tt, tt))))))))))
