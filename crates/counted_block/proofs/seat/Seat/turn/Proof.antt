-- `turn` runs nothing: what the seat carries is the same in another order.
use Rattle.counted_block.proofs.Names.{◌≡◌, ℕ, List, [], ◌∷◌, refl, a_type, named, Val, vunit, vptr, inst_fn, emp, Fml, ftrue, fsep, flft, ‵, raw, ◌⊛◌, ◌$◌, ◌∵◌, ! }
use Rattle.counted_block.proofs.Names.{qed, by, move, keep, drop, split, join, fsplit, fsplit3, fjoin, fjoin3, use0, use1, feq_i, of_opd, returns, enter, unit_lit, alloc_all, pass_all, free_all}
use Rattle.counted_block.proofs.Names.{look_at, sets, tables, RattleType, owns, types_at, plain, nothing, param, layouts, Stays, walk_of, fact, fact_i, Coded, mut_vals, mut_Tells, opens, closes}
use Rattle.counted_block.proofs.Names.{stay_ref, Goes-ref, proved, leaves, turned, seat_owns, turns}
use Rattle.counted_block.specs.contracts.seat.Seat as seat
use Rattle.counted_block.specs.contracts.seat.Seat.turn as promised
use Rattle.counted_block.proofs.seat.Seat.turn.Code as code

pub turn_spec : {M : Type 1} → Rattle.counted_block.proofs.seat.Seat.turn.Statement.statement M
turn_spec 𝓤 𝓛 𝓜 𝓡 wired S W V _ _ _ =
    let R : RattleType = param 0 S in let Q : RattleType = param 1 W in let View : RattleType = param 2 V in let SeatRow : RattleType = seat.the_row R Q View in
    let cv : Coded V.Denot = View.coded in let by_mut = plain (λ _. SeatRow) in let promise = promised.ended S W V in let claims = promised.clauses S W V 𝓛 𝓜.mem 𝓡.returns in
    let at_types = layouts (a_type ∷ a_type ∷ a_type ∷ []) (S, (W, (V, tt))) in let body = inst_fn at_types code.function in let machine = tables 𝓤 𝓛.H 𝓜 𝓡 𝓡.env in
    let stay : Stays promise.signature.params promise.kept = (stay_ref (0 ∷ []) tt by_mut, tt) in let walk = walk_of 𝓛 promise stay claims in
    proved 𝓛 promise stay claims 𝓜 𝓡 (Goes-ref 𝓛 4 0 tt by_mut, tt) (promised.Key.name at_types) body (code.unfolded 𝓤 𝓛.H 𝓜 𝓡 wired (S, (W, (V, tt)))) (λ κs.
    (mut_vals, tt)) (λ κs. (mut_Tells (named 0) κs.0 SeatRow, tt)) (λ κs qs bounds args gh are. let seat_block : ℕ = args.0.ref_ptr.0 in let seat_offset : ℕ = args.0.ref_ptr.1 in
    let old : SeatRow.Denot = args.0.now in let new : SeatRow.Denot = record { marker = old.marker; block = old.block; id = old.id; me = (old.me.0, turned old.me.1) } in
    let Ensured : Type 0 = (old.block ≡ old.block) × (old.id ≡ old.id) × (new.me ≡ new.me) in let start : walk.Ghost = ((κs, qs, bounds, args, (vptr seat_block seat_offset ∷ [], tt)), gh)
    in let Others : Fml = fsep (flft κs.1.0 qs.1.0) (fsep (flft κs.1.1.0 qs.1.1.0) (fsep (flft κs.1.1.1.0 qs.1.1.1.0) ftrue)) in qed 𝓛 (((‵ (flft κs.0 qs.0) ⊛ ‵ Others) ⊛
    ‵ (owns (types_at promise.signature.params κs) args start.0.4)) ∷ raw ((claims κs args).requires gh) ∷ []) ∵ move ! (1 ∷ []) $ drop ! $ split ! $ move ! (1 ∷ []) $ fsplit ! $
    fsplit3 ! $ move ! (4 ∷ []) $ split ! $
    -- [the token of the `&mut`; the other tokens; the address; the half of the seat's value; its borrow]
    keep ! (3 ∷ 4 ∷ 0 ∷ 1 ∷ []) $ enter ! machine.C machine.Λ body (vptr seat_block seat_offset ∷ []) (walk.post start) $ alloc_all ! (λ l. pass_all ! refl ((tt, tt), tt) $
    sets ! (of_opd ! (unit_lit !)) refl (tt, tt) $ opens ! tt SeatRow seat_block seat_offset (λ bits. move ! (1 ∷ []) $ fsplit ! $ move ! (1 ∷ []) $
    use1 𝓛 (‵ (seat_owns R Q old.block cv.code old.id new.me)) (turns 𝓛 R Q old.block cv.code old.id old.me.0 old.me.1) $ move ! (1 ∷ 0 ∷ []) $ fjoin ! $ move ! (1 ∷ 0 ∷ 2 ∷ 3 ∷
    4 ∷ []) $ closes ! tt SeatRow new bits seat_block seat_offset $ returns ! (look_at ! 0 refl) $ free_all ! refl $ move ! (2 ∷ 3 ∷ []) $ join ! $ move ! (1 ∷ 2 ∷ []) $
    feq_i ! (List Val) (vptr seat_block seat_offset ∷ []) (vptr seat_block seat_offset ∷ []) refl $ fjoin3 ! $ nothing ! $ move ! (1 ∷ 0 ∷ []) $ fjoin ! $ feq_i ! (List Val) (vunit ∷
    []) (vunit ∷ []) refl $ use0 𝓛 (raw (fact 𝓤 Ensured)) (fact_i 𝓤 Ensured (emp 𝓤) (refl, refl, refl)) $ keep ! (3 ∷ 2 ∷ 1 ∷ 0 ∷ []) $
    by ! (leaves 𝓛 promise stay claims start vunit tt (new, tt) (tt, tt)))))
