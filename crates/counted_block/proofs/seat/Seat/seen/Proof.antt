-- `seen` makes a value of no bytes, whose ghost field is the view of the seat.
use Rattle.counted_block.proofs.Names.{◌≡◌, ℕ, [], ◌∷◌, refl, a_type, named, Val, vptr, inst_fn, SProp, emp, ‵, raw, ◌⊛◌, ◌$◌, ◌∵◌, !, qed, by, keep, split, fjoin}
use Rattle.counted_block.proofs.Names.{use0, no_more, and_then, returns, enter, alloc_all, pass_all, free_all, get, agg, yes, look_at, sets, tables, RattleType, owns, types_at, plain, nothing}
use Rattle.counted_block.proofs.Names.{param, layouts, Stays, stay_dropped, walk_of, Goes-dropped, fact, fact_i, RefOf, shr_vals, shr_Tells, alive, proved, leaves, MarkerData, marker_val}
use Rattle.counted_block.proofs.Names.{marker_made}
use Rattle.counted_block.specs.contracts.seat.Seat as seat
use Rattle.counted_block.specs.contracts.seen.Seen as seen
use Rattle.counted_block.specs.contracts.seat.Seat.seen as promised
use Rattle.counted_block.proofs.seat.Seat.seen.Code as code

pub seen_spec : {M : Type 1} → Rattle.counted_block.proofs.seat.Seat.seen.Statement.statement M
seen_spec 𝓤 𝓛 𝓜 𝓡 wired S₀ W₀ V₀ _ _ _ =
    let H = 𝓛.H in let machine = tables 𝓤 H 𝓜 𝓡 𝓡.env in let S : RattleType = param 0 S₀ in let W : RattleType = param 1 W₀ in let V : RattleType = param 2 V₀ in
    let SeatRow : RattleType = seat.the_row S W V in let SeenRow : RattleType = seen.the_row V in let promise = promised.ended S₀ W₀ V₀ in
    let claims = promised.clauses S₀ W₀ V₀ 𝓛 𝓜.mem 𝓡.returns in let at_types = layouts (a_type ∷ a_type ∷ a_type ∷ []) (S₀, (W₀, (V₀, tt))) in
    let body = inst_fn at_types code.function in let self = RefOf (0 ∷ []) tt (plain (λ _. SeatRow)) (λ _. tt) in let staying : Stays promise.signature.params promise.kept =
    (stay_dropped self yes, tt) in proved 𝓛 promise staying claims 𝓜 𝓡 (Goes-dropped 𝓛 4 self yes (λ κs x f. refl), tt) (promised.Key.name at_types) body (code.unfolded 𝓤 H 𝓜
    𝓡 wired (S₀, (W₀, (V₀, tt)))) (λ κs. (shr_vals, tt)) (λ κs. (shr_Tells (named 0) κs.0 SeatRow, tt)) (λ κs qs bounds a gh are. let block : ℕ = a.0.ref_ptr.0 in
    let offset : ℕ = a.0.ref_ptr.1 in let s : SeatRow.Denot = a.0.now in let start : (walk_of 𝓛 promise staying claims).Ghost = ((κs, qs, bounds, a, (vptr block offset ∷ [], tt)), gh) in
    let returned : Val → SProp 𝓤 = (walk_of 𝓛 promise staying claims).post start in qed 𝓛 ((raw (alive 𝓛 promise.signature κs qs) ⊛
    ‵ (owns (types_at promise.signature.params κs) a start.0.4)) ∷ raw ((claims κs a).requires gh) ∷ []) ∵ split ! $ keep ! (0 ∷ []) $
    enter ! machine.C machine.Λ body (vptr block offset ∷ []) returned $ alloc_all ! (λ l. pass_all ! refl ((tt, tt), tt) $ sets ! (agg ! (no_more !)) refl (tt, tt) $
    sets ! (agg ! (and_then ! (get ! refl) (no_more !))) refl (tt, (tt, tt)) $ nothing ! $ use0 𝓛 (‵ (MarkerData.own_val (tt, tt) (marker_val ∷ []))) (marker_made 𝓛) $ fjoin ! $
    let r : SeenRow.Denot = record { marker = record {}; view = s.me.0 } in let Told : Type 0 = s.me.0 ≡ s.me.0 in use0 𝓛 (raw (fact 𝓤 Told)) (fact_i 𝓤 Told (emp 𝓤) refl) $ nothing ! $
    nothing ! $ fjoin ! $ returns ! (look_at ! 0 refl) $ free_all ! refl $ keep ! (3 ∷ 0 ∷ 2 ∷ 1 ∷ []) $ by ! (leaves 𝓛 promise staying claims start marker_val r (tt, tt) (tt, tt))))
