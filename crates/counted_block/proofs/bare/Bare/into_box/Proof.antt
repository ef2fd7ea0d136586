-- `into_box` makes the box again.
use Rattle.counted_block.proofs.Names.{◌≡◌, List, [], ◌∷◌, ◌++◌, sym, refl, ap, subst, a_type, dcons, dnil, Val, vptr, inst_fn, SProp, ent, emp, id⊢, ftrue, fsep, flft, sem, ‵}
use Rattle.counted_block.proofs.Names.{raw, ◌⊛◌, some, later, at_ret, ◌$◌, ◌∵◌, !, qed, by, move, keep, drop, split, split3, join, fsplit, fsplit3, fjoin, fjoin3, pick, suffices, is}
use Rattle.counted_block.proofs.Names.{use0, use1, await, rewrite, feq_i, stop, fld, of_opd, no_more, and_then, first, blocks, exec, returns, enter, alloc_all, pass_all, free_all, look_at, get, env}
use Rattle.counted_block.proofs.Names.{get_in, sets, lands_last, sub, whole, tables, fact, fact_i, ◌⊑◌, no, RattleType, plain, Ptr, InBlock, block_ptr, ptr_val, nothing, only, heard, bounded}
use Rattle.counted_block.proofs.Names.{triple_of, Stays, stay_dropped, walk_of, Goes-dropped, after, proved_at, leaves, fm, never, fst∗, T, has_ty, WT, WpFn, Item, layout, null_ptr, in_a_block}
use Rattle.counted_block.proofs.Names.{calls_at_last, Lasts, lasts, token, handle_tells, Goes-blank, box_owns, box_out, box_in, ptr_and_marker, pair_typed, pair_told}
use mir.Raw.{raw as bare_ty}
use Rattle.std.proofs.BoxSteps.Form as box
use Rattle.std.specs.contracts.boxed.Box.from_raw as callee
use Rattle.std.proofs.boxed.Box.from_raw.Met as callee_met
use Rattle.counted_block.specs.contracts.bare.Bare as bare
use Rattle.counted_block.specs.contracts.bare.Bare.into_box as promised
use Rattle.counted_block.proofs.bare.Bare.into_box.Code as code

pub into_box_spec : {M : Type 1} → Rattle.counted_block.proofs.bare.Bare.into_box.Statement.statement M
into_box_spec 𝓤 𝓛 𝓜 𝓡 wired X Z L LZ g d dd met md =
    let H = 𝓛.H in let machine = tables 𝓤 H 𝓜 𝓡 𝓡.env in let E : box.Bx = record { row = X; laws = L; al = record { row = Z; laws = LZ; g = g; d = d; drops = dd } } in
    let R : RattleType = box.R E in let P : RattleType = box.P E in let B : RattleType = box.B E in let Br : RattleType = bare.the_row R P g in let promise = promised.ended X Z g d dd in
    let at_types = bounded (a_type ∷ a_type ∷ []) (X, (Z, tt)) (dcons d (dcons dd dnil)) in let routine = inst_fn at_types code.function in
    let claims = promised.clauses X Z g d dd 𝓛 𝓜.mem 𝓡.returns in let Made = triple_of 𝓛 (callee.signature X Z g d dd) (callee.spec X Z g d dd 𝓛 𝓜.mem 𝓡.returns) in
    let Ce = callee.ended X Z g d dd in let known = callee_met.met 𝓤 𝓛 𝓜 𝓡 (code.calls-std_alloc::boxed::Box::from_raw 𝓡.env wired) X Z L LZ g d dd met md in
    let staying : Stays promise.signature.params promise.kept = (stay_dropped (plain (λ _. Br)) no, (stay_dropped (plain (λ _. P)) no, tt)) in
    proved_at 𝓛 promise staying claims 𝓜 𝓡 (Goes-dropped 𝓛 2 (plain (λ _. Br)) no (λ κs x f. refl), (Goes-blank 𝓛 2 (plain (λ _. P)) no (λ κs x f. tt), tt)) (promised.Key.name
    at_types) routine (code.unfolded 𝓤 H 𝓜 𝓡 wired (X, (Z, tt)) d dd) (λ z are. let κs = z.0.0 in let qs = z.0.1 in let t₁ : Item 𝓤 = ‵ (flft κs.0 qs.0) in
    let t₂ : Item 𝓤 = ‵ (flft κs.1.0 qs.1.0) in let inX = κs.0 ⊑ X.lives in let inZ = κs.1.0 ⊑ Z.lives in let returned : Val → SProp 𝓤 = (walk_of 𝓛 promise staying claims).post
    z in let Run : List Val → SProp 𝓤 = λ ws. WpFn 𝓤 H machine.C machine.Λ routine ws returned in let v : Br.Denot = z.0.3.0 in let a : Z.Denot = z.0.3.1.0 in let x : X.Denot = v.value in
    let Asked : Type 0 = v.heap ≡ a in qed 𝓛 (((t₁ ⊛ t₂ ⊛ ‵ ftrue) ⊛ ‵ (fsep (Br.own_val v z.0.4.0) (fsep (P.own_val a z.0.4.1.0) ftrue))) ∷ raw (fact 𝓤 inX) ∷
    raw (fact 𝓤 inZ) ∷ raw (fact 𝓤 Asked) ∷ []) ∵ move ! (1 ∷ 2 ∷ 3 ∷ []) $ heard ! inX (λ leX. heard ! inZ (λ leZ. heard ! Asked (λ asked. split ! $ move ! (1 ∷ []) $
    fsplit3 ! $ fsplit ! $ drop ! $ in_a_block ! v.at (λ p. box_owns (token E.al v.heap) R p x) (fst∗ 𝓤 (never 𝓤) (sem 𝓛 (token E.al v.heap (bare_ty (layout X)) null_ptr))) (λ b o at.
    let p : Ptr = block_ptr b o in rewrite ! 0 (λ (s : Z.Denot). ‵ (box_owns (token E.al s) R p x)) asked refl $ move ! (1 ∷ []) $ handle_tells E.al ! a z.0.4.1.0 (λ hv eh fa. move ! (1 ∷
    []) $ keep ! (0 ∷ 1 ∷ 3 ∷ []) $ let inb : InBlock v.at = subst InBlock (sym at) tt in let us : List Val = ptr_and_marker v.at ∷ hv ∷ [] in let ev : z.0.4.0 ≡ ptr_and_marker v.at ∷
    [] = pair_told v.at z.0.4.0 are.0.0 in let start : Made.Ghost = ((κs, qs, tt, (a, (p, tt)), (hv ∷ [], (vptr b o ∷ [], tt))), x) in suffices ! (Run us) (subst (λ (ws : List Val). ent 𝓤
    (Run us) (Run ws)) (sym (λ i. ev i ++ (eh i ++ []))) (id⊢ 𝓤 (Run us))) $ enter ! machine.C machine.Λ routine us returned $ alloc_all ! (λ l. pass_all ! refl
    (pair_typed v.at inb, (fa, tt)) $ let here = env routine.locals l in sets ! (is ! (of_opd ! (get_in ! (fld ! refl (stop !)) (sub ! 0 refl (whole !)))) (ap ptr_val at)) refl (tt, tt) $ first ! $
    blocks ! $ sets ! (of_opd ! (get ! refl)) refl fa $ use0 𝓛 (raw (fact 𝓤 inZ)) (fact_i 𝓤 inZ (emp 𝓤) leZ) $ join ! $ use0 𝓛 (raw (fact 𝓤 inX)) (fact_i 𝓤 inX (emp 𝓤) leX) $
    join ! $ nothing ! $ feq_i ! (List Val) (vptr b o ∷ []) (vptr b o ∷ []) refl $ move ! (3 ∷ 0 ∷ 1 ∷ []) $ fjoin3 ! $ move ! (2 ∷ 0 ∷ []) $ join ! $ join ! $
    use1 𝓛 (raw (Made.pre start)) (id⊢ 𝓤 _) $ calls_at_last ! (fm 𝓛 𝓜 𝓡) Made known start (and_then ! (get ! refl) (and_then ! (get ! refl) (no_more !))) (λ u. use1 𝓛 (later
    (some (λ (r : B.Denot). ((t₁ ⊛ t₂ ⊛ ‵ ftrue) ⊛ ‵ (B.own_val r (u ∷ []))) ⊛ some (λ (ws : Lasts Ce κs (a, (p, tt))). ‵ (lasts Ce κs (a, (p, tt)) ws) ⊛
    (raw (fact 𝓤 (r.value ≡ x)) ⊛ raw (fact 𝓤 (r.alloc ≡ a))))))) (id⊢ 𝓤 _) $ await ! tt $ pick ! (λ r. split ! $ move ! (1 ∷ []) $ pick ! (λ _. split3 ! $ drop ! $
    move ! (1 ∷ []) $ drop ! $ heard ! (r.value ≡ x) (λ same. split ! $ move ! (1 ∷ []) $ box_out E ! r (u ∷ []) (λ b' o' hw e' eu fw. box_in E ! r b' o' r.value e' refl $
    let w' : Val = box.word E hw b' o' in let typed' = box.box_typed E hw b' o' fw in let is_word : u ≡ w' = ap only eu in lands_last ! refl (subst (λ (s : Val). T (has_ty (box.box_ty E) s) × WT
    s) (sym is_word) typed') $ exec ! machine.C machine.Λ here (after 2 routine.body) (at_ret here returned) $ sets ! (is ! (of_opd ! (get ! refl)) is_word) refl typed' $
    use0 𝓛 (raw (fact 𝓤 (r.value ≡ x))) (fact_i 𝓤 (r.value ≡ x) (emp 𝓤) same) $ nothing ! $ nothing ! $ fjoin ! $ nothing ! $ fjoin ! $ returns ! (look_at ! 0 refl) $
    free_all ! refl $ keep ! (3 ∷ 0 ∷ 2 ∷ 1 ∷ []) $ by ! (leaves 𝓛 promise staying claims z w' r (tt, (tt, tt)) (tt, (tt, tt)))))))))))))))
