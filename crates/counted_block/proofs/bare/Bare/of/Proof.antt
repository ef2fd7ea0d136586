-- `of` takes the box apart.
use Rattle.counted_block.proofs.Names.{◌≡◌, List, [], ◌∷◌, ◌++◌, sym, refl, ap, ◌∙◌, subst, a_type, dcons, dnil, Val, inst_fn, SProp, ent, emp, id⊢, ftrue, fsep, flft, sem}
use Rattle.counted_block.proofs.Names.{‵, raw, ◌⊛◌, some, later, ◌$◌, ◌∵◌, !, qed, by, move, keep, drop, split, join, fsplit, fjoin, pick, suffices, use0, use1, await, feq_l, get}
use Rattle.counted_block.proofs.Names.{of_opd, no_more, and_then, returns, enter, alloc_all, pass_all, free_all, look_at, sets, lands_as, agg, tables, fact, fact_i, ◌⊑◌, no, RattleType, plain}
use Rattle.counted_block.proofs.Names.{Ptr, RawPtr, block_ptr, ptr_val, nothing, only, heard, bounded, triple_of, Stays, stay_dropped, walk_of, proved_at, leaves, fm, never, fst∗, WpFn, Item}
use Rattle.counted_block.proofs.Names.{layout, null_ptr, in_a_block, calls_at, token, Goes-blank, box_owns, box_out, box_in, ptr_and_marker, PairData, pair_made}
use mir.Raw.{raw as bare_ty}
use Rattle.std.proofs.BoxSteps.Form as box
use Rattle.std.specs.contracts.boxed.Box.into_raw as callee
use Rattle.std.proofs.boxed.Box.into_raw.Met as callee_met
use Rattle.counted_block.specs.contracts.bare.Bare as bare
use Rattle.counted_block.specs.contracts.bare.Bare.of as promised
use Rattle.counted_block.proofs.bare.Bare.of.Code as code

pub of_spec : {M : Type 1} → Rattle.counted_block.proofs.bare.Bare.of.Statement.statement M
of_spec 𝓤 𝓛 𝓜 𝓡 wired X Z L LZ g d dx dd met glue md =
    let H = 𝓛.H in let machine = tables 𝓤 H 𝓜 𝓡 𝓡.env in let E : box.Bx = record { row = X; laws = L; al = record { row = Z; laws = LZ; g = g; d = d; drops = dd } } in
    let R : RattleType = box.R E in let P : RattleType = box.P E in let B : RattleType = box.B E in let Br : RattleType = bare.the_row R P g in let promise = promised.ended X Z g d dx dd in
    let at_types = bounded (a_type ∷ a_type ∷ []) (X, (Z, tt)) (dcons d (dcons dx (dcons dd dnil))) in let routine = inst_fn at_types code.function in
    let claims = promised.clauses X Z g d dx dd 𝓛 𝓜.mem 𝓡.returns in let Parts = triple_of 𝓛 (callee.signature X Z g d dd dx) (callee.spec X Z g d dd dx 𝓛 𝓜.mem 𝓡.returns) in
    let known = callee_met.met 𝓤 𝓛 𝓜 𝓡 (code.calls-std_alloc::boxed::Box::into_raw 𝓡.env wired) X Z L LZ g d dd dx met md glue in
    let staying : Stays promise.signature.params promise.kept = (stay_dropped (plain (λ _. B)) no, tt) in proved_at 𝓛 promise staying claims 𝓜 𝓡
    (Goes-blank 𝓛 2 (plain (λ _. B)) no (λ κs x f. tt), tt) (promised.Key.name at_types) routine (code.unfolded 𝓤 H 𝓜 𝓡 wired (X, (Z, tt)) d dx dd) (λ z are. let κs = z.0.0 in
    let qs = z.0.1 in let t₁ : Item 𝓤 = ‵ (flft κs.0 qs.0) in let t₂ : Item 𝓤 = ‵ (flft κs.1.0 qs.1.0) in let inX = κs.0 ⊑ X.lives in let inZ = κs.1.0 ⊑ Z.lives in
    let returned : Val → SProp 𝓤 = (walk_of 𝓛 promise staying claims).post z in let Run : List Val → SProp 𝓤 = λ ws. WpFn 𝓤 H machine.C machine.Λ routine ws returned in
    let v : B.Denot = z.0.3.0 in let a : Z.Denot = v.alloc in let x : X.Denot = v.value in qed 𝓛 (((t₁ ⊛ t₂ ⊛ ‵ ftrue) ⊛ ‵ (fsep (B.own_val v z.0.4.0) ftrue)) ∷
    raw (fact 𝓤 inX) ∷ raw (fact 𝓤 inZ) ∷ ‵ ftrue ∷ []) ∵ move ! (1 ∷ 2 ∷ []) $ heard ! inX (λ leX. heard ! inZ (λ leZ. split ! $ move ! (1 ∷ []) $ fsplit ! $
    box_out E ! v z.0.4.0 (λ b o hv e ws fa. box_in E ! v b o x e refl $ keep ! (0 ∷ 2 ∷ []) $ let w : Val = box.word E hv b o in let typed = box.box_typed E hv b o fa in
    let start : Parts.Ghost = ((κs, qs, tt, (v, tt), (w ∷ [], tt)), tt) in suffices ! (Run (w ∷ [])) (subst (λ (us : List Val). ent 𝓤 (Run (w ∷
    [])) (Run us)) (sym (λ i. ws i ++ [])) (id⊢ 𝓤 (Run (w ∷ [])))) $ enter ! machine.C machine.Λ routine (w ∷ []) returned $ alloc_all ! (λ l. pass_all ! refl (typed, tt) $
    sets ! (of_opd ! (get ! refl)) refl typed $ nothing ! $ move ! (1 ∷ 0 ∷ []) $ fjoin ! $ move ! (1 ∷ 0 ∷ []) $ join ! $ nothing ! $ use0 𝓛 (raw (fact 𝓤 inZ)) (fact_i 𝓤 inZ (emp
    𝓤) leZ) $ join ! $ use0 𝓛 (raw (fact 𝓤 inX)) (fact_i 𝓤 inX (emp 𝓤) leX) $ join ! $ move ! (1 ∷ 0 ∷ []) $ join ! $ use1 𝓛 (raw (Parts.pre start)) (id⊢ 𝓤 _) $
    calls_at ! (fm 𝓛 𝓜 𝓡) Parts known start (and_then ! (get ! refl) (no_more !)) (λ u. use1 𝓛 (later (some (λ (r : Ptr). ((t₁ ⊛ t₂ ⊛ ‵ ftrue) ⊛
    ‵ (RawPtr.own_val r (u ∷ []))) ⊛ some (λ (_ : (Unit {0} × (Unit {0} × Unit {0})) × Unit {0}). ‵ (fsep (fsep ftrue (fsep ftrue ftrue)) ftrue) ⊛
    ‵ (box_owns (token E.al a) R r x))))) (id⊢ 𝓤 _) $ await ! tt $ pick ! (λ r. split ! $ move ! (1 ∷ []) $ pick ! (λ _. split ! $ drop ! $
    in_a_block ! r (λ p. box_owns (token E.al a) R p x) (fst∗ 𝓤 (never 𝓤) (sem 𝓛 (token E.al a (bare_ty (layout X)) null_ptr))) (λ b' o' e'. let p : Ptr = block_ptr b' o' in
    move ! (1 ∷ []) $ split ! $ move ! (1 ∷ []) $ feq_l ! (λ eu. lands_as ! (ap only eu ∙ ap ptr_val e') refl (tt, tt) $ sets ! (agg ! (no_more !)) refl (tt, tt) $
    sets ! (agg ! (and_then ! (get ! refl) (and_then ! (get ! refl) (no_more !)))) refl (tt, (tt, (tt, tt))) $ move ! (1 ∷ []) $ use0 𝓛 (‵ (PairData.own_val (p, (tt, tt)) (ptr_and_marker p
    ∷ []))) (pair_made 𝓛 p) $ fjoin ! $ let br : Br.Denot = record { at = p; marker = record {}; value = x; heap = a } in let Told : Type 0 = (x ≡ x) × (a ≡ a) in
    use0 𝓛 (raw (fact 𝓤 Told)) (fact_i 𝓤 Told (emp 𝓤) (refl, refl)) $ nothing ! $ nothing ! $ fjoin ! $ returns ! (look_at ! 0 refl) $ free_all ! refl $ keep ! (3 ∷ 0 ∷ 2 ∷ 1 ∷
    []) $ by ! (leaves 𝓛 promise staying claims z (ptr_and_marker p) br ((tt, (tt, tt)), tt) (tt, tt))))))))))))
