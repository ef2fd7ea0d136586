-- `gain_share` lends the export what a `&` to a share has, and the bits of that share.
use Rattle.task_exports.proofs.LentWalks.{ !, [], ◌∷◌, ◌≡◌, refl, proved, after, ftrue, flft, fact, named, tables, ‵, raw, ◌⊛◌, some, later, await, at_ret, ◌$◌, ◌∵◌, qed, done, move, keep, use0, use1, use2, split, join, fsplit, fjoin, feq_i, pick, suffices, enter, of_opd, load, look, stop, addr, no_more, and_then, first, blocks, exec, returns, alloc_all, pass_all, free_all, look_at, get, through, sets, sets_last, lands_as, env, yes, shows, Is, Ptr, ptr_val, rawptr_vals, rawptr_Lawful, plain, nothing, heard, drop, peeks, id⊢, emp, fact_i, Stays, walk_of, says, stay_dropped, Goes-dropped, ends_at, Lft, Share, RefOf, shr_vals, shr_Tells, calls_at, lasts, triple_of, framed}
use Rattle.task_exports.proofs.Shown.{bits_in, bits_out, shows_bits}
use Rattle.task_exports.specs.Answers.{Gains}
use Rattle.task_exports.specs.Lent.{IsShareOf, Loan}
use Rattle.task_exports.specs.declared.hand.Hand.{Hand}
use Rattle.task_exports.specs.declared.hand.Lent.{Lent}
use Rattle.task_exports.specs.declared.bits.Brings.{Brings}
use Rattle.task_exports.specs.contracts.hand.Lent.{the_row as Row}
use Rattle.task_exports.specs.contracts.bits.Brings.{the_row as Out}
use Rattle.task_exports.proofs.bits.Brings.TheLaws.{the_row_laws as laws}
use Rattle.task_exports.specs.contracts.calls.lending.gain_share as f
use Rattle.task_exports.proofs.calls.lending.gain_share.Statement.{statement}
use Rattle.task_exports.proofs.calls.lending.gain_share.Code as code
use Rattle.task_exports.specs.contracts.lent.async_task_gain as g
use Rattle.task_exports.proofs.lent.async_task_gain.Met.{met}
use denote.RattleType.{owns}
use denote.RawPtr.{block_ptr}
use denote.Signature.{types_at}

abbrev stayed : Stays f.ended.signature.params f.ended.kept
stayed = (stay_dropped (RefOf (0 ∷ []) tt (plain (λ _. Row)) (λ _. tt)) yes, tt)

abbrev Says : Lent → Brings → Type 0
Says x r = (y : Hand) → IsShareOf y x → Gains y r.brought.hand r.number

pub gain_share_spec : {M : Type 1} → statement M
gain_share_spec 𝓤 𝓛 𝓜 𝓡 wired =
    let H = 𝓛.H in let c = f.clauses 𝓛 𝓜.mem 𝓡.returns in let W = walk_of 𝓛 f.ended stayed c in let 𝓣 = tables 𝓤 𝓛.H 𝓜 𝓡 𝓡.env in
    proved 𝓛 f.ended stayed c 𝓜 𝓡 (Goes-dropped 𝓛 1 (RefOf (0 ∷ []) tt (plain (λ _. Row)) (λ _. tt)) yes (λ κs x w. refl), tt)
    f.Key.name code.function (code.unfolded 𝓤 𝓛.H 𝓜 𝓡 wired)
    (λ κs. (shr_vals, tt)) (λ κs. (shr_Tells (named 0) κs.0 Row, tt)) (λ κs qs bounds a _ are.
    let κ : Lft = κs.0 in let q : Share = qs.0 in let b = a.0.ref_ptr.0 in let o = a.0.ref_ptr.1 in let x : Lent = a.0.now in let p : Ptr = x.share.block.at in
    let y : W.Ghost = ((κs, qs, bounds, a, (shr_vals a.0, tt)), tt) in
    let p_typed = ((rawptr_Lawful 𝓛).typed p (ptr_val p ∷ []) refl).0 in
    qed 𝓛 (((‵ (flft κ q) ⊛ ‵ ftrue) ⊛ ‵ (owns (types_at f.ended.signature.params κs) a y.0.4)) ∷ ‵ ftrue ∷ []) ∵
    split ! $ split ! $ move ! (2 ∷ []) $ fsplit ! $ fsplit ! $ keep ! (1 ∷ 3 ∷ []) $
    -- [what a `&` has; the token]
    enter ! _ _ _ _ _ $ alloc_all ! (λ l. pass_all ! refl ((tt, tt), tt) $
    sets ! (addr ! (through ! refl (stop !))) refl (tt, tt) $ sets ! (of_opd ! (get ! refl)) refl (tt, tt) $
    -- the pointer is read through the `&`
    bits_in ! tt p b o (shows_bits 𝓛 κ x b o) (λ s.
    first ! $ blocks ! $ sets_last ! (of_opd ! (load ! (through ! refl (stop !)) (look ! 0 refl))) refl p_typed $
    exec ! 𝓣.C 𝓣.Λ (env code.Mir.locals l) (after 3 (code.function).body) (at_ret (env code.Mir.locals l) (W.post y)) $
    bits_out ! tt p b o $ sets ! (of_opd ! (get ! refl)) refl p_typed $
    -- [the token; what a `&` has]: they are lent
    move ! (1 ∷ []) $ nothing ! $ fjoin ! $ fjoin ! $
    let loan : Loan = record { life = κ; part = q; lent = x; place = block_ptr b o } in
    let G = triple_of 𝓛 g.signature (g.spec 𝓛 𝓜.mem 𝓡.returns) in
    let z : G.Ghost = ((tt, tt, tt, (p, tt), (rawptr_vals p, tt)), loan) in
    use0 𝓛 (raw (fact 𝓤 (p ≡ p))) (fact_i 𝓤 (p ≡ p) (emp 𝓤) refl) $ move ! (1 ∷ 0 ∷ []) $ join ! $
    feq_i ! _ (rawptr_vals p) _ refl $ nothing ! $ move ! (1 ∷ 0 ∷ []) $ join ! $ nothing ! $ join ! $ use2 𝓛 (raw (G.pre z)) (id⊢ 𝓤 _) $
    calls_at ! (framed 𝓤 H 𝓜 𝓣) G (met 𝓤 𝓛 𝓜 𝓡 (code.calls-task_exports::lent::async_task_gain 𝓡.env wired)) z (and_then ! (get ! refl) (no_more !)) (λ v.
    use1 𝓛 (later (some (λ (r : Brings). (‵ ftrue ⊛ ‵ (Out.own_val r (v ∷ []))) ⊛ some (λ (ws : Unit {0} × Unit {0}). ‵ (lasts g.ended tt (p, tt) ws) ⊛ ‵ (flft κ q) ⊛ raw (fact 𝓤 (Says x r)))))) (id⊢ 𝓤 _) $
    await ! tt $ pick ! (λ r. split ! $ split ! $ move ! (2 ∷ []) $ pick ! (λ ws. split ! $ drop ! $ split ! $ move ! (1 ∷ []) $ heard ! _ (λ says_so.
    -- [the token; nothing; the result]
    move ! (2 ∷ []) $ peeks ! Out (Is Out) (shows 𝓛 Out) r (v ∷ []) (λ typed. lands_as ! refl refl ((laws.lawful 𝓛).typed r _ typed).0 $
    returns ! (look_at ! 0 refl) $ free_all ! refl $
    suffices ! _ (ends_at 𝓛 f.ended stayed c y v r (tt, tt) (tt, tt)) $ says ! says_so $ keep ! (0 ∷ 1 ∷ []) $
    nothing ! $ nothing ! $ join ! $ nothing ! $ move ! (3 ∷ 0 ∷ []) $ join ! $ done !))))))))
