-- `one` takes what was brought as what is left of a handle.
use Rattle.task_exports.proofs.Walks.{ !, [], ◌∷◌, refl, ◌≡◌, true, proved, Goes-blank, ftrue, fact, ‵, raw, ◌⊛◌, ◌$◌, ◌∵◌, qed, done, move, keep, use0, split, join, fsplit, fjoin, rewrite, suffices, enter, no_more, agg, returns, alloc_all, pass_all, free_all, look_at, sets, yes, rest, shows, Is, RattleType, plain, nothing, heard, peeks, Stays, walk_of, says, stay_dropped, ends_at, makes_shadow, Struct, shape}
use Rattle.std.specs.Prelude.{Option, Some, None, is_some}
use Rattle.task_exports.specs.Places.{owned_if}
use Rattle.task_exports.specs.contracts.bits.Brought as brought
use Rattle.task_exports.specs.contracts.bits.Left as left
use Rattle.task_exports.proofs.bits.Brought.TheLaws.{lowers, the_row_laws as laws}
use Rattle.task_exports.specs.declared.hand.Hand.{Hand}
use Rattle.task_exports.specs.contracts.calls.crossing.one as contract
use Rattle.task_exports.proofs.calls.crossing.one.Statement.{statement}
use Rattle.task_exports.proofs.calls.crossing.one.Code as code
use Rattle.task_exports.proofs.Filled.{nil_val}

abbrev From : RattleType
From = brought.the_row

abbrev Data : RattleType
Data = Struct (shape left.the_type)

-- what is there
there : (o : Option Hand) → is_some o ≡ true → (k : Hand) × (o ≡ Some k)
there None e = absurd (cc)
there (Some k) e = (k, refl)

abbrev kept : Stays contract.ended.signature.params contract.ended.kept
kept = (stay_dropped (plain (λ _. From)) yes, tt)

pub one_spec : {M : Type 1} → statement M
one_spec 𝓤 𝓛 𝓜 𝓡 wired =
    let claims = contract.clauses 𝓛 𝓜.mem 𝓡.returns in let W = walk_of 𝓛 contract.ended kept claims in
    proved 𝓛 contract.ended kept claims 𝓜 𝓡 (Goes-blank 𝓛 0 (plain (λ _. From)) yes (λ κs x w. tt), tt)
    contract.Key.name code.function (code.unfolded 𝓤 𝓛.H 𝓜 𝓡 wired)
    (λ κs. ((λ d. lowers.lowered d ∷ []), tt)) (λ κs. (lowers.val_is, tt)) (λ κs qs bounds a _ are.
    let d = a.0 in let v = lowers.lowered d in
    let start : W.Ghost = ((κs, qs, bounds, a, (v ∷ [], tt)), tt) in
    qed 𝓛 ((‵ ftrue ⊛ ‵ (From.own_val d (v ∷ [])) ⊛ ‵ ftrue) ∷ raw (fact 𝓤 (is_some d.hand ≡ true)) ∷ []) ∵
    move ! (1 ∷ []) $ heard ! _ (λ is. let k = there d.hand is in split ! $ move ! (1 ∷ []) $ split ! $ peeks ! From (Is From) (shows 𝓛 From) d (v ∷ []) (λ d_is. fsplit ! $ keep ! (1 ∷ []) $
    rewrite ! 0 (λ (o : Option Hand). ‵ (owned_if o)) k.1 refl $
    let typed = ((laws.lawful 𝓛).typed d (v ∷ []) d_is).0 in
    enter ! _ _ _ _ _ $ alloc_all ! (λ l. pass_all ! refl (typed, tt) $
    sets ! (agg ! (no_more !)) refl (tt, tt) $
    use0 𝓛 (‵ (Data.own_val tt (nil_val ∷ []))) (makes_shadow 𝓛 (Data.own_val tt (nil_val ∷ [])) (λ vss. (tt, tt)) (tt, (refl, tt))) $ fjoin ! $
    returns ! (look_at ! 0 refl) $ free_all ! refl $
    suffices ! _ (ends_at 𝓛 contract.ended kept claims start nil_val (record { hand = k.0 }) (rest (From.exit yes) d, tt) (tt, tt)) $ says ! k.1 $ nothing ! $ nothing ! $ join ! $ nothing ! $ done !))))
