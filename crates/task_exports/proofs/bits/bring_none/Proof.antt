-- `bring_none` makes what owns nothing.
use Rattle.task_exports.proofs.Walks.{ !, [], ◌∷◌, refl, proved, ftrue, tables, ‵, ◌⊛◌, ◌$◌, ◌∵◌, qed, done, keep, use0, fjoin, suffices, enter, returns, no_more, agg, alloc_all, pass_all, free_all, look_at, sets, RattleType, nothing, Stays, walk_of, says, ends_at, makes_shadow, Struct, shape}
use Rattle.std.specs.Prelude.{None}
use Rattle.task_exports.specs.contracts.bits.Brought as made
use Rattle.task_exports.specs.contracts.bits.bring_none as contract
use Rattle.task_exports.proofs.bits.bring_none.Statement.{statement}
use Rattle.task_exports.proofs.bits.bring_none.Code as code
use Rattle.task_exports.proofs.Filled.{nil_val}

abbrev Data : RattleType
Data = Struct (shape made.the_type)

abbrev kept : Stays contract.ended.signature.params contract.ended.kept
kept = tt

pub bring_none_spec : {M : Type 1} → statement M
bring_none_spec 𝓤 𝓛 𝓜 𝓡 wired =
    let claims = contract.clauses 𝓛 𝓜.mem 𝓡.returns in let machine = tables 𝓤 𝓛.H 𝓜 𝓡 𝓡.env in let W = walk_of 𝓛 contract.ended kept claims in
    proved 𝓛 contract.ended kept claims 𝓜 𝓡 tt
    contract.Key.name code.function (code.unfolded 𝓤 𝓛.H 𝓜 𝓡 wired)
    (λ κs. tt) (λ κs. tt) (λ κs qs bounds a _ are.
    let start : W.Ghost = ((κs, qs, bounds, a, tt), tt) in
    qed 𝓛 ((‵ ftrue ⊛ ‵ ftrue) ∷ ‵ ftrue ∷ []) ∵ keep ! [] $
    enter ! _ _ _ _ _ $ alloc_all ! (λ l. pass_all ! refl tt $
    sets ! (agg ! (no_more !)) refl (tt, tt) $
    nothing ! $ use0 𝓛 (‵ (Data.own_val tt (nil_val ∷ []))) (makes_shadow 𝓛 (Data.own_val tt (nil_val ∷ [])) (λ vss. (tt, tt)) (tt, (refl, tt))) $ fjoin ! $
    returns ! (look_at ! 0 refl) $ free_all ! refl $
    suffices ! _ (ends_at 𝓛 contract.ended kept claims start nil_val (record { hand = None }) tt tt) $ says ! refl $ nothing ! $ nothing ! $ done !))
