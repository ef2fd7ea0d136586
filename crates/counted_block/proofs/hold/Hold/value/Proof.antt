-- `value` shows what every hold sees.
use Rattle.counted_block.proofs.Names.{emp, dcons, dnil, inst_fn, fact_i, param, bounded, Types, seven, hold_kind}
use Rattle.counted_block.specs.contracts.hold.Hold.value as promised
use Rattle.counted_block.proofs.hold.Hold.value.Code as code
use Rattle.counted_block.proofs.Owners as owners

pub value_spec : {M : Type 1} → Rattle.counted_block.proofs.hold.Hold.value.Statement.statement M
value_spec 𝓤 𝓛 𝓜 𝓡 wired S₀ W₀ V₀ K₀ Y₀ T₀ A₀ _ _ _ _ _ LT _ g d h dh dd _ _ _ =
    let types : Types seven = (S₀, (W₀, (V₀, (K₀, (Y₀, (T₀, (A₀, tt))))))) in let at_types = bounded seven types (dcons d (dcons dh (dcons dd dnil))) in
    owners.value 𝓛 𝓜 𝓡 S₀ W₀ V₀ K₀ Y₀ T₀ A₀ g h (hold_kind (param 0 S₀) (param 1 W₀) (param 2 V₀) (param 3 K₀) (param 4 Y₀) (param 5 T₀) (param 6 A₀) g h)
    (promised.ended S₀ W₀ V₀ K₀ Y₀ T₀ A₀ g d h dh dd).signature.outlives LT (promised.clauses S₀ W₀ V₀ K₀ Y₀ T₀ A₀ g d h dh dd 𝓛 𝓜.mem 𝓡.returns) (inst_fn
    at_types code.function) (promised.Key.name at_types) (code.unfolded 𝓤 𝓛.H 𝓜 𝓡 wired types d dh dd) (λ κs a gh r so. fact_i 𝓤 _ (emp 𝓤) so)
