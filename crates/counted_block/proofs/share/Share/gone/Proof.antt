-- `gone` is what is left without a share.
use Rattle.counted_block.proofs.Names.{refl, emp, dcons, dnil, inst_fn, fact_i, param, bounded, Types, seven, share_kind}
use Rattle.counted_block.specs.contracts.share.Share.gone as promised
use Rattle.counted_block.proofs.share.Share.gone.Code as code
use Rattle.counted_block.proofs.Owners as owners

pub gone_spec : {M : Type 1} → Rattle.counted_block.proofs.share.Share.gone.Statement.statement M
gone_spec 𝓤 𝓛 𝓜 𝓡 wired S₀ W₀ V₀ K₀ Y₀ T₀ A₀ _ _ _ _ _ _ _ g d h dh dd _ _ _ =
    let types : Types seven = (S₀, (W₀, (V₀, (K₀, (Y₀, (T₀, (A₀, tt))))))) in let at_types = bounded seven types (dcons d (dcons dh (dcons dd dnil))) in
    owners.gone 𝓛 𝓜 𝓡 S₀ W₀ V₀ K₀ Y₀ T₀ A₀ g h (share_kind (param 0 S₀) (param 1 W₀) (param 2 V₀) (param 3 K₀) (param 4 Y₀) (param 5 T₀) (param 6 A₀) g h)
    (promised.ended S₀ W₀ V₀ K₀ Y₀ T₀ A₀ g d h dh dd).signature.outlives (promised.clauses S₀ W₀ V₀ K₀ Y₀ T₀ A₀ g d h dh dd 𝓛 𝓜.mem 𝓡.returns) (inst_fn at_types
    code.function) (promised.Key.name at_types) (code.unfolded 𝓤 𝓛.H 𝓜 𝓡 wired types d dh dd) (λ κs a gh p. fact_i 𝓤 _ (emp 𝓤) (refl, refl, refl, refl, refl, refl))
