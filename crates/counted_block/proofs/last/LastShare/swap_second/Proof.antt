-- `swap_second` swaps by the last share.
use Rattle.counted_block.proofs.Names.{[], ◌∷◌, sym, refl, emp, dcons, dnil, inst_fn, fact_i, param, bounded, Types, seven, last_kind}
use Rattle.counted_block.specs.contracts.last.LastShare.swap_second as promised
use Rattle.counted_block.proofs.last.LastShare.swap_second.Code as code
use Rattle.counted_block.proofs.Heard.{hears}
use Rattle.counted_block.proofs.Owners as owners

pub swap_second_spec : {M : Type 1} → Rattle.counted_block.proofs.last.LastShare.swap_second.Statement.statement M
swap_second_spec 𝓤 𝓛 𝓜 𝓡 wired S₀ W₀ V₀ K₀ Y₀ T₀ A₀ _ LW _ _ _ _ _ g d h dh dd _ _ _ =
    let types : Types seven = (S₀, (W₀, (V₀, (K₀, (Y₀, (T₀, (A₀, tt))))))) in let at_types = bounded seven types (dcons d (dcons dh (dcons dd dnil))) in
    owners.swap_second 𝓛 𝓜 𝓡 S₀ W₀ V₀ K₀ Y₀ T₀ A₀ g h (last_kind (param 0 S₀) (param 1 W₀) (param 2 V₀) (param 3 K₀) (param 4 Y₀) (param 5 T₀) (param 6 A₀) g h)
    (promised.ended S₀ W₀ V₀ K₀ Y₀ T₀ A₀ g d h dh dd).signature.outlives (promised.clauses S₀ W₀ V₀ K₀ Y₀ T₀ A₀ g d h dh dd 𝓛 𝓜.mem 𝓡.returns) LW (inst_fn
    at_types code.function) (promised.Key.name at_types) (code.unfolded 𝓤 𝓛.H 𝓜 𝓡 wired types d dh dd) (λ κs a gh X G go. hears 𝓛 X G _ (_ ∷ _ ∷ _ ∷ _ ∷ _ ∷ _ ∷ _ ∷
    _ ∷ []) (λ _ _ _ _ _ _ _. go)) (λ κs a gh old same taken. fact_i 𝓤 _ (emp 𝓤) (sym same, refl, taken, refl))
