-- `fetch_or` is a fetch, and the seat goes with it.
use Rattle.counted_block.proofs.Names.{[], ◌∷◌, sym, refl, picked, inst_fn, ors, bit_or, dcons, dnil, Types, bounded, eight}
use Rattle.core.proofs.raw_atomic.fetch_or.Symbol as called
use Rattle.counted_block.specs.contracts.share.Share.fetch_or as promised
use Rattle.counted_block.proofs.share.Share.fetch_or.Code as code
use Rattle.counted_block.proofs.Heard.{hears, says_both}
use Rattle.counted_block.proofs.Owners as owners

pub fetch_or_spec : {M : Type 1} → Rattle.counted_block.proofs.share.Share.fetch_or.Statement.statement M
fetch_or_spec 𝓤 𝓛 𝓜 𝓡 wired S₀ W₀ V₀ K₀ Y₀ T₀ A₀ M₀ _ _ _ _ _ _ _ _ g d h dh dd m dm _ _ _ _ =
    let types : Types eight = (S₀, (W₀, (V₀, (K₀, (Y₀, (T₀, (A₀, (M₀, tt)))))))) in let at_types = bounded eight types (dcons d (dcons dh (dcons dd (dcons dm dnil)))) in
    owners.fetched 𝓛 𝓜 𝓡 S₀ W₀ V₀ K₀ Y₀ T₀ A₀ g h M₀ d dh dd m dm (λ w n. bit_or n w) (promised.clauses S₀ W₀ V₀ K₀ Y₀ T₀ A₀ M₀ g d h dh dd m dm 𝓛
    𝓜.mem 𝓡.returns) (inst_fn at_types code.function) (called.name picked) (promised.Key.name at_types) (ors 𝓛 𝓜 𝓡 (code.calls-std::sync::atomic::raw::fetch_or 𝓡.env wired))
    (code.unfolded 𝓤 𝓛.H 𝓜 𝓡 wired types d dh dd dm) (λ κs a gh X G go. hears 𝓛 X G _ (_ ∷ _ ∷ _ ∷ _ ∷ _ ∷ _ ∷ _ ∷ _ ∷ _ ∷ _ ∷
    []) (λ _ _ _ _ _ _ _ _. go)) (λ κs a gh n u same so live. says_both 𝓛 _ _ (sym same, refl, so) live)
