-- `load` is a step on the word that changes nothing, and the seat goes with it.
use Rattle.counted_block.proofs.Names.{[], ◌∷◌, ◌≡◌, sym, refl, picked, inst_fn, loads, param, content, step, last_kind, dcons, dnil, Types, bounded, eight}
use mathlib.Core.Option as maybe
use Rattle.core.proofs.raw_atomic.load.Symbol as called
use Rattle.counted_block.specs.contracts.last.LastShare.load as promised
use Rattle.counted_block.proofs.last.LastShare.load.Code as code
use Rattle.counted_block.proofs.Moving as moving
use Rattle.counted_block.proofs.Heard.{hears, says_both}
use Rattle.counted_block.proofs.Owners as owners

pub load_spec : {M : Type 1} → Rattle.counted_block.proofs.last.LastShare.load.Statement.statement M
load_spec 𝓤 𝓛 𝓜 𝓡 wired S₀ W₀ V₀ K₀ Y₀ T₀ A₀ M₀ _ _ _ _ _ _ _ _ g d h dh dd m dm _ _ _ _ =
    let types : Types eight = (S₀, (W₀, (V₀, (K₀, (Y₀, (T₀, (A₀, (M₀, tt)))))))) in let at_types = bounded eight types (dcons d (dcons dh (dcons dd (dcons dm dnil)))) in
    owners.loaded 𝓛 𝓜 𝓡 S₀ W₀ V₀ K₀ Y₀ T₀ A₀ g h (last_kind (param 0 S₀) (param 1 W₀) (param 2 V₀) (param 3 K₀) (param 4 Y₀) (param 5 T₀) (param 6 A₀) g h) M₀
    m (promised.ended S₀ W₀ V₀ K₀ Y₀ T₀ A₀ M₀ g d h dh dd m dm).signature.outlives (λ n. g.out n ≡ 0) (promised.clauses S₀ W₀ V₀ K₀ Y₀ T₀ A₀ M₀ g d h dh dd m dm
    𝓛 𝓜.mem 𝓡.returns) (inst_fn at_types code.function) (called.name picked) (promised.Key.name at_types) (loads 𝓛 𝓜 𝓡 (code.calls-std::sync::atomic::raw::load 𝓡.env wired))
    (code.unfolded 𝓤 𝓛.H 𝓜 𝓡 wired types d dh dd dm) (λ κs a gh X G go. hears 𝓛 X G _ (_ ∷ _ ∷ _ ∷ _ ∷ _ ∷ _ ∷ _ ∷ _ ∷ _ ∷
    []) (λ _ _ _ _ _ _ _ _ same allows. go same allows (λ r. moving.looks_alone 𝓛 (param 0 S₀) (param 1 W₀) (param 2 V₀).coded (g.holds a.0.now.key) g.out (content (param 0 S₀) (param 1
    W₀) (param 5 T₀) (h.dealloc_token a.0.now.heap) a.0.now.id a.0.now.value) a.0.now.id a.1.0.now.id a.1.0.now.me (λ n. n) (m.then a.0.now.key (step 2 0 0 0 maybe.none) a.1.0.now.me) allows r
    (λ _. refl)))) (λ κs a gh n u same so live. says_both 𝓛 _ _ (sym same, refl, so) live)
