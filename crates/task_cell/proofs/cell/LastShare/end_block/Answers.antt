use Rattle.task_cell.proofs.Vocabulary.{ℕ, ap, sym, ◌∙◌, subst, refl, [], ◌∷◌, Witnesses, state_of, First, Second, None, IsEmpty, Waits}
use Rattle.task_cell.proofs.Spawned.{last_word, left_empty}
use Rattle.task_cell.proofs.cell.LastShare.end_block.Goals as goal

pub returns-clause-word : goal.returns-clause-word
returns-clause-word g c = let s = c.requires.party in let b = c.in_ok-close.field-0.value in
    subst (λ (n : ℕ). Witnesses c.args.party.now (state_of n)) (ap (λ z. z.word) (sym (c.into_inner.ensures ∙ c.into_box-whole.ensures)))
    (last_word _ _ _ _ _ c.args.party.now s.0 [] (b.word ∷ []) (First b.first ∷ Second b.second ∷ []) b.word s.1 c.in_ok-close.ensures.block.2 refl)

pub returns-clause-empty : goal.returns-clause-empty
returns-clause-empty g c = let s = c.requires.party in let b = c.in_ok-close.field-0.value in
    subst (λ z. IsEmpty z.first × Waits None z.second) (sym (c.into_inner.ensures ∙ c.into_box-whole.ensures)) (left_empty _ _ _ _ _ c.args.party.now s.0 (b.word ∷ []) b.first b.second s.1 c.requires.last c.in_ok-close.ensures.block.2)
