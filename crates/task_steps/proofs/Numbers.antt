-- A number names one word.
use Rattle.std.proofs.Common.{◌≡◌, ℕ, sym, ap, ◌∙◌}
use Rattle.task_steps.proofs.Vocabulary.{State, state_of, number_of, state_of_number_of}

-- the word that a number names is the machine's
pub same_word : (m w : State) (n : ℕ) → n ≡ number_of w → n ≡ number_of m → m ≡ w
same_word m w n e f = sym (state_of_number_of m) ∙ (ap state_of (sym f ∙ e) ∙ state_of_number_of w)
