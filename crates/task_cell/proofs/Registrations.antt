-- What a poll has done for the awaiter that it was lent, over what it did before and does after.
use Rattle.task_cell.proofs.Vocabulary.{◌≡◌, ℕ, Some, List, [], ◌∷◌, ◌++◌, subst, Position, Registered, EndRegister, Deed, Party, position, Did, row, poll_number, awaiter_first}
use Rattle.task_core.specs.declared.traits.Wake.{Ghosts}
use Rattle.task_steps.specs.declared.kept.StoredAwaiter.{StoredAwaiter}
use Rattle.task_cell.specs.Stores.{GivesBack, Registration, is_stored, is_woken, clone_is_woken}
use Rattle.task_cell.proofs.Moved.{did_then}

module _ {F T A : Type 0} (i : ℕ) (stored : StoredAwaiter A) (p q r : Party F T A) (path : List Deed) (at : Position) where
  gave_back_after : Did path at p q → GivesBack i stored q r → GivesBack i stored p r
  gave_back_after f g = record {
    before = path ++ g.before;
    between = g.between;
    word = g.word;
    after = g.after;
    at = g.at;
    number = g.number;
    has = did_then p q g.between path g.before at (Registered i) [] (awaiter_first (Some stored) []) f g.has;
    gives = g.gives;
  }

  gave_back_first : GivesBack i stored p q → Did path at q r → GivesBack i stored p r
  gave_back_first g f = record {
    before = g.before;
    between = g.between;
    word = g.word;
    after = g.after ++ path;
    at = at;
    number = g.number;
    has = g.has;
    gives = did_then g.between q r (row EndRegister g.word ∷ g.after) path g.at at [] [] g.gives f;
  }

module _ {F T A K : Type 0} (G : Ghosts A K) (lent : A) (p q r : Party F T A) (path : List Deed) (at : Position) where
  pub registers_after : Did path at p q → poll_number (position q) ≡ poll_number (position p) → Registration G lent q r → Registration G lent p r
  registers_after f same (is_stored s) = is_stored (s.0, s.1, gave_back_after (poll_number (position p)) s.0 p q r path at f (subst (λ n. GivesBack n s.0 q r) same s.2))
  registers_after f same (is_woken told e) = is_woken told e
  registers_after f same (clone_is_woken clone told e e') = clone_is_woken clone told e e'

  pub registers_first : Registration G lent p q → Did path at q r → Registration G lent p r
  registers_first (is_stored s) f = is_stored (s.0, s.1, gave_back_first (poll_number (position p)) s.0 p q r path at s.2 f)
  registers_first (is_woken told e) f = is_woken told e
  registers_first (clone_is_woken clone told e e') f = clone_is_woken clone told e e'
