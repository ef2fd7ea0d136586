-- What was taken out of the awaiter's place by a caller.
use Rattle.std.proofs.Common.{◌≡◌, ℕ, false, List, [], ◌∷◌, Option, Some, None, refl, sym, ◌∙◌}
use Rattle.std.specs.Prelude.{IfSome, nat_eq}
use Rattle.task_core.specs.Word.{State}
use Rattle.task_core.specs.declared.acts.Act.TheVariants.{EndNotify}
use Rattle.task_cell.proofs.Moved.{stands}
use Rattle.task_cell.specs.Calls.{DidWith}
use Rattle.task_cell.specs.declared.cell.Party.{Party}
use Rattle.task_exports.proofs.Numbers.{differs}
use Rattle.task_exports.specs.Answers.{IsFull}
use Rattle.task_exports.specs.Parties.{Keeps}
use Rattle.task_exports.specs.TaskAnswers.{AtPlace, Releases, TakesPlace, in_hand, none_there}
use Rattle.task_exports.specs.declared.handle.Handle.{Handle}
use Rattle.task_laws.specs.declared.positions.NotifyingCall.{NotifyingCall}
use Rattle.task_laws.specs.declared.positions.Position.{Position}
use Rattle.task_laws.specs.declared.positions.Position.TheVariants.{AwaiterInHand, Releaser}
use Rattle.task_steps.specs.Deeds.{row}
use Rattle.task_steps.specs.Steps.{awaiter_first}
use Rattle.task_steps.specs.declared.table.Deed.{Deed}
use Rattle.task_steps.specs.Rule.{TaskPlace}

module _ {F T A : Type 0} where
  -- a party that has taken the place stands at it
  pub at_taken : (way : NotifyingCall) (held : List (ℕ × TaskPlace F T A)) (path : State → List Deed) (p q : Party F T A) → TakesPlace way path held p q → AtPlace way held q
  at_taken way held path p q t = (t.1, t.2, t.4, stands p q (path t.0) (Releaser t.1 way) (awaiter_first t.2 held) t.5)

  -- by this answer what lay there is in hand
  pub released_hand : (way : NotifyingCall) (held : List (ℕ × TaskPlace F T A)) (after : List Deed) (at : Position) (answer : ℕ) (p q : Party F T A) (a : ℕ) → nat_eq answer 14 ≡ false → Releases way held after at answer p q a → a ≡ 14
      → (v : State) × (i : ℕ) × DidWith (row EndNotify v ∷ []) (AwaiterInHand i way) held p q
  released_hand way held after at answer p q _ ne (in_hand v i g) e = (v, i, g)
  released_hand way held after at answer p q _ ne (none_there v g) e = differs answer 14 ne refl e

  -- by this one nothing lay there, and the party has gone on
  pub released_none : (way : NotifyingCall) (held : List (ℕ × TaskPlace F T A)) (after : List Deed) (at : Position) (answer : ℕ) (p q : Party F T A) (a : ℕ) → nat_eq answer 14 ≡ false → Releases way held after at answer p q a → a ≡ answer
      → (v : State) × DidWith (row EndNotify v ∷ after) at held p q
  released_none way held after at answer p q _ ne (in_hand v i g) e = differs answer 14 ne refl (sym e)
  released_none way held after at answer p q _ ne (none_there v g) e = (v, g)

-- what a place keeps, through two calls
pub keeps_then : (a b c : Handle) → Keeps a b → Keeps b c → Keeps a c
keeps_then a b c x y = (y.0, y.1, y.2 ∙ x.2, y.3 ∙ x.3, y.4 ∙ x.4)

pub keeps_itself : (a : Handle) → IsFull a → Keeps a a
keeps_itself a f = (f.0, f.1.0, refl, refl, refl)

pub keeps_on : {X : Type 0} (o : Option X) (a b c : Handle) → Keeps a b → IfSome o (λ _. Keeps b c) → IfSome o (λ _. Keeps a c)
keeps_on None a b c x y = y
keeps_on (Some u) a b c x y = keeps_then a b c x y
