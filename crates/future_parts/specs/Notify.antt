use Rattle.std.specs.Prelude.{◌≡◌, ◌+◌, ◌<◌, ◌≤◌, [], ◌∷◌, ℕ, List, Option, IsSome, length}
use Rattle.std.specs.Option.{option_to_list}
use Rattle.future_parts.specs.declared.asked.permits.Permits.{Permits}
use Rattle.future_parts.specs.declared.asked.line.Waiter.{Waiter}
use Rattle.future_parts.specs.declared.due.Step.{Step}
use Rattle.future_parts.specs.declared.due.Step.TheVariants.{Next, Done}
use Rattle.future_parts.specs.declared.notify.notices.Notice.{Notice}
use Rattle.future_parts.specs.Asked.{waiting, FirstOut, Same, SameRest}

module _ {W : Type 0} where
  -- the waiter that came first was notified, and is woken; where none waited one notification is kept
  pub record Notified (old new : Permits W) (woken : Option W) : Type 0 where
    pub first : FirstOut (waiting old.line) woken (waiting new.line)
    pub given : new.given ≡ old.given + length (option_to_list woken)
    pub kept : new.free + length (option_to_list woken) ≡ 1
    pub rest : SameRest old new

  -- no waiter comes first with a number below the limit
  abbrev pub NoneBelow : ℕ → List (Waiter W) → Type 0
  NoneBelow limit [] = Unit {0}
  NoneBelow limit (first ∷ others) = limit ≤ first.number

  -- the waiter that comes first has a number below the limit
  abbrev pub FirstBelow : ℕ → List (Waiter W) → Type 0
  FirstBelow limit [] = ⊥
  FirstBelow limit (first ∷ others) = first.number < limit

  -- a step notified the waiter that came first, and goes on with the same limit; or none below the limit comes first
  abbrev pub Told : ℕ → Permits W → Permits W → Step W Notice → Type 0
  Told limit old new (Next due rest) = FirstBelow limit (waiting old.line) × IsSome due.waker × Notified old new due.waker × (rest.limit ≡ limit)
  Told limit old new Done = NoneBelow limit (waiting old.line) × Same old new
