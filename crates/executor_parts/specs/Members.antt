use Rattle.std.specs.Prelude.{◌≡◌, ◌≢◌, ℕ, Bool, true, false, Option, Some, None, Result, Ok, Err, is_some, ⊤}
use Rattle.slab.specs.Slab.{Slab, get}

module _ {T : Type 0} where
  -- whether a number is that of a member
  abbrev pub is_member : Slab T → ℕ → Bool
  is_member group number = is_some (get group number)

  -- one joins under a number that no member had, and the others stay
  pub record Joins (old new : Slab T) (number : ℕ) : Type 0 where
    pub was_free : is_member old number ≡ false
    pub joined : is_member new number ≡ true
    pub others : (other : ℕ) → other ≢ number → is_member new other ≡ is_member old other

  -- the member of this number leaves, and the others stay
  pub record Leaves (old new : Slab T) (number : ℕ) : Type 0 where
    pub was_member : is_member old number ≡ true
    pub left : is_member new number ≡ false
    pub others : (other : ℕ) → other ≢ number → is_member new other ≡ is_member old other

  -- the members stay
  abbrev pub SameMembers : Slab T → Slab T → Type 0
  SameMembers old new = (number : ℕ) → is_member new number ≡ is_member old number

module _ {T E : Type 0} where
  -- a fact of what came out of a group, where anything did
  abbrev pub IfNext : Result (Option T) E → (T → Type 0) → Type 0
  IfNext (Ok (Some ended)) holds = holds ended
  IfNext (Ok None) holds = ⊤
  IfNext (Err e) holds = ⊤

  -- whether the group had nobody to wait for
  abbrev pub is_over : Result (Option T) E → Bool
  is_over (Ok (Some ended)) = false
  is_over (Ok None) = true
  is_over (Err e) = false

  -- whether a member came out
  abbrev pub came_out : Result (Option T) E → Bool
  came_out (Ok (Some ended)) = true
  came_out (Ok None) = false
  came_out (Err e) = false
