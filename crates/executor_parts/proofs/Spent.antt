-- What calls do to ids that are spent.
use Rattle.std.proofs.Common.{◌≡◌, ◌≤◌, ℕ, Option, Some, None, inl, inr, ap, sym, ◌∙◌, arith, is_some, refl}
use Rattle.std.specs.Prelude.{option_map}
use Rattle.executor_parts.specs.Members.{SameMembers}
use Rattle.std.proofs.lemmas.Bool.{cases_eq}
use Rattle.slab.specs.Slab.{Slab, Updates, get}
use Rattle.executor_parts.specs.Generations.{SameGenerations, StaySpent, generation_at}
use Rattle.executor_parts.specs.declared.id.Entry.{Entry}

module _ {T : Type 0} where
  -- where the members are the same, the same ids are spent
  pub same-spent : (joined : ℕ) (old new : Slab (Entry T)) → SameGenerations old new → StaySpent joined old joined new
  same-spent joined old new same id spent = record {
    given = spent.given;
    nobody = λ found. spent.nobody (sym (same id.number) ∙ found);
  }

  abbrev generation : Option (Entry T) → Option ℕ
  generation = option_map (λ entry. entry.generation)

  is_some-generation : (entry : Option (Entry T)) → is_some (generation entry) ≡ is_some entry
  is_some-generation (Some entry) = refl
  is_some-generation None = refl

  -- where each number is that of the same member, the members are the same
  pub same-members : (old new : Slab (Entry T)) → SameGenerations old new → SameMembers old new
  same-members old new same number = sym (is_some-generation (get new number)) ∙ ap is_some (same number) ∙ is_some-generation (get old number)

  -- a member leaves
  pub leaves-spent : (joined : ℕ) (old new : Slab (Entry T)) (number : ℕ) → Updates old new number None → StaySpent joined old joined new
  leaves-spent joined old new number left id spent = record {
    given = spent.given;
    nobody = elim (cases_eq id.number number) [
      | inl same ↦ λ found. grind (arith, found, ap (generation_at new) same, ap generation left.changed)
      | inr differs ↦ λ found. spent.nobody (sym (ap generation (left.others id.number differs)) ∙ found)
    ];
  }

  -- a member is taken out, and put back under its number
  pub put-back : (old mid new : Slab (Entry T)) (number key : ℕ) (out back : Entry T) → get old number ≡ Some out → Updates old mid number None → key ≡ number → Updates mid new key (Some back) → back.generation ≡ out.generation → SameGenerations old new
  put-back old mid new number key out back was taken again put same other = elim (cases_eq other key) [
    | inl here ↦ ap (generation_at new) here ∙ ap generation put.changed ∙ ap Some same ∙ sym (ap generation was) ∙ sym (ap (generation_at old) (here ∙ again))
    | inr differs ↦ ap generation (put.others other differs) ∙ ap generation (taken.others other (λ e. differs (e ∙ sym again)))
  ]

  -- one joins whose generation no spent id has
  pub joins-spent : (had_joined have_joined : ℕ) (old new : Slab (Entry T)) (number : ℕ) (entry : Entry T) → Updates old new number (Some entry) → entry.generation ≡ had_joined → had_joined ≤ have_joined → StaySpent had_joined old have_joined new
  joins-spent had_joined have_joined old new number entry put is more id spent = record {
    given = let given = spent.given in omega (arith, given, more);
    nobody = elim (cases_eq id.number number) [
      | inl same ↦ λ found. let found' : Some entry.generation ≡ Some id.generation = sym (ap generation put.changed) ∙ sym (ap (generation_at new) same) ∙ found in let given = spent.given in grind (arith, found', given, is)
      | inr differs ↦ λ found. spent.nobody (sym (ap generation (put.others id.number differs)) ∙ found)
    ];
  }
