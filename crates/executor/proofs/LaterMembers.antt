-- What comes next out of a group that was looked at before, when no member came out.
use Rattle.std.proofs.Common.{◌≡◌, ◌∙◌, ℕ, sym, refl, subst}
use Rattle.std.specs.Prelude.{Option, Some, None, Result, Ok, Err}
use Rattle.slab.specs.Slab.{Slab}
use Rattle.task_core.specs.declared.traits.Yields.{Ghosts}
use Rattle.executor_parts.specs.declared.ended.Ended.{Ended}
use Rattle.executor_parts.specs.declared.id.Entry.{Entry}
use Rattle.executor_parts.specs.declared.group.member.Member.{Member}
use Rattle.executor_parts.specs.Members.{Leaves, SameMembers, IfNext}
use Rattle.executor_parts.proofs.Outputs.{came-before}
use Rattle.executor.specs.Members.{TakesMember}

-- who leaves after looks that left the members as they were
next-later : {T U E : Type 0} (first second third : Slab T) (number : U → ℕ) (next : Result (Option U) E) → IfNext next (λ ended. Leaves second third (number ended)) → SameMembers first second → IfNext next (λ ended. Leaves first third (number ended))
next-later first second third number (Ok (Some ended)) leaves same = record {
  was_member = sym (same _) ∙ leaves.was_member;
  left = leaves.left;
  others = λ other differs. leaves.others other differs ∙ same other;
}
next-later first second third number (Ok None) leaves same = leaves
next-later first second third number (Err error) leaves same = leaves

-- what follows from each fact of what came out follows where it is known of what came out, if anything did
if-next : {T E : Type 0} {P Q : T → Type 0} (next : Result (Option T) E) → IfNext next P → ((ended : T) → P ended → Q ended) → IfNext next Q
if-next (Ok (Some ended)) told follows = follows ended told
if-next (Ok None) told follows = told
if-next (Err error) told follows = told

module _ {R F Q M A X B O K L E : Type 0} {G : Ghosts F O} where
  -- after looks by which nobody came out
  pub takes-later : (first second third : Slab (Entry (Member R F Q M A X B O K L G))) (next : Result (Option (Ended F O G)) E) → TakesMember {E = E} first (Ok None) second → TakesMember second next third → TakesMember first next third
  takes-later first second third next before after = record {
    leaves = next-later first second third (λ ended. ended.number) next after.leaves (before.stays refl);
    gives = if-next next after.gives (λ ended. came-before first second ended before.none_more);
    stays = λ out number. after.stays out number ∙ before.stays refl number;
    len = λ out. after.len out ∙ before.len refl;
    none_more = λ number output may. before.none_more number output (after.none_more number output may);
    room = after.room ∙ before.room;
  }

  -- after one more look by which nobody came out
  pub stays-later : (first second third : Slab (Entry (Member R F Q M A X B O K L G))) (next : Result (Option (Ended F O G)) E) → TakesMember {E = E} first (Ok None) second → TakesMember second next third → next ≡ Ok None → TakesMember {E = E} first (Ok None) third
  stays-later first second third next before after is = takes-later first second third (Ok None) before (subst (λ none. TakesMember second none third) is after)

  -- the deadline is over after a look by which nobody came out
  pub takes-none-but-fails : (old new : Slab (Entry (Member R F Q M A X B O K L G))) {error : E} → TakesMember {E = E} old (Ok None) new → TakesMember {E = E} old (Err error) new
  takes-none-but-fails old new stay = record { leaves = tt; gives = tt; stays = λ _. stay.stays refl; len = λ _. stay.len refl; none_more = stay.none_more; room = stay.room }
