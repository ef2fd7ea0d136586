use Rattle.std.specs.Prelude.{◌≡◌, Option, Result, false}
use Rattle.slab.specs.Slab.{Slab, slab_len}
use Rattle.task_core.specs.declared.traits.Yields.{Ghosts}
use Rattle.executor_parts.specs.declared.ended.Ended.{Ended}
use Rattle.executor_parts.specs.declared.id.Entry.{Entry}
use Rattle.executor_parts.specs.declared.group.member.Member.{Member}
use Rattle.executor_parts.specs.Members.{Leaves, SameMembers, IfNext, came_out}
use Rattle.executor_parts.specs.Outputs.{CameFrom, NoneGivesMore}

module _ {R F Q M A X B O K L E : Type 0} {G : Ghosts F O} where
  -- one member comes out of a group with what it may give, or all stay
  pub record TakesMember (old : Slab (Entry (Member R F Q M A X B O K L G))) (next : Result (Option (Ended F O G)) E) (new : Slab (Entry (Member R F Q M A X B O K L G))) : Type 0 where
    pub leaves : IfNext next (λ ended. Leaves old new ended.number)
    pub gives : IfNext next (CameFrom old)
    pub stays : came_out next ≡ false → SameMembers old new
    pub len : came_out next ≡ false → slab_len new ≡ slab_len old
    pub none_more : NoneGivesMore old new
    pub room : new.capacity ≡ old.capacity
