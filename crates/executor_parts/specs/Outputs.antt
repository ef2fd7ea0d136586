-- Which outputs the members of a group may come out with.
use Rattle.std.specs.Prelude.{◌≡◌, ◌≢◌, ℕ, Ok, IfOk, IsSomeAnd}
use Rattle.slab.specs.Slab.{Slab, get}
use Rattle.task_core.specs.declared.traits.Yields.{Ghosts}
use Rattle.task_cell.specs.Belongs.{HasYielded}
use Rattle.executor_parts.specs.declared.ended.Ended.{Ended}
use Rattle.executor_parts.specs.declared.id.Entry.{Entry}
use Rattle.executor_parts.specs.declared.group.member.Member.{Member}
use Rattle.executor_parts.specs.declared.group.member.Member.TheVariants.{Runs, Cancelled, HasEnded}

module _ {R F Q M A X B O K L : Type 0} {G : Ghosts F O} where
  -- the future of the member's task has answered this output, or the member has ended with it
  abbrev pub MayGive : Member R F Q M A X B O K L G → O → Type 0
  MayGive (Runs task) output = HasYielded task.inner.share output
  MayGive (Cancelled handle) output = HasYielded handle.task.inner.share output
  MayGive (HasEnded ended posted) output = ended.answer ≡ Ok output

  -- what has become of a member may give no output that the member could not
  abbrev pub GivesNoMore : Member R F Q M A X B O K L G → Member R F Q M A X B O K L G → Type 0
  GivesNoMore old new = (output : O) → MayGive new output → MayGive old output

  -- the member of this number may give this output
  abbrev pub MayGiveAt : Slab (Entry (Member R F Q M A X B O K L G)) → ℕ → O → Type 0
  MayGiveAt members number output = IsSomeAnd (get members number) (λ entry. MayGive entry.member output)

  -- what has ended has no output, or one that the member of its number may give
  abbrev pub CameFrom : Slab (Entry (Member R F Q M A X B O K L G)) → Ended F O G → Type 0
  CameFrom members ended = IfOk ended.answer (MayGiveAt members ended.number)

  -- no number may give an output that it could not before
  abbrev pub NoneGivesMore : Slab (Entry (Member R F Q M A X B O K L G)) → Slab (Entry (Member R F Q M A X B O K L G)) → Type 0
  NoneGivesMore old new = (number : ℕ) (output : O) → MayGiveAt new number output → MayGiveAt old number output

  -- this number may give such outputs alone, and no other number any that it could not before
  pub record GivesAlso (old new : Slab (Entry (Member R F Q M A X B O K L G))) (number : ℕ) (gives : O → Type 0) : Type 0 where
    pub joined : (output : O) → MayGiveAt new number output → gives output
    pub others : (other : ℕ) → other ≢ number → (output : O) → MayGiveAt new other output → MayGiveAt old other output
