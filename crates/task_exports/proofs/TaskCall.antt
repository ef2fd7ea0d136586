-- What the parts of a detach and of a spawn come to, put together from their exports.
use Rattle.std.proofs.Common.{◌≡◌, ℕ, true, false, List, [], ◌∷◌, Option, Some, None, refl, ap, is_some}
use Rattle.task_core.specs.declared.acts.Act.{Act}
use Rattle.task_core.specs.declared.acts.Act.TheVariants.{Detach, DetachLast, DropOutput, EmptySlots, EndCall, GiveUpOutput}
use Rattle.task_cell.proofs.Moved.{did_then, stands}
use Rattle.task_cell.specs.Calls.{Did, Stands, StandsWith, deeds}
use Rattle.task_cell.specs.TaskPaths.{DetachPath, UnclaimedPath}
use Rattle.task_cell.specs.TaskPaths as paths
use Rattle.task_exports.proofs.EndsCall.{IsEmptier}
use Rattle.task_exports.proofs.Numbers.{differs}
use Rattle.task_exports.specs.Answers.{IsFull, Made, empties, made, refused}
use Rattle.task_exports.specs.CallPaths.{Done, hands_on}
use Rattle.task_exports.specs.Hands.{IsGone, IsLast, IsLive, SameCell}
use Rattle.task_exports.specs.Parties.{CellParty, party_in}
use Rattle.task_exports.specs.TaskAnswers.{Detaches, EndsDetach}
use Rattle.task_exports.specs.TaskAnswers as answers
use Rattle.task_exports.specs.declared.hand.Hand.{Hand}
use Rattle.task_exports.specs.declared.handle.Handle.{Handle}
use Rattle.task_laws.specs.declared.positions.Answer.TheVariants.{Nothing}
use Rattle.task_laws.specs.declared.positions.Position.TheVariants.{Emptier, OutputCloser}
use Rattle.task_steps.specs.Deeds.{act, row}
use Rattle.task_steps.specs.Standing.{as_ended, as_runnable, as_task}
use Rattle.task_steps.specs.Steps.{awaiter_first, head_of, saw_closed, work_first}
use Rattle.task_steps.specs.declared.table.Deed.{Deed}

-- the rest of a detach whose output was taken out
abbrev pub Rests : CellParty → CellParty → Type 0
Rests p q = (path : List Deed) × UnclaimedPath path × Did path as_ended p q

module _ (x k : Hand) where
  -- by its answer: the call has ended
  pub rest_over : (n : ℕ) → EndsDetach x k n → n ≡ 1 → IsGone k × Stands as_ended k.party × Rests x.party k.party
  rest_over _ (answers.leaves_others w f gone d) e = (gone, stands _ _ _ _ _ d, (_, paths.leaves_others w f, d))
  rest_over _ (answers.leaves_none w z f b d) e = differs 9 1 refl refl e

  -- by the answer: it was the last handle
  pub rest_last : (n : ℕ) → EndsDetach x k n → n ≡ 9 → IsLast k × IsEmptier false k.party × ((q : CellParty) → Did (empties false) as_ended k.party q → Rests x.party q)
  rest_last _ (answers.leaves_others w f gone d) e = differs 1 9 refl refl e
  rest_last _ (answers.leaves_none w z f b d) e = (
    b.0,
    (None, Nothing, z, stands _ _ _ _ _ d, refl),
    λ q g. (_, paths.leaves_none w f, did_then x.party k.party q (act DropOutput ∷ row DetachLast w ∷ []) (empties false) (Emptier None Nothing) as_ended (awaiter_first z []) [] d g),
  )

module _ (Scheduled : Type 0) (did : Act → Type 0) where
  -- a whole detach
  abbrev pub Detached : CellParty → CellParty → Type 0
  Detached p q = (path : List Deed) × DetachPath Scheduled path × Done did path × Did path as_ended p q

  module _ (x k : Hand) where
    -- a record comes with one answer alone
    pub detach_comes_with : (o : Option Hand) (n : ℕ) → Detaches x k (party_in o) n → is_some o ≡ hands_on n
    detach_comes_with None _ (answers.detach_missed _) = refl
    detach_comes_with None _ (answers.is_shared w f gone d) = refl
    detach_comes_with None _ (answers.is_last w z f b d) = refl
    detach_comes_with None _ (answers.is_unclaimed w z f o b d) = refl
    detach_comes_with (Some e) _ (answers.is_orphaned w ended f d b at) = refl

    -- by its answer: the Runnable is to be scheduled
    pub detach_hands_on : (ended : CellParty) (n : ℕ) → Detaches x k (Some ended) n → IsLive k × Stands as_runnable k.party × (Scheduled → Detached x.party ended)
    detach_hands_on _ _ (answers.is_orphaned w ended f d b at) = (b.0, at, λ fact. (_, paths.is_orphaned w f fact, (tt, (tt, (tt, tt))), d))

    -- by the answer: the call has ended
    pub detach_over : (n : ℕ) → Detaches x k None n → n ≡ 1 → IsGone k × Stands as_ended k.party × Detached x.party k.party
    detach_over _ (answers.detach_missed _) e = differs 0 1 refl refl e
    detach_over _ (answers.is_shared w f gone d) e = (gone, stands _ _ _ _ _ d, (_, paths.is_shared w f, (tt, (tt, tt)), d))
    detach_over _ (answers.is_last w z f b d) e = differs 9 1 refl refl e
    detach_over _ (answers.is_unclaimed w z f o b d) e = differs 5 1 refl refl e

    -- by the answer: it was the last handle
    pub detach_last : (n : ℕ) → Detaches x k None n → n ≡ 9 → IsLast k × IsEmptier false k.party × ((q : CellParty) → Did (empties false) as_ended k.party q → Detached x.party q)
    detach_last _ (answers.detach_missed _) e = differs 0 9 refl refl e
    detach_last _ (answers.is_shared w f gone d) e = differs 1 9 refl refl e
    detach_last _ (answers.is_last w z f b d) e = (
      b.0,
      (None, Nothing, z, stands _ _ _ _ _ d, refl),
      λ q g. (_, paths.is_last w f, (tt, (tt, (tt, tt))), did_then x.party k.party q (row DetachLast w ∷ []) (empties false) (Emptier None Nothing) as_ended (awaiter_first z []) [] d g),
    )
    detach_last _ (answers.is_unclaimed w z f o b d) e = differs 5 9 refl refl e

    -- by the answer: nobody has claimed the output
    pub detach_unclaimed : (n : ℕ) → Detaches x k None n → n ≡ 5
        → IsLive k × ((z : _) × StandsWith OutputCloser (work_first z []) k.party) × (saw_closed (deeds k.party) ≡ true) × (did DropOutput → (q : CellParty) → Rests k.party q → Detached x.party q)
    detach_unclaimed _ (answers.detach_missed _) e = differs 0 5 refl refl e
    detach_unclaimed _ (answers.is_shared w f gone d) e = differs 1 5 refl refl e
    detach_unclaimed _ (answers.is_last w z f b d) e = differs 9 5 refl refl e
    detach_unclaimed _ (answers.is_unclaimed w z f o b d) e = (b.0, (z, stands _ _ _ _ _ d), ap (λ m. saw_closed (head_of m.0.members).deeds) d.is, λ fact q g. drops_it fact q g.0 g.1 g.2)
      where
        drops_it : did DropOutput → (q : CellParty) (path : List Deed) → UnclaimedPath path → Did path as_ended k.party q → Detached x.party q
        drops_it fact q _ (paths.leaves_others v h) g = (_, paths.drops_output w v f h, (tt, (fact, (tt, (tt, tt)))), did_then x.party k.party q (row GiveUpOutput w ∷ []) (act DropOutput ∷ row Detach v ∷ act EndCall ∷ []) OutputCloser as_ended (work_first z []) [] d g)
        drops_it fact q _ (paths.leaves_none v h) g = (_, paths.drops_output_last w v f h, (tt, (fact, (tt, (tt, (tt, tt))))), did_then x.party k.party q (row GiveUpOutput w ∷ []) (act DropOutput ∷ row DetachLast v ∷ act EmptySlots ∷ act EndCall ∷ []) OutputCloser as_ended (work_first z []) [] d g)

-- a cell was made
pub is_made : (n : ℕ) (r t : Handle) → Made n r t → n ≡ 12 → (IsFull r × Stands as_runnable r.hand.party) × IsFull t × SameCell t.hand r.hand × Stands (as_task 0) t.hand.party
is_made _ _ _ (refused r t a b) e = differs 0 12 refl refl e
is_made _ _ _ (made r t a b same d f) e = ((a, d), b, same, f)
