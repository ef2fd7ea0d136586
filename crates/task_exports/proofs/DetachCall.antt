-- What the parts of a waker's drop come to, put together from its exports.
use Rattle.std.proofs.Common.{◌≡◌, ℕ, false, List, [], ◌∷◌, ◌++◌, Option, Some, None, refl, is_some}
use Rattle.task_core.specs.declared.acts.Act.TheVariants.{CloseOrphan, EmptySlots, EndCall, HandOver, OrphanTask}
use Rattle.task_cell.proofs.Moved.{did_then, stands}
use Rattle.task_cell.specs.Calls.{Did, DidWith, Stands}
use Rattle.task_cell.specs.WakerPaths.{WakerDropPath, leaves_none as waker_none, leaves_orphan, leaves_others as waker_others}
use Rattle.task_exports.proofs.EndsCall.{IsEmptier}
use Rattle.task_exports.proofs.Numbers.{differs}
use Rattle.task_exports.specs.Answers.{DropsWaker, empties, last_waker, orphan_waker, shared}
use Rattle.task_exports.specs.CallPaths.{hands_on}
use Rattle.task_exports.specs.Hands.{IsGone, IsLast, IsLive}
use Rattle.task_exports.specs.Parties.{CellParty, party_in}
use Rattle.task_exports.specs.declared.hand.Hand.{Hand}
use Rattle.task_laws.specs.declared.positions.Answer.TheVariants.{Nothing}
use Rattle.task_laws.specs.declared.positions.Position.TheVariants.{Emptier}
use Rattle.task_steps.specs.Deeds.{act, row}
use Rattle.task_steps.specs.Standing.{as_ended, as_runnable}
use Rattle.task_steps.specs.Steps.{awaiter_first}
use Rattle.task_steps.specs.declared.table.Deed.{Deed}

-- a call has gone such a path
abbrev pub Goes : (List Deed → Type 0) → CellParty → CellParty → Type 0
Goes Path p q = (path : List Deed) × Path path × Did path as_ended p q

-- the places are to be emptied by a handle whose call ends so then
abbrev pub Emptying : (List Deed → Type 0) → Hand → Hand → Type 0
Emptying Path x k = IsLast k × IsEmptier false k.party × ((r : CellParty) → Did (empties false) as_ended k.party r → Goes Path x.party r)

-- the call has ended
abbrev pub Over : (List Deed → Type 0) → Hand → Hand → Type 0
Over Path x k = IsGone k × Stands as_ended k.party × Goes Path x.party k.party

emptying : (Path : List Deed → Type 0) (x k : Hand) (path : List Deed) (y : _) → IsLast k → DidWith path (Emptier None Nothing) (awaiter_first y []) x.party k.party → Path (path ++ act EmptySlots ∷ act EndCall ∷ []) → Emptying Path x k
emptying Path x k path y live d is = let more : List Deed = act EmptySlots ∷ act EndCall ∷ [] in
    (live, (None, Nothing, y, stands x.party k.party path (Emptier None Nothing) (awaiter_first y []) d, refl), λ r g. (path ++ more, is, did_then x.party k.party r path more (Emptier None Nothing) as_ended (awaiter_first y []) [] d g))

overs : (Path : List Deed → Type 0) (x k : Hand) (path : List Deed) → IsGone k → Did path as_ended x.party k.party → Path path → Over Path x k
overs Path x k path gone d is = (gone, stands x.party k.party path as_ended [] d, (path, is, d))

module _ (x k : Hand) (Scheduled : Type 0) where
  -- a record comes with one answer alone
  pub waker_comes_with : (o : Option Hand) (n : ℕ) → DropsWaker x k (party_in o) n → is_some o ≡ hands_on n
  waker_comes_with None _ (shared w a gone d) = refl
  waker_comes_with None _ (last_waker w y a b live d) = refl
  waker_comes_with (Some e) _ (orphan_waker w v ended a b live at d) = refl

  -- a waker's drop
  pub waker_hands_on : (ended : CellParty) (n : ℕ) → DropsWaker x k (Some ended) n → IsLive k × Stands as_runnable k.party × (Scheduled → (path : List Deed) × WakerDropPath Scheduled path × Did path as_ended x.party ended)
  waker_hands_on _ _ (orphan_waker w v ended a b live at d) = (live, at, λ fact. (row OrphanTask w ∷ row CloseOrphan v ∷ act HandOver ∷ act EndCall ∷ [], leaves_orphan w v a b fact, d))

  pub waker_over : (n : ℕ) → DropsWaker x k None n → n ≡ 1 → Over (WakerDropPath Scheduled) x k
  waker_over _ (shared w a gone d) e = overs (WakerDropPath Scheduled) x k _ gone d (waker_others w a)
  waker_over _ (last_waker w y a b live d) e = differs 9 1 refl refl e

  pub waker_last : (n : ℕ) → DropsWaker x k None n → n ≡ 9 → Emptying (WakerDropPath Scheduled) x k
  waker_last _ (shared w a gone d) e = differs 1 9 refl refl e
  waker_last _ (last_waker w y a b live d) e = emptying (WakerDropPath Scheduled) x k _ y live d (waker_none w a b)
