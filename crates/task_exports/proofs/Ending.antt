-- What the awaiter that was taken out of its place comes to.
use Rattle.task_cell.specs.declared.cell.Party.{Party}
use Rattle.task_cell.proofs.Vocabulary.{◌≡◌, ℕ, subst, sym, true, false, List, [], ◌∷◌, Option, Some, None, is_some, State, Answer, Nothing, Ran, Ended, AwaiterInHand, Emptier, GivingUp, CallEnding}
use Rattle.task_cell.proofs.Vocabulary.{GiveUpReference, GiveUpLastReference, EndCall, EndNotify, WakeAwaiter, OfRun, OfDrop, Deed, DidWith, Did, Stands, row, act, rest_of, position, places_of, way_of, after_taking, after_waking, awaiter_first}
use Rattle.task_cell.proofs.Moved as moved
use Rattle.task_exports.specs.Hands.{IsLive, IsLast, IsGone}
use Rattle.std.specs.Prelude.{Bool, if◌then◌else◌}
use Rattle.task_exports.specs.Answers.{GivesBack, Finishes, over, wakes, last, last_wakes, Discarded, TellsEnd, cell_ended, cell_kept}
use Rattle.task_exports.specs.Answers as answers
use Rattle.task_exports.specs.declared.hand.Hand.{Hand}
use Rattle.task_exports.proofs.Given.{Last, Others, and_ends, woken_at}
use Rattle.task_exports.proofs.Goes.{gives_on}

-- the number that tells whether the cell has ended
pub tells_end : (b : Bool) (n : ℕ) → n ≡ (if b then 2 else 12) → TellsEnd n
tells_end true n e = subst (λ m. TellsEnd m) (sym e) cell_ended
tells_end false n e = subst (λ m. TellsEnd m) (sym e) cell_kept

-- in the drop of a Runnable: the awaiter is woken first, or there is none
pub taken_wakes : (hand : Option ℕ) (x k : Hand) → is_some hand ≡ true → (v : State) → IsLive k → Did (row EndNotify v ∷ []) (after_taking hand OfDrop) x.party k.party → (awaiter : Option ℕ) × Discarded x k awaiter 14
taken_wakes (Some i) x k is v live g = (Some i, answers.wakes_first v i live g)
taken_wakes None x k is v live g = absurd (cc)

module _ {F T A : Type 0} where
  pub taken_none : (hand : Option ℕ) (v : State) (p q : Party F T A) → is_some hand ≡ false → Did (row EndNotify v ∷ []) (after_taking hand OfDrop) p q → (answer : Answer) × Stands (GivingUp None answer) q
  taken_none None v p q is g = (Nothing, moved.stands p q (row EndNotify v ∷ []) (GivingUp None Nothing) [] g)
  taken_none (Some i) v p q is g = absurd (cc)

pub taken_gives : (hand : Option ℕ) (x m k : Hand) (r : ℕ) → is_some hand ≡ false → (v : State) → Did (row EndNotify v ∷ []) (after_taking hand OfDrop) x.party m.party → GivesBack [] m k r → (awaiter : Option ℕ) × Discarded x k awaiter r
taken_gives None x m k r is v g b = (None, answers.without_awaiter v r (gives_on (row EndNotify v ∷ []) [] (GivingUp None Nothing) [] x m k r g b))
taken_gives (Some i) x m k r is v g b = absurd (cc)

-- in a run: after the reference was given up
pub finished_last : (hand : Option ℕ) (x k : Hand) (q : _) (v : State) → IsLast k → Did (row EndNotify v ∷ []) (GivingUp hand (Ran false)) x.party q → Last hand (Ran false) q k.party → is_some hand ≡ false → (awaiter : Option ℕ) × Finishes x k awaiter 9
finished_last None x k q v live g l is = (None, last v l.word l.place l.fits live (moved.did_then x.party q k.party (row EndNotify v ∷ []) (row GiveUpLastReference l.word ∷ []) (GivingUp None (Ran false)) (Emptier None (Ran false)) [] (awaiter_first l.place []) g l.did))
finished_last (Some i) x k q v live g l is = absurd (cc)

pub finished_last_wakes : (hand : Option ℕ) (x k : Hand) (q : _) (v : State) → IsLast k → Did (row EndNotify v ∷ []) (GivingUp hand (Ran false)) x.party q → Last hand (Ran false) q k.party → is_some hand ≡ true → (awaiter : Option ℕ) × Finishes x k awaiter 15
finished_last_wakes (Some i) x k q v live g l is = (Some i, last_wakes v l.word i l.place l.fits live (moved.did_then x.party q k.party (row EndNotify v ∷ []) (row GiveUpLastReference l.word ∷ []) (GivingUp (Some i) (Ran false)) (Emptier (Some i) (Ran false)) [] (awaiter_first l.place []) g l.did))
finished_last_wakes None x k q v live g l is = absurd (cc)

module _ {F T A : Type 0} where
  -- where the party stands then
  pub others_call : (hand : Option ℕ) (p q : Party F T A) → Others hand (Ran false) p q → is_some hand ≡ false → Stands (CallEnding (Ran false) Ended) q
  others_call None p q o is = moved.stands p q _ _ _ o.did
  others_call (Some i) p q o is = absurd (cc)

  pub others_wake : (hand : Option ℕ) (p q : Party F T A) → Others hand (Ran false) p q → is_some hand ≡ true → (i : ℕ) × Stands (AwaiterInHand i OfRun) q
  others_wake (Some i) p q o is = (i, moved.stands p q _ _ _ o.did)
  others_wake None p q o is = absurd (cc)

pub finished_over : (hand : Option ℕ) (x k : Hand) (q r : _) (v : State) → IsGone k → Did (row EndNotify v ∷ []) (GivingUp hand (Ran false)) x.party q → Others hand (Ran false) q r → is_some hand ≡ false
    → Did (act EndCall ∷ []) (rest_of (position r)) r k.party → (awaiter : Option ℕ) × Finishes x k awaiter 1
finished_over None x k q r v gone g o is e = (
  None,
  over v o.word o.fits gone
      (and_ends (row EndNotify v ∷ row GiveUpReference o.word ∷ []) (Ran false) x.party r k.party (moved.did_then x.party q r (row EndNotify v ∷ []) (row GiveUpReference o.word ∷ []) (GivingUp None (Ran false)) (CallEnding (Ran false) Ended) [] [] g o.did) e),
)
finished_over (Some i) x k q r v gone g o is e = absurd (cc)

pub finished_wakes : (hand : Option ℕ) (x k : Hand) (q r s : _) (v : State) → IsGone k → Did (row EndNotify v ∷ []) (GivingUp hand (Ran false)) x.party q → Others hand (Ran false) q r → is_some hand ≡ true
    → DidWith (act WakeAwaiter ∷ []) (after_waking (way_of (position r))) (places_of r) r s → Did (act EndCall ∷ []) (rest_of (position s)) s k.party → (awaiter : Option ℕ) × Finishes x k awaiter 8
finished_wakes (Some i) x k q r s v gone g o is w e = let rest : List Deed = row GiveUpReference o.word ∷ act WakeAwaiter ∷ [] in (
  Some i,
  wakes v o.word i o.fits gone
      (and_ends (row EndNotify v ∷ rest) (Ran false) x.party s k.party (moved.did_then x.party q s (row EndNotify v ∷ []) rest (GivingUp (Some i) (Ran false)) (CallEnding (Ran false) Ended) [] [] g
      (moved.did_then q r s (row GiveUpReference o.word ∷ []) (act WakeAwaiter ∷ []) (AwaiterInHand i OfRun) (CallEnding (Ran false) Ended) [] [] o.did
      (woken_at OfRun i r s (moved.stands q r (row GiveUpReference o.word ∷ []) (AwaiterInHand i OfRun) [] o.did) w))) e),
)
finished_wakes None x k q r s v gone g o is w e = absurd (cc)
