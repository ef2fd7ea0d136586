-- What the steps of a run come to for its hand.
use Rattle.task_steps.specs.Values.{Values}
use Rattle.task_cell.specs.declared.cell.Party.{Party}
use Rattle.task_cell.proofs.Vocabulary.{◌≡◌, ℕ, Bool, true, false, ◌&&◌, not, if◌then◌else◌, List, [], ◌∷◌, ap, ◌∙◌, subst, State, Empty, TakesUp, finds_closed, starts}
use Rattle.task_cell.proofs.Vocabulary.{Completes, keeps, finds_detached, DidWith, Stands, row, act, notifies, OfRun, ReadyFutureDropped}
use Rattle.task_cell.proofs.Vocabulary.{AnswerReady, DropFuture, StoreOutput, Complete, TaskPlace, work_first}
use Rattle.task_cell.specs.RunCalls.{finds_closed as found_closed}
use Rattle.task_cell.proofs.Moved as moved
use Rattle.task_exports.specs.Hands.{IsLive}
use Rattle.task_exports.specs.Answers.{Completed, GoesOn}
use Rattle.task_exports.specs.Answers as answers
use Rattle.task_exports.specs.declared.hand.Hand.{Hand}
use Rattle.task_exports.proofs.Goes.{goes_on}
use Rattle.task_core.specs.declared.traits.Yields.{Ghosts}
use Rattle.task_cell.specs.Belongs.{Leaves}
use Rattle.task_cell.specs.declared.cell.Share.{Share}
use Rattle.task_cell.specs.declared.cell.MaybeShare.{MaybeShare}
use Rattle.task_cell.proofs.Sharing.{Taken}
use Rattle.task_exports.proofs.Live.{Lives, lives_on}

-- the deeds after a poll that was ready, whose future is dropped
ready_then : {F T A : Type 0} (p q r : Party F T A) (path : List _) (at : _) (held : List (ℕ × TaskPlace F T A)) → DidWith (act AnswerReady ∷ act DropFuture ∷ []) ReadyFutureDropped (work_first Empty []) p q → DidWith path at held q r → DidWith (act AnswerReady ∷ act DropFuture ∷ path) at held p r
ready_then p q r path at held g d = moved.did_then p q r (act AnswerReady ∷ act DropFuture ∷ []) path ReadyFutureDropped at (work_first Empty []) held g d

module _ {R F Q M A B O T : Type 0} {G : Ghosts F O} where
  pub taken_up : {values : Values F T} (before after : MaybeShare R F Q M A B O G) (share : Share R F Q M A B O G) (p q : Party F T A) (b : Bool) → Lives before p → Taken before share → Leaves share after true → TakesUp values p q b → Lives after q
  taken_up before after share p q false live taken leaves (finds_closed w y e f g) = lives_on before after share p q _ _ _ live taken leaves g
  taken_up before after share p q true live taken leaves (starts w y e f g) = lives_on before after share p q _ _ _ live taken leaves g

  pub completed : (before after : MaybeShare R F Q M A B O G) (share : Share R F Q M A B O G) (p q r : Party F T A) (w : State) → Lives before p → Taken before share → Leaves share after true
      → DidWith (act AnswerReady ∷ act DropFuture ∷ []) ReadyFutureDropped (work_first Empty []) p q → Completes q r w → Lives after r
  completed before after share p q r w live taken leaves g (keeps h k d) = lives_on before after share p r _ _ _ live taken leaves (ready_then p q r _ _ _ g d)
  completed before after share p q r w live taken leaves g (found_closed z h k d) = lives_on before after share p r _ _ _ live taken leaves (ready_then p q r _ _ _ g d)
  completed before after share p q r w live taken leaves g (finds_detached z h d) = lives_on before after share p r _ _ _ live taken leaves (ready_then p q r _ _ _ g d)

-- the output is kept
pub kept_stands : {F T A : Type 0} (q r : Party F T A) (w : State) → Completes q r w → (w.task && not w.closed) ≡ true → Stands (notifies w.awaiter OfRun) r
kept_stands q r w (keeps h k d) e = moved.stands q r _ (notifies w.awaiter OfRun) [] d
kept_stands q r w (found_closed z h k d) e = absurd (cc)
kept_stands q r w (finds_detached z h d) e = absurd (cc)

pub completed_keeps : (x m k : Hand) (q : _) (w : State) (n : ℕ) → DidWith (act AnswerReady ∷ act DropFuture ∷ []) ReadyFutureDropped (work_first Empty []) x.party q → Completes q m.party w → (w.task && not w.closed) ≡ true → GoesOn OfRun w.awaiter [] m k n → Completed x k n
completed_keeps x m k q w n g (keeps h c d) e go = answers.keeps w n h c (goes_on OfRun w.awaiter (act AnswerReady ∷ act DropFuture ∷ act StoreOutput ∷ row Complete w ∷ []) _ [] x m k n (ready_then x.party q m.party _ _ _ g d) go)
completed_keeps x m k q w n g (found_closed z h c d) e go = absurd (cc)
completed_keeps x m k q w n g (finds_detached z h d) e go = absurd (cc)

pub completed_drops : (x k : Hand) (q : _) (w : State) (n : ℕ) → DidWith (act AnswerReady ∷ act DropFuture ∷ []) ReadyFutureDropped (work_first Empty []) x.party q → Completes q k.party w → (w.task && not w.closed) ≡ false → IsLive k → (if w.awaiter then 6 else 5) ≡ n → Completed x k n
completed_drops x k q w n g (keeps h c d) e live is = let t = ap (λ b. b && not w.closed) h ∙ ap not c in absurd (cc)
completed_drops x k q w n g (found_closed z h c d) e live is = subst (λ r. Completed x k r) is (answers.unclaimed w z h c live (ready_then x.party q k.party _ _ _ g d))
completed_drops x k q w n g (finds_detached z h d) e live is = subst (λ r. Completed x k r) is (answers.detached w z h live (ready_then x.party q k.party _ _ _ g d))
