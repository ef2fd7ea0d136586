-- The two looks of a poll, each with what followed it.
use Rattle.task_steps.specs.Values.{Values}
use Rattle.task_cell.proofs.Vocabulary.{work_first}
use Rattle.std.proofs.Common.{◌≡◌, ℕ, ◌+◌, Bool, true, false, List, [], ◌∷◌, ap, subst}
use Rattle.std.specs.Prelude.{Err, Ok}
use Rattle.task_core.specs.Word.{State}
use Rattle.task_core.specs.declared.acts.Act.TheVariants.{ClaimOutput, EndCall, Look}
use Rattle.task_cell.proofs.Moved.{position_is, stands}
use Rattle.task_cell.proofs.PollAnswers.{saw, saw_end, seen, seen_again, waited}
use Rattle.task_cell.specs.Calls.{Did, Stands, StandsWith, position}
use Rattle.task_cell.specs.PollPaths.{Looks, LooksAgain}
use Rattle.task_cell.specs.declared.cell.Party.{Party}
use Rattle.task_exports.proofs.Looks.{answers_claimed, answers_ended, claimed_stands}
use Rattle.task_exports.specs.TaskAnswers.{Answers, ClaimGoesOn, EndGoesOn, LooksOn, Polls, answers, answers_now, registers, waits}
use Rattle.task_laws.specs.Table.{notifies}
use Rattle.task_laws.specs.declared.positions.NotifyingCall.TheVariants.{OfClaim, OfPoll}
use Rattle.task_laws.specs.declared.positions.Position.TheVariants.{Looking, Notifier, Registrar}
use Rattle.task_steps.specs.Deeds.{act, row}
use Rattle.task_steps.specs.PollScripts.{has_ended, has_to_wait}
use Rattle.task_steps.specs.Standing.{as_task, poll_number}
use Rattle.task_steps.specs.declared.table.Deed.{Deed}
use Rattle.task_steps.specs.declared.table.Slot.{Slot}

abbrev claims : State → List Deed
claims w = row ClaimOutput w ∷ []

abbrev claims_again : State → List Deed
claims_again w = row Look w ∷ row ClaimOutput w ∷ []

module _ {F T A : Type 0} where
  -- the number of the poll
  begins : (n : ℕ) (p : Party F T A) → Stands (as_task n) p → poll_number (position p) ≡ n + 1
  begins n p s = ap poll_number (position_is p (as_task n) [] s)

  goes : (i : ℕ) (p : Party F T A) → Stands (Looking i) p → poll_number (position p) ≡ i
  goes i p s = ap poll_number (position_is p (Looking i) [] s)

  -- the first look
  pub look_stands : {values : Values F T} (w : State) (p q : Party F T A) (due : Bool) → Looks values p q (Ok w) → due ≡ w.awaiter → (i : ℕ) × (z : Slot F T) × StandsWith (notifies due (OfClaim i)) (work_first z []) q
  look_stands w p q due l e = claimed_stands w (claims w) p q due (seen p q (Ok w) l) e

  pub look_claims : {values : Values F T} (n : ℕ) (w : State) (p q r : Party F T A) (due : Bool) (a : ℕ) → Stands (as_task n) p → Looks values p q (Ok w) → due ≡ w.awaiter
      → ((i : ℕ) (z : Slot F T) → StandsWith (notifies due (OfClaim i)) (work_first z []) q → ClaimGoesOn due i z q r a) → Polls (n + 1) p r a
  look_claims n w p q r due a s l e f = answers a (subst (λ k. Answers k claims p r a) (begins n p s) (answers_claimed claims w p q r due a (seen p q (Ok w) l) e f))

  ended_at : {values : Values F T} (w : State) (p q : Party F T A) → Looks values p q (Err w) → has_ended w ≡ true → Did (row Look w ∷ []) (Notifier (OfPoll (poll_number (position p)))) p q
  ended_at w p q l e = saw w p q true (seen p q (Err w) l) e

  pub look_at_end : {values : Values F T} (w : State) (p q : Party F T A) → Looks values p q (Err w) → has_ended w ≡ true → (i : ℕ) × Stands (Notifier (OfPoll i)) q
  look_at_end w p q l e = let i = poll_number (position p) in (i, stands p q (row Look w ∷ []) (Notifier (OfPoll i)) [] (ended_at w p q l e))

  pub look_ended : {values : Values F T} (n : ℕ) (w : State) (p q r : Party F T A) (a : ℕ) → Stands (as_task n) p → Looks values p q (Err w) → has_ended w ≡ true → ((j : ℕ) → Stands (Notifier (OfPoll j)) q → EndGoesOn j q r a) → Polls (n + 1) p r a
  look_ended n w p q r a s l e f = answers a (subst (λ k. Answers k claims p r a) (begins n p s) (answers_ended claims (poll_number (position p)) w p q r a e (ended_at w p q l e) f))

  pub look_registers : {values : Values F T} (n : ℕ) (w : State) (p q : Party F T A) → Stands (as_task n) p → Looks values p q (Err w) → has_ended w ≡ false → Polls (n + 1) p q 19
  look_registers n w p q s l e = let x = seen p q (Err w) l in registers w x.0 e (subst (λ k. Did (row Look w ∷ []) (Registrar k) p q) (begins n p s) (saw w p q false x e))

  -- the look of a poll that has registered
  pub again_stands : {values : Values F T} (w : State) (p q : Party F T A) (due : Bool) → LooksAgain values p q (Ok w) → due ≡ w.awaiter → (i : ℕ) × (z : Slot F T) × StandsWith (notifies due (OfClaim i)) (work_first z []) q
  again_stands w p q due l e = claimed_stands w (claims_again w) p q due (seen_again p q (Ok w) l) e

  pub again_claims : {values : Values F T} (i : ℕ) (w : State) (p q r : Party F T A) (due : Bool) (a : ℕ) → Stands (Looking i) p → LooksAgain values p q (Ok w) → due ≡ w.awaiter
      → ((i : ℕ) (z : Slot F T) → StandsWith (notifies due (OfClaim i)) (work_first z []) q → ClaimGoesOn due i z q r a) → LooksOn i p r a
  again_claims i w p q r due a s l e f = answers_now a (subst (λ k. Answers k claims_again p r a) (goes i p s) (answers_claimed claims_again w p q r due a (seen_again p q (Ok w) l) e f))

  pub again_waits : {values : Values F T} (i : ℕ) (w : State) (p q : Party F T A) → Stands (Looking i) p → LooksAgain values p q (Err w) → has_to_wait w ≡ true → LooksOn i p q 18
  again_waits i w p q s l e = waits w e (subst (λ k. Did (row Look w ∷ act EndCall ∷ []) (as_task k) p q) (goes i p s) (waited w p q (seen_again p q (Err w) l) e))

  pub again_at_end : {values : Values F T} (w : State) (p q : Party F T A) → LooksAgain values p q (Err w) → has_to_wait w ≡ false → (i : ℕ) × Stands (Notifier (OfPoll i)) q
  again_at_end w p q l e = let i = poll_number (position p) in (i, stands p q (row Look w ∷ []) (Notifier (OfPoll i)) [] (saw_end w p q (seen_again p q (Err w) l) e).1)

  pub again_ended : {values : Values F T} (i : ℕ) (w : State) (p q r : Party F T A) (a : ℕ) → Stands (Looking i) p → LooksAgain values p q (Err w) → has_to_wait w ≡ false → ((j : ℕ) → Stands (Notifier (OfPoll j)) q → EndGoesOn j q r a) → LooksOn i p r a
  again_ended i w p q r a s l e f = let x = saw_end w p q (seen_again p q (Err w) l) e in
      answers_now a (subst (λ k. Answers k claims_again p r a) (goes i p s) (answers_ended claims_again (poll_number (position p)) w p q r a x.0 x.1 f))
