-- What each export of the Task says of the party of the handle that crosses to it, and of the party that it leaves, by its answer.
use Rattle.std.proofs.Common.{◌≡◌, ◌+◌, ℕ, true, [], ◌∷◌, Some}
use Rattle.std.specs.Prelude.{nat_eq}
use Rattle.task_core.specs.Word.{State}
use Rattle.task_core.specs.declared.acts.Act.TheVariants.{DropAwaiter, EndCall, EndRegisterNotified, HandOutOutput, RefuseClone, WakeAwaiter}
use Rattle.task_cell.specs.Calls.{Did, DidWith, Stands, StandsWith}
use Rattle.task_exports.specs.TaskAnswers.{AtPlace, ClaimAtPlace, ClaimInHand, EndsStore, HasOutput, HasStored, InHand, Looks, LooksAfter, Polls, Releases, Stores}
use Rattle.task_exports.specs.declared.hand.Hand.{Hand}
use Rattle.task_laws.specs.declared.positions.NotifyingCall.TheVariants.{OfClaim, OfPoll}
use Rattle.task_laws.specs.declared.positions.Position.TheVariants.{CloneInHand, Registrar, TookBack, TookOutput, UnusedClone}
use Rattle.task_steps.specs.Deeds.{act, row}
use Rattle.task_steps.specs.Standing.{as_task}
use Rattle.task_steps.specs.Steps.{awaiter_first, work_first}

abbrev Told : Type 1
Told = Hand → Hand → ℕ → Type 0

abbrev pub poll : Told
poll x k r = (n : ℕ) → Stands (as_task n) x.party → Polls (n + 1) x.party k.party r

abbrev pub clone_refused : Told
clone_refused x k r = (i : ℕ) → Stands (Registrar i) x.party → (r ≡ 12) × Did (act RefuseClone ∷ act EndCall ∷ []) (as_task i) x.party k.party

abbrev pub register : Told
register x k r = (i : ℕ) → Stands (Registrar i) x.party → Stores i x.party k.party r

abbrev pub registered : ℕ → Told
registered old x k r = (i : ℕ) → HasStored i (nat_eq old 1) x.party → EndsStore i (nat_eq old 1) x.party k.party r

abbrev pub taken_back : Told
taken_back x k r = (i : ℕ) (clone : _) → StandsWith (TookBack i) (awaiter_first (Some clone) []) x.party → (r ≡ 14) × (v : State) × (v.notifying ≡ true) × Did (row EndRegisterNotified v ∷ []) (CloneInHand i) x.party k.party

abbrev pub clone_woken : Told
clone_woken x k r = (i : ℕ) → Stands (CloneInHand i) x.party → LooksAfter i (act WakeAwaiter ∷ []) x.party k.party r

abbrev pub clone_dropped : Told
clone_dropped x k r = (i : ℕ) → Stands (UnusedClone i) x.party → LooksAfter i (act DropAwaiter ∷ []) x.party k.party r

abbrev pub poll_taken : Told
poll_taken x k r = (i : ℕ) → AtPlace (OfPoll i) [] x.party → Releases (OfPoll i) [] (act EndCall ∷ []) (as_task i) 17 x.party k.party r

abbrev pub poll_woken : Told
poll_woken x k r = (i : ℕ) → InHand (OfPoll i) [] x.party → (r ≡ 17) × Did (act WakeAwaiter ∷ act EndCall ∷ []) (as_task i) x.party k.party

abbrev pub poll_dropped : Told
poll_dropped x k r = (i : ℕ) → InHand (OfPoll i) [] x.party → (r ≡ 17) × Did (act DropAwaiter ∷ act EndCall ∷ []) (as_task i) x.party k.party

abbrev pub claim_taken : Told
claim_taken x k r = (i : ℕ) (z : _) → ClaimAtPlace i z x.party → Releases (OfClaim i) (work_first z []) [] (TookOutput i) 16 x.party k.party r

abbrev pub claim_woken : Told
claim_woken x k r = (i : ℕ) (z : _) → ClaimInHand i z x.party → (r ≡ 16) × DidWith (act WakeAwaiter ∷ []) (TookOutput i) (work_first z []) x.party k.party

abbrev pub claim_dropped : Told
claim_dropped x k r = (i : ℕ) (z : _) → ClaimInHand i z x.party → (r ≡ 16) × DidWith (act DropAwaiter ∷ []) (TookOutput i) (work_first z []) x.party k.party

abbrev pub output_taken : Told
output_taken x k r = (i : ℕ) (z : _) → HasOutput i z x.party → (r ≡ 12) × Did (act HandOutOutput ∷ act EndCall ∷ []) (as_task i) x.party k.party

abbrev pub is_finished : Told
is_finished x k r = (n : ℕ) → Stands (as_task n) x.party → Looks n x.party k.party r
