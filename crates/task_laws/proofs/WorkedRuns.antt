-- Some whole runs, computed: their moves lead the abstract task to the reading of the machine.
use Rattle.std.proofs.Common.{◌≡◌, ℕ, List, [], ◌∷◌, Option, Some, None, refl}
use Rattle.task_laws.proofs.Vocabulary.{Act, GainReference, DropWaker, DropLastWaker, OrphanTask, CloseOrphan, GiveUpReference, GiveUpLastReference, WakeIdle, DiscardOpen, CancelOver, CancelBusy, ClaimOutput, DetachLast, Detach, TakeUpClosed, StartRun, Unschedule, Complete, CompleteDetached, EndClosed, EndIdle, EndOrphaned, BeginNotify, MissNotify, BeginRegister, EndNotify, EndRegister, EndRegisterNotified, Look, StartPoll, AnswerPending, AnswerReady, DropFuture, StoreOutput, DropOutput, HandOutOutput, CloneAwaiter, StoreAwaiter, TakeAwaiter, WakeAwaiter, DropAwaiter, HandOver, EmptySlots}
use Rattle.task_laws.proofs.Vocabulary.{EndCall, Step, all_moved, Whole, whole, read}

abbrev does : ℕ → List Act → List Step → List Step
does i [] rest = rest
does i (a ∷ acts) rest = record { party = i; act = a } ∷ does i acts rest

abbrev Agrees : Option Whole → Type 0
Agrees None = ⊥
Agrees (Some w) = all_moved 1000 w.moves ≡ Some (read w)

abbrev Tried : List Step → Type 0
Tried steps = Agrees (whole 1000 steps)

-- the Runnable is dropped, then the Task
runnable_is_dropped : Tried (does 0 (DiscardOpen ∷ DropFuture ∷ Unschedule ∷ GiveUpReference ∷ EndCall ∷ []) (does 1 (DetachLast ∷ EmptySlots ∷ EndCall ∷ []) []))
runnable_is_dropped = refl

-- a detach, then a run that is ready
detached_task_completes : Tried (does 1 (Detach ∷ EndCall ∷ []) (does 0 (StartRun ∷ StartPoll ∷ AnswerReady ∷ DropFuture ∷ StoreOutput ∷ CompleteDetached ∷ DropOutput ∷ GiveUpLastReference ∷ EmptySlots ∷ EndCall ∷ []) []))
detached_task_completes = refl

-- a poll of the Task, a run that is ready and wakes it, and a poll that takes the output
awaiter_is_woken : Tried (does 1 (Look ∷ CloneAwaiter ∷ BeginRegister ∷ StoreAwaiter ∷ EndRegister ∷ Look ∷ EndCall ∷ []) (does 0 (StartRun ∷ StartPoll ∷ AnswerReady ∷ DropFuture ∷ StoreOutput ∷ Complete ∷ BeginNotify ∷ TakeAwaiter ∷ EndNotify ∷ GiveUpReference ∷ WakeAwaiter ∷ EndCall ∷ [])
    (does 1 (ClaimOutput ∷ HandOutOutput ∷ EndCall ∷ CancelOver ∷ EndCall ∷ DetachLast ∷ EmptySlots ∷ EndCall ∷ []) [])))
awaiter_is_woken = refl

-- a waker is gained, and is the last handle; it closes the task
last_waker_closes : Tried (does 0 (StartRun ∷ StartPoll ∷ []) (does 2 (GainReference ∷ EndCall ∷ []) (does 0 (AnswerPending ∷ EndIdle ∷ EndCall ∷ []) (does 1 (Detach ∷ EndCall ∷ []) (does 3 (OrphanTask ∷ CloseOrphan ∷ HandOver ∷ EndCall ∷ [])
    (does 4 (TakeUpClosed ∷ DropFuture ∷ Unschedule ∷ GiveUpLastReference ∷ EmptySlots ∷ EndCall ∷ []) []))))))
last_waker_closes = refl

-- a run ends with the last reference of a detached task, which it closes
last_run_closes : Tried (does 1 (Look ∷ CloneAwaiter ∷ BeginRegister ∷ StoreAwaiter ∷ EndRegister ∷ Look ∷ EndCall ∷ Detach ∷ EndCall ∷ []) (does 0 (StartRun ∷ StartPoll ∷ AnswerPending ∷ EndOrphaned ∷ HandOver ∷ EndCall ∷ []) (does 3 (TakeUpClosed ∷ DropFuture ∷ Unschedule ∷ GiveUpLastReference ∷ EmptySlots ∷ EndCall ∷ []) [])))
last_run_closes = refl

-- up to a mark: a cancel and a poll within the poll of a run, which is then ready; the output was dropped, and the awaiter stands there still
closed_task_completes : Tried (does 0 (StartRun ∷ StartPoll ∷ []) (does 1 (CancelBusy ∷ EndCall ∷ Look ∷ CloneAwaiter ∷ BeginRegister ∷ StoreAwaiter ∷ EndRegister ∷ Look ∷ EndCall ∷ []) (does 0 (AnswerReady ∷ DropFuture ∷ StoreOutput ∷ Complete ∷ DropOutput ∷ []) [])))
closed_task_completes = refl

-- up to a mark: a Runnable is dropped while the Task drops its old awaiter, and the Task makes the wake that is due
wake_is_owed : Tried (does 1 (Look ∷ CloneAwaiter ∷ BeginRegister ∷ StoreAwaiter ∷ EndRegister ∷ Look ∷ EndCall ∷ Look ∷ CloneAwaiter ∷ BeginRegister ∷ StoreAwaiter ∷ DropAwaiter ∷ []) (does 0 (DiscardOpen ∷ DropFuture ∷ Unschedule ∷ MissNotify ∷ GiveUpReference ∷ EndCall ∷ []) (does 1 (TakeAwaiter ∷ EndRegisterNotified ∷ WakeAwaiter ∷ []) [])))
wake_is_owed = refl

-- the same run goes on to its end
owed_wake_is_made : Tried (does 1 (Look ∷ CloneAwaiter ∷ BeginRegister ∷ StoreAwaiter ∷ EndRegister ∷ Look ∷ EndCall ∷ Look ∷ CloneAwaiter ∷ BeginRegister ∷ StoreAwaiter ∷ DropAwaiter ∷ []) (does 0 (DiscardOpen ∷ DropFuture ∷ Unschedule ∷ MissNotify ∷ GiveUpReference ∷ EndCall ∷ []) (does 1 (TakeAwaiter ∷ EndRegisterNotified ∷ WakeAwaiter ∷ Look ∷ BeginNotify ∷ TakeAwaiter ∷ EndNotify ∷ EndCall ∷ []) [])))
owed_wake_is_made = refl

-- a wake of an idle task, then a cancel within a poll
wake_queues : Tried (does 0 (StartRun ∷ StartPoll ∷ []) (does 2 (GainReference ∷ EndCall ∷ []) (does 0 (AnswerPending ∷ EndIdle ∷ EndCall ∷ []) (does 3 (WakeIdle ∷ EndCall ∷ []) (does 4 (HandOver ∷ EndCall ∷ []) (does 3 (DropWaker ∷ EndCall ∷ [])
    (does 5 (StartRun ∷ StartPoll ∷ []) (does 2 (GainReference ∷ EndCall ∷ []) (does 1 (CancelBusy ∷ EndCall ∷ Detach ∷ EndCall ∷ []) (does 5 (AnswerPending ∷ DropFuture ∷ EndClosed ∷ GiveUpReference ∷ EndCall ∷ []) (does 6 (DropLastWaker ∷ EmptySlots ∷ EndCall ∷ []) [])))))))))))
wake_queues = refl
