-- The names of the specs that the proofs share.
pub use Rattle.task_core.specs.Local.{Done, Due, Idle, NoAwaiter, Phase, Polled, PolledAndWoken, Queued, is_done, orphaned}
pub use Rattle.task_core.specs.Rows.{found, written}
pub use Rattle.task_core.specs.Word.{State, bit, is_open, opening_word}
pub use Rattle.task_laws.specs.declared.positions.Answer.{Answer}
pub use Rattle.task_laws.specs.Abstract.{Abstract, AbstractCell, Begin, Clones, Detaches, DropDropped, Ends, Frame, GivesUp, Go, InPoll, Looks, Move}
pub use Rattle.task_laws.specs.Abstract.{PendingDropped, ReadyDropped, RunDropped, SegmentEnd, Stores, all_moved, answers, asks, begin, cancel_takes, detaches}
pub use Rattle.task_laws.specs.Abstract.{ended, ends, follow, gives_up, go, in_hand, looks, put, reads, stops, stores, takes_due, then_moved, wakes_first}
pub use Rattle.task_laws.specs.Abstract.{wakes_last, with_task, woken}
pub use Rattle.task_laws.specs.Event.{ByWake, CallBegins, CallEnds, CloneEnded, Empties, Event, FutureDropped, HandedOver, HasOutput, IsClosed, IsPending}
pub use Rattle.task_laws.specs.Event.{IsRefused, Made, Maker, Nothing, OutputDropped, Ran, TaskPollEnds, WakeStep, is_event}
pub use Rattle.task_laws.specs.Holders.{is_runner, is_waker, owns_awaiter, owns_future, owns_output}
pub use Rattle.task_laws.specs.Laws.{Each, MakingsCounted, MayAnswer, MayPoll, NoWakeLost, NobodyIsLeft, OnePoller, count, fresh_wakes, how_often, is_call_end}
pub use Rattle.task_laws.specs.Laws.{is_future_answer, is_made, is_output_end, is_task_poll, no_call_is_left, pending_poll, taken_up_closed, wake_is_due}
pub use Rattle.task_laws.specs.Laws.{was_woken, woken_since_taking_up}
pub use Rattle.task_laws.specs.Machine.{Machine, Step, after, begins, how_many, moves, opening, run, run_from, scene, step}
pub use Rattle.task_laws.specs.Position.{Act, AnswerPending, AnswerReady, Answering, At, AwaiterInHand, BeginNotify, BeginRegister, CallEnding, CancelBusy}
pub use Rattle.task_laws.specs.Position.{CancelIdle, CancelOver, ClaimOutput, CloneAwaiter, CloneInHand, CloseOrphan, ClosedRun, Complete, CompleteDetached}
pub use Rattle.task_laws.specs.Position.{Deliverer, Detach, DetachLast, DetachOrphan, Detacher, DiscardClosed, DiscardOpen, DropAwaiter, DropFuture}
pub use Rattle.task_laws.specs.Position.{DropLastWaker, DropOutput, DropWaker, DroppedRunnable, Emptier, EmptySlots, EndCall, EndClosed, EndIdle, EndNotify}
pub use Rattle.task_laws.specs.Position.{EndOrphaned, EndRegister, EndRegisterNotified, Ended, FindLimit, FindNotify, FutureGone, FutureInHand, GainReference}
pub use Rattle.task_laws.specs.Position.{GiveUpLastReference, GiveUpOutput, GiveUpReference, GivingUp, HandOutOutput, HandOver, HasClone, Lent, Look}
pub use Rattle.task_laws.specs.Position.{LookFinished, Looking, MissNotify, Notifier, NotifyingCall, OfCancel, OfClaim, OfDrop, OfPoll, OfRun, OldAwaiterInHand}
pub use Rattle.task_laws.specs.Position.{OnceDelivered, OrphanHolder, OrphanTask, OutputCloser, OutputInHand, OutputStored, Pending, PendingFutureDropped}
pub use Rattle.task_laws.specs.Position.{Polling, Position, Ready, ReadyFutureDropped, RefuseClone, RefuseGain, Registered, Registrar, Releaser, Reschedule}
pub use Rattle.task_laws.specs.Position.{Rest, Runnable, SawOutput, StartPoll, StartRun, Starting, StoreAwaiter, StoreOutput, Storing, TakeAwaiter}
pub use Rattle.task_laws.specs.Position.{TakeUpClosed, Taker, Task, ThenEnds, ThenNotifies, ThenTask, TookBack, TookOutput, Unschedule, UnusedClone}
pub use Rattle.task_laws.specs.Position.{WakeAwaiter, WakeIdle, WakeOver, WakeRunning, WakeScheduled, Waker}
pub use Rattle.task_laws.specs.Table.{Outcome, Scene, Slots, after_handing_over, outcome_at, is_held, notifies, rule, where_found}
pub use Rattle.task_laws.specs.Theorem.{ChangesItsOwn, Laws, LawsHold, OwnersAct}
pub use Rattle.task_laws.specs.Whole.{Whole, WholeRunsAgree, after_step, asks_foreign, awaiter_of, call_of, closed, frame_at, frame_of, frames, innermost}
pub use Rattle.task_laws.specs.Whole.{is_at_rest, is_cut, is_deliverer, is_foreign, is_home, is_innermost, is_polling, is_queued, is_seen, may_step, move_of}
pub use Rattle.task_laws.specs.Whole.{one_if, opened, phase_of, read, reading, says_yes, seen, stepped, whole, whole_from}
pub use Rattle.task_laws.specs.WholeCalls.{WholeCallsAgree, alone, made, takes_all}
