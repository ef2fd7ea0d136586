-- The names of task_core, of task_laws and of the table that the proofs share.
pub use Rattle.task_core.proofs.Bits.{fetch_and-awaiter_notifying, fetch_and-awaiter_registering_notifying, fetch_and-scheduled, fetch_and-scheduled_running}
pub use Rattle.task_core.proofs.Bits.{fetch_and-task, fetch_or-closed, fetch_or-notifying, fetch_sub-reference, state_of_number_of}
pub use Rattle.task_core.specs.Rows.{found, row, written}
pub use Rattle.counted_block.specs.declared.place.Place.TheVariants.{First, Second}
pub use Rattle.task_core.specs.Word.{State, bit, is_open, number_of, orphan_word, state_of}
pub use Rattle.task_core.specs.declared.acts.Act.{Act}
pub use Rattle.task_core.specs.declared.acts.Act.TheVariants.{AnswerPending, AnswerReady, BeginNotify, BeginRegister, CancelBusy, CancelIdle, CancelOver}
pub use Rattle.task_core.specs.declared.acts.Act.TheVariants.{ClaimOutput, CloneAwaiter, CloseOrphan, Complete, CompleteDetached, Detach, DetachLast}
pub use Rattle.task_core.specs.declared.acts.Act.TheVariants.{DetachOrphan, DiscardClosed, DiscardOpen, DropAwaiter, DropFuture, DropLastWaker, DropOutput}
pub use Rattle.task_core.specs.declared.acts.Act.TheVariants.{DropWaker, EmptySlots, EndCall, EndClosed, EndIdle, EndNotify, EndOrphaned, EndRegister}
pub use Rattle.task_core.specs.declared.acts.Act.TheVariants.{EndRegisterNotified, FindLimit, FindNotify, GainReference, GiveUpLastReference, GiveUpOutput}
pub use Rattle.task_core.specs.declared.acts.Act.TheVariants.{GiveUpReference, HandOutOutput, HandOver, Look, LookFinished, MissNotify, OrphanTask, RefuseClone}
pub use Rattle.task_core.specs.declared.acts.Act.TheVariants.{RefuseGain, Reschedule, StartPoll, StartRun, StoreAwaiter, StoreOutput, TakeAwaiter, TakeUpClosed}
pub use Rattle.task_core.specs.declared.acts.Act.TheVariants.{Unschedule, WakeAwaiter, WakeIdle, WakeOver, WakeRunning, WakeScheduled}
pub use Rattle.task_laws.specs.declared.positions.Answer.{Answer}
pub use Rattle.task_laws.specs.declared.positions.Answer.TheVariants.{Finished, Gained, Nothing, Ran}
pub use Rattle.task_laws.specs.declared.positions.NotifyingCall.{NotifyingCall}
pub use Rattle.task_laws.specs.declared.positions.NotifyingCall.TheVariants.{OfCancel, OfClaim, OfDrop, OfPoll, OfRun}
pub use Rattle.task_laws.specs.declared.positions.OnceDelivered.{OnceDelivered}
pub use Rattle.task_laws.specs.declared.positions.OnceDelivered.TheVariants.{ThenEnds, ThenNotifies, ThenTask}
pub use Rattle.task_laws.specs.declared.positions.PollAnswer.{PollAnswer}
pub use Rattle.task_laws.specs.declared.positions.PollAnswer.TheVariants.{HasOutput, IsPending, IsRefused}
pub use Rattle.task_laws.specs.declared.positions.Position.{Position}
pub use Rattle.task_laws.specs.declared.positions.Position.TheVariants.{Answering, At, AwaiterInHand, CallEnding, CloneInHand, Deliverer, Detacher, Emptier}
pub use Rattle.task_laws.specs.declared.positions.Position.TheVariants.{FutureGone, FutureInHand, GivingUp, HasClone, Looking, Notifier, OldAwaiterInHand}
pub use Rattle.task_laws.specs.declared.positions.Position.TheVariants.{OrphanHolder, OutputCloser, OutputInHand, OutputStored, Pending, PendingFutureDropped}
pub use Rattle.task_laws.specs.declared.positions.Position.TheVariants.{Polling, Ready, ReadyFutureDropped, Registered, Registrar, Releaser, SawOutput}
pub use Rattle.task_laws.specs.declared.positions.Position.TheVariants.{Starting, Storing, Taker, TookBack, TookOutput, UnusedClone}
pub use Rattle.task_laws.specs.declared.positions.Rest.{Rest}
pub use Rattle.task_laws.specs.declared.positions.Rest.TheVariants.{Ended, Lent, Runnable, Task, Waker}
pub use Rattle.task_laws.specs.declared.positions.WithoutPoll.{WithoutPoll}
pub use Rattle.task_laws.specs.declared.positions.WithoutPoll.TheVariants.{ClosedRun, DroppedRunnable}
pub use Rattle.task_laws.specs.Event.{ByClosing, ByWake, CallBegins, CallEnds, CloneEnded, Cloned, Closes, Completes, Empties, Event, FutureDropped}
pub use Rattle.task_laws.specs.Event.{FuturePending, FutureReady, HandedOver, Made, OutputDropped, OutputTaken, RunEnded, TakenUp, TaskGivenUp, TaskPollBegins}
pub use Rattle.task_laws.specs.Event.{TaskPollEnds, WakeStep, WakerGained, WakerGivenUp, Woken, is_event}
pub use Rattle.task_laws.specs.Holders.{owns_awaiter}
pub use Rattle.task_laws.specs.Laws.{count, how_often, is_task_poll}
pub use Rattle.task_laws.specs.Machine.{Machine, Step, after, begins, how_many, moves, opening, run, run_from, scene, step}
pub use Rattle.task_laws.specs.Table.{Outcome, Scene, Slots, after_cancelling, after_giving_up, after_handing_over, after_storing, after_taking, after_waking}
pub use Rattle.task_laws.specs.Table.{changes_slots, ended_clone, first_look, outcome_at, is_held, leaves_slots, may_ask, may_drop, may_gain, may_wake}
pub use Rattle.task_laws.specs.Table.{notifies, rule, second_look, when, where_found}
pub use Rattle.task_laws.proofs.Awaiting.{Awaiting, await, awaiting, fits, join}
pub use Rattle.task_laws.proofs.Census.{Census, census, closers, plus, runs, weigh}
pub use Rattle.task_laws.proofs.Handshake.{HandshakeHolds}
pub use Rattle.task_laws.proofs.Invariant.{Holds}
pub use Rattle.task_laws.proofs.Runs.{Invariant, Stays, always}
pub use Rattle.task_laws.proofs.Theorem.{laws_of}
pub use Rattle.task_laws.proofs.WholeRuns.{count-append}
pub use Rattle.task_laws.proofs.Words.{rule_word}
pub use Rattle.task_steps.specs.declared.table.Deed.{Deed}
pub use Rattle.task_steps.specs.declared.table.Member.{Member}
pub use Rattle.task_steps.specs.declared.table.Slot.{Slot}
pub use Rattle.task_steps.specs.declared.table.Slot.TheVariants.{Empty, Future}
pub use Rattle.task_steps.specs.declared.table.Tries.{Tries}
pub use Rattle.task_steps.specs.declared.table.View.{View}
pub use Rattle.task_steps.specs.Rule.{TaskPlace}
