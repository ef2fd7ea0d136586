-- 3 of 16: where a party stands in its call, and what it may do there, as the modules `positions` and `acts` declare it.
pub use Rattle.task_laws.specs.declared.positions.Rest.{Rest}
pub use Rattle.task_laws.specs.declared.positions.Rest.TheVariants.{Runnable, Waker, Lent, Ended, Task}
pub use Rattle.task_laws.specs.declared.positions.WithoutPoll.{WithoutPoll}
pub use Rattle.task_laws.specs.declared.positions.WithoutPoll.TheVariants.{ClosedRun, DroppedRunnable}
pub use Rattle.task_laws.specs.declared.positions.NotifyingCall.{NotifyingCall}
pub use Rattle.task_laws.specs.declared.positions.NotifyingCall.TheVariants.{OfRun, OfDrop, OfCancel, OfPoll, OfClaim}
pub use Rattle.task_laws.specs.declared.positions.OnceDelivered.{OnceDelivered}
pub use Rattle.task_laws.specs.declared.positions.OnceDelivered.TheVariants.{ThenEnds, ThenTask, ThenNotifies}
pub use Rattle.task_laws.specs.declared.positions.Position.{Position}
pub use Rattle.task_laws.specs.declared.positions.Position.TheVariants.{At, CallEnding, Deliverer, Starting, Polling, Pending, Ready}
pub use Rattle.task_laws.specs.declared.positions.Position.TheVariants.{ReadyFutureDropped, OutputStored, PendingFutureDropped}
pub use Rattle.task_laws.specs.declared.positions.Position.TheVariants.{FutureInHand, FutureGone, OutputInHand, GivingUp, Emptier, Notifier}
pub use Rattle.task_laws.specs.declared.positions.Position.TheVariants.{Taker, Releaser, AwaiterInHand, OrphanHolder, Registrar, HasClone}
pub use Rattle.task_laws.specs.declared.positions.Position.TheVariants.{UnusedClone, Storing, Registered, TookBack, CloneInHand, Looking}
pub use Rattle.task_laws.specs.declared.positions.Position.TheVariants.{SawOutput, TookOutput, OldAwaiterInHand, Answering, OutputCloser}
pub use Rattle.task_laws.specs.declared.positions.Position.TheVariants.{Detacher}
pub use Rattle.task_core.specs.declared.acts.Act.{Act}
pub use Rattle.task_core.specs.declared.acts.Act.TheVariants.{GainReference, FindLimit, DropWaker, DropLastWaker, OrphanTask, CloseOrphan}
pub use Rattle.task_core.specs.declared.acts.Act.TheVariants.{GiveUpReference, GiveUpLastReference, WakeOver, WakeScheduled, WakeRunning}
pub use Rattle.task_core.specs.declared.acts.Act.TheVariants.{WakeIdle, DiscardOpen, DiscardClosed, CancelOver, CancelBusy, CancelIdle}
pub use Rattle.task_core.specs.declared.acts.Act.TheVariants.{ClaimOutput, GiveUpOutput, DetachOrphan, DetachLast, Detach, TakeUpClosed}
pub use Rattle.task_core.specs.declared.acts.Act.TheVariants.{StartRun, Unschedule, Complete, CompleteDetached, EndClosed, Reschedule}
pub use Rattle.task_core.specs.declared.acts.Act.TheVariants.{EndIdle, EndOrphaned, BeginNotify, MissNotify, FindNotify, BeginRegister}
pub use Rattle.task_core.specs.declared.acts.Act.TheVariants.{EndNotify, EndRegister, EndRegisterNotified, Look, LookFinished, StartPoll}
pub use Rattle.task_core.specs.declared.acts.Act.TheVariants.{AnswerPending, AnswerReady, DropFuture, StoreOutput, DropOutput}
pub use Rattle.task_core.specs.declared.acts.Act.TheVariants.{HandOutOutput, CloneAwaiter, RefuseClone, StoreAwaiter, TakeAwaiter}
pub use Rattle.task_core.specs.declared.acts.Act.TheVariants.{WakeAwaiter, DropAwaiter, HandOver, EmptySlots, RefuseGain, EndCall}
