-- 2 of 6: what a party does, as the module `acts` declares it.
pub use Rattle.task_core.specs.declared.acts.Act.{Act}
pub use Rattle.task_core.specs.declared.acts.Act.TheVariants.{GainReference, FindLimit, DropWaker, DropLastWaker, OrphanTask, CloseOrphan}
pub use Rattle.task_core.specs.declared.acts.Act.TheVariants.{GiveUpReference, GiveUpLastReference, WakeOver, WakeScheduled, WakeRunning}
pub use Rattle.task_core.specs.declared.acts.Act.TheVariants.{WakeIdle, DiscardOpen, DiscardClosed, CancelOver, CancelBusy, CancelIdle}
pub use Rattle.task_core.specs.declared.acts.Act.TheVariants.{ClaimOutput, GiveUpOutput, DetachOrphan, DetachLast, Detach, TakeUpClosed}
pub use Rattle.task_core.specs.declared.acts.Act.TheVariants.{StartRun, Unschedule, Complete, CompleteDetached, EndClosed, Reschedule}
pub use Rattle.task_core.specs.declared.acts.Act.TheVariants.{EndIdle, EndOrphaned, BeginNotify, MissNotify, FindNotify, BeginRegister}
pub use Rattle.task_core.specs.declared.acts.Act.TheVariants.{EndNotify, EndRegister, EndRegisterNotified, Look, LookFinished, StartPoll}
pub use Rattle.task_core.specs.declared.acts.Act.TheVariants.{AnswerPending, AnswerReady, DropFuture, StoreOutput, DropOutput}
pub use Rattle.task_core.specs.declared.acts.Act.TheVariants.{HandOutOutput, CloneAwaiter, RefuseClone, StoreAwaiter, TakeAwaiter}
pub use Rattle.task_core.specs.declared.acts.Act.TheVariants.{WakeAwaiter, DropAwaiter, HandOver, EmptySlots, RefuseGain, EndCall}
