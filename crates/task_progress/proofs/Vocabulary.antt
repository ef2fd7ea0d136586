-- The names of task_core and of task_laws that the proofs share.
pub use Rattle.task_core.specs.Rows.{written}
pub use Rattle.task_core.specs.Word.{State, bit, is_open, number_of}
pub use Rattle.task_core.specs.declared.acts.Act.{Act}
pub use Rattle.task_core.specs.declared.acts.Act.TheVariants.{AnswerPending, BeginNotify, BeginRegister, CancelBusy, CloneAwaiter, DiscardOpen, DropFuture}
pub use Rattle.task_core.specs.declared.acts.Act.TheVariants.{DropWaker, EndCall, EndIdle, EndRegister, FindNotify, GainReference, Look, MissNotify, StartPoll}
pub use Rattle.task_core.specs.declared.acts.Act.TheVariants.{StartRun, StoreAwaiter, TakeUpClosed, Unschedule}
pub use Rattle.task_laws.specs.declared.positions.NotifyingCall.TheVariants.{OfDrop}
pub use Rattle.task_laws.specs.declared.positions.Position.{Position}
pub use Rattle.task_laws.specs.declared.positions.Position.TheVariants.{Answering, At, AwaiterInHand, CallEnding, CloneInHand, Deliverer, Detacher, Emptier}
pub use Rattle.task_laws.specs.declared.positions.Position.TheVariants.{FutureGone, FutureInHand, GivingUp, HasClone, Looking, Notifier, OldAwaiterInHand}
pub use Rattle.task_laws.specs.declared.positions.Position.TheVariants.{OrphanHolder, OutputCloser, OutputInHand, OutputStored, Pending, PendingFutureDropped}
pub use Rattle.task_laws.specs.declared.positions.Position.TheVariants.{Polling, Ready, ReadyFutureDropped, Registered, Registrar, Releaser, SawOutput}
pub use Rattle.task_laws.specs.declared.positions.Position.TheVariants.{Starting, Storing, Taker, TookBack, TookOutput, UnusedClone}
pub use Rattle.task_laws.specs.declared.positions.Rest.{Rest}
pub use Rattle.task_laws.specs.declared.positions.Rest.TheVariants.{Runnable}
pub use Rattle.task_laws.specs.declared.positions.WithoutPoll.TheVariants.{ClosedRun, DroppedRunnable}
pub use Rattle.task_laws.specs.Event.{CallBegins, Event, FuturePollBegins, TakenUp, is_event}
pub use Rattle.task_laws.specs.Holders.{is_waker}
pub use Rattle.task_laws.specs.Laws.{count, how_often, is_call_end, is_output_end, no_call_is_left, wake_is_due}
pub use Rattle.task_laws.specs.Machine.{Machine, Step, after, begins, how_many, moves, opening, run, run_from, scene, step}
pub use Rattle.task_laws.specs.Table.{Outcome, Scene, Slots, rule, when, where_found}
pub use Rattle.task_laws.proofs.Awaiting.{Awaiting, await, awaiting, fits, join}
pub use Rattle.task_laws.proofs.Census.{Census, calls, census, closers, plus, runs, weigh}
pub use Rattle.task_laws.proofs.Cuts.{get_append, get_other}
pub use Rattle.task_laws.proofs.Handshake.{HandshakeHolds}
pub use Rattle.task_laws.proofs.Invariant.{Holds}
pub use Rattle.task_laws.proofs.Rows.{Row, Shows, by_rows, cancels_idle, cancels_idle_awaited, starts_run, wakes_idle_waker, wakes_running_lent}
pub use Rattle.task_laws.proofs.Rows.{wakes_running_waker}
pub use Rattle.task_laws.proofs.Runs.{Invariant, Stays, always, moves_stays, opens, others, split, split_awaiting}
pub use Rattle.task_laws.proofs.Scenes.{InEach, by_flag, closed, completed, notifying, registering, rules, scheduled, task}
pub use Rattle.task_laws.proofs.Theorem.{laws_hold, laws_of, wakers}
pub use Rattle.task_laws.proofs.WholeRuns.{count-append, same_number}
pub use Rattle.task_laws.proofs.Words.{rule_word}
