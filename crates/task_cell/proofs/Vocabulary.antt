-- The names from below that the proofs of the cell share.
pub use Rattle.atomic_table.specs.Table.{Allows, Final, Me, Seen, Splits, Valid, carried_after, gives, rest, step, stepped, turned}
pub use Rattle.std.proofs.Common.{Bool, IfSome, List, None, Option, Some, [], ap, arith, false, get_or, get_or-set_same, inl, inr, is_some, length, length-set}
pub use Rattle.std.proofs.Common.{map, not, refl, rules, set, subst, suc, sym, true, zero, ℕ, ⊎_elim, ◌&&◌, ◌++◌, ◌+◌, ◌<◌, ◌==◌, ◌||◌, ◌∙◌, ◌∷◌, ◌≡◌, ◌≢◌, ◌⊎◌}
pub use Rattle.std.specs.Prelude.{Err, IfErr, IfOk, Ok, Result, if◌then◌else◌, nat_eq, nat_lt}
pub use Rattle.task_cell.specs.Calls.{Fits, Did, DidWith, IsNew, MayAct, MayGiveUp, MayMake, MayNote, Notifies, Sees, Stands, StandsWith, deeds, finds_none, places_of, limit_of, misses, position}
pub use Rattle.task_cell.specs.Calls.{takes_awaiter}
pub use Rattle.task_cell.specs.Handed.{HandedOver, PolledOnce}
pub use Rattle.task_cell.specs.PollPaths.{AnswerPath, BeginsRegister, ClaimsOutput, EndsRegister, Looks, LooksAgain, PollPath, RegisterPath, Registers}
pub use Rattle.task_cell.specs.PollPaths.{TakePath, TakePathIf, begins, claims_output, claims_output_now, clone_refused, dropped_if, ends, finds_ended}
pub use Rattle.task_cell.specs.PollPaths.{finds_notified, finds_one, finds_output, has_ended_since, has_output_since, has_to_wait_on, is_registered, sees_end}
pub use Rattle.task_cell.specs.PollPaths.{sees_none, waits}
pub use Rattle.task_cell.specs.RunCalls.{AnswersPending, Closes, ClosesPending, Completes, Discards, EndsPending, EndsReady, EndsUnready, GivesUp, HasTaken}
pub use Rattle.task_cell.specs.RunCalls.{Releases, Rests, Stores, TakesDue, Wakes, clears, finds_detached, has_none, has_one, is_closed, is_idle, is_orphaned}
pub use Rattle.task_cell.specs.RunCalls.{is_rescheduled, keeps, last, not_last, stays_pending, takes_none, takes_one}
pub use Rattle.task_cell.specs.RunPaths.{DiscardStart, NotifyPath, RunPath, WakePath, closed_meanwhile, closed_run, found_closed, found_open, idle, kept}
pub use Rattle.task_cell.specs.RunPaths.{nobody, none_there, not_claimed, orphaned, ready, rests, taken, woken, woken_meanwhile}
pub use Rattle.task_cell.specs.Starts.{TakesUp, finds_closed, starts}
pub use Rattle.task_cell.specs.TaskPaths.{CancelPath, Cancels, DetachPath, Detaches, GivesTaskUp, Notice, drops_output_last, found_none, is_busy, is_last}
pub use Rattle.task_cell.specs.TaskPaths.{is_shared, not_due, woke}
pub use Rattle.task_cell.specs.WakerPaths.{DropsWaker, Gains, WakerDropPath, WakesTask, finds_limit, gains_none, gains_one, is_gained}
pub use Rattle.task_cell.specs.WakerPaths.{is_running, is_scheduled, leaves_none, leaves_orphan, leaves_others, makes_none, makes_one}
pub use Rattle.counted_block.specs.declared.place.Place.TheVariants.{First, Second}
pub use Rattle.task_cell.specs.Witnessed.{IsWitnessed, WasMade, Witnesses}
pub use Rattle.task_cell.specs.declared.cell.Party.{Party}
pub use Rattle.task_core.specs.Rows.{found, written}
pub use Rattle.task_core.specs.Word.{State, is_open, number_of, state_of}
pub use Rattle.task_core.specs.declared.acts.Act.{Act}
pub use Rattle.task_core.specs.declared.acts.Act.TheVariants.{AnswerPending, AnswerReady, BeginNotify, BeginRegister, CancelBusy, CancelIdle, CancelOver}
pub use Rattle.task_core.specs.declared.acts.Act.TheVariants.{ClaimOutput, CloneAwaiter, CloseOrphan, Complete, CompleteDetached, Detach, DetachLast}
pub use Rattle.task_core.specs.declared.acts.Act.TheVariants.{DetachOrphan, DiscardClosed, DiscardOpen, DropAwaiter, DropFuture, DropLastWaker, DropOutput}
pub use Rattle.task_core.specs.declared.acts.Act.TheVariants.{DropWaker, EmptySlots, EndCall, EndClosed, EndIdle, EndNotify, EndOrphaned, EndRegister}
pub use Rattle.task_core.specs.declared.acts.Act.TheVariants.{EndRegisterNotified, FindLimit, FindNotify, GainReference, GiveUpLastReference, GiveUpOutput}
pub use Rattle.task_core.specs.declared.acts.Act.TheVariants.{GiveUpReference, HandOutOutput, HandOver, Look, MissNotify, OrphanTask, RefuseClone}
pub use Rattle.task_core.specs.declared.acts.Act.TheVariants.{Reschedule, StartPoll, StartRun, StoreAwaiter, StoreOutput, TakeAwaiter, TakeUpClosed, Unschedule}
pub use Rattle.task_core.specs.declared.acts.Act.TheVariants.{WakeAwaiter, WakeIdle, WakeOver, WakeRunning, WakeScheduled}
pub use Rattle.task_core.specs.declared.traits.TaskPoll.{TaskPoll}
pub use Rattle.task_laws.specs.Event.{FuturePollBegins, TakenUp, TaskPollBegins}
pub use Rattle.task_laws.specs.Holders.{owns_awaiter}
pub use Rattle.task_laws.specs.Machine.{Machine, scene}
pub use Rattle.task_laws.specs.Table.{Outcome, Slots, after_cancelling, after_giving_up, after_handing_over, after_storing, after_taking, after_waking}
pub use Rattle.task_laws.specs.Table.{changes_slots, first_look, is_held, leaves_slots, may_drop, notifies, when}
pub use Rattle.task_laws.specs.declared.positions.Answer.{Answer}
pub use Rattle.task_laws.specs.declared.positions.Answer.TheVariants.{Nothing, Ran}
pub use Rattle.task_laws.specs.declared.positions.NotifyingCall.{NotifyingCall}
pub use Rattle.task_laws.specs.declared.positions.NotifyingCall.TheVariants.{OfCancel, OfClaim, OfDrop, OfPoll, OfRun}
pub use Rattle.task_laws.specs.declared.positions.OnceDelivered.TheVariants.{ThenEnds}
pub use Rattle.task_laws.specs.declared.positions.PollAnswer.TheVariants.{IsClosed, IsPending}
pub use Rattle.task_laws.specs.declared.positions.Position.{Position}
pub use Rattle.task_laws.specs.declared.positions.Position.TheVariants.{Answering, At, AwaiterInHand, CallEnding, CloneInHand, Deliverer, Detacher, Emptier}
pub use Rattle.task_laws.specs.declared.positions.Position.TheVariants.{FutureGone, GivingUp, Looking, Notifier, OrphanHolder, OutputCloser, OutputInHand}
pub use Rattle.task_laws.specs.declared.positions.Position.TheVariants.{Pending, PendingFutureDropped, Polling, ReadyFutureDropped, Registered, Registrar, Releaser}
pub use Rattle.task_laws.specs.declared.positions.Position.TheVariants.{SawOutput, Starting, TookBack, TookOutput, UnusedClone}
pub use Rattle.task_laws.specs.declared.positions.Rest.{Rest}
pub use Rattle.task_laws.specs.declared.positions.Rest.TheVariants.{Ended, Lent, Runnable, Task, Waker}
pub use Rattle.task_laws.specs.declared.positions.WithoutPoll.TheVariants.{ClosedRun, DroppedRunnable}
pub use Rattle.task_steps.proofs.Acts.{both}
pub use Rattle.task_steps.proofs.Advance.{Finds, Steps, future_lies, takes_future}
pub use Rattle.task_steps.proofs.Allowed.{Owes, OwesEnd}
pub use Rattle.task_steps.proofs.Attempts.{may_try, never_ends}
pub use Rattle.task_steps.proofs.AwaiterOwed.{drops, on_free, on_work, releases_awaiter, same_way, takes, wakes}
pub use Rattle.task_steps.proofs.Bools.{never}
pub use Rattle.task_steps.proofs.Facts.{law, queued}
pub use Rattle.task_steps.proofs.Known.{steps_knowing}
pub use Rattle.task_steps.proofs.Owed.{looks_finished, unschedules}
pub use Rattle.task_steps.proofs.PollOwed.{begins_register, claims, claims_again, drops_clone, drops_stored, ends_notified, ends_poll, ends_register}
pub use Rattle.task_steps.proofs.PollOwed.{finds_notifier, first_free, hands_out, has_waited, looks, looks_again, refuses, same_first, sees_output}
pub use Rattle.task_steps.proofs.PollOwed.{takes_back, wakes_clone}
pub use Rattle.task_steps.proofs.RunOwed.{answers_pending, answers_ready, closed_already, completes, discards, due_work, empties, ends_closed, ends_pending}
pub use Rattle.task_steps.proofs.RunOwed.{given_free, given_work, gives_up}
pub use Rattle.task_steps.proofs.Seats.{leaves, retold, splits}
pub use Rattle.task_steps.proofs.Seen.{left_true, not_true, true_left, true_right}
pub use Rattle.task_steps.proofs.TaskOwed.{cancels, closed_claimed, detaches, drops_output, finds_over, gives_task_up, idle_cancel, output_left, busy_fits}
pub use Rattle.task_steps.proofs.TaskOwed.{none_left, over}
pub use Rattle.task_steps.proofs.WakerOwed.{closes_orphan, drops_waker, gains}
pub use Rattle.task_steps.proofs.WakerSeats.{parts_newest}
pub use Rattle.task_steps.specs.Attempts.{HasChanged, HasEnded, HasFound, HasLooked, HasMissed, HasSeen, IsUndecided, MayTry, Names, attempted, having_seen, looks_of, observed, tries_after}
pub use Rattle.task_steps.specs.Deeds.{act, after, row}
pub use Rattle.task_steps.specs.Held.{held}
pub use Rattle.task_steps.specs.PollScripts.{has_ended, has_output, has_to_wait}
pub use Rattle.task_steps.specs.Rule.{Explains, IsEmpty, IsFuture, IsOutput, RuleHolds, Running, Waits, fresh, has_work}
pub use Rattle.task_steps.specs.Rule.{TaskPlace, WorkAtHome, member, opening_view, view}
pub use Rattle.task_steps.specs.Scripts.{dropping_output, releasing_awaiter, taking_awaiter}
pub use Rattle.task_steps.specs.Standing.{as_deliverer, as_ended, as_runnable, as_task, as_waker, closing_way, handed_over, poll_number, rest_of, way_of}
pub use Rattle.task_steps.specs.Steps.{Awaits, Carried, Carries, Makes, TakesOutput, Works, acted, all_fit, and_then, awaiter_first, born_of, head_of, held_word}
pub use Rattle.task_steps.specs.Steps.{leaves_by, leaves_such, next_of, noted, saw, saw_closed, saw_ended, spot, work_first}
pub use Rattle.task_steps.specs.Witness.{Witness}
pub use Rattle.task_steps.proofs.Witnessed.{may_note_witness, may_witness, tells}
pub use Rattle.task_steps.specs.WakerScripts.{at_limit, closing_orphan, dropped_by, dropping_waker, others_left, to_gain, to_wake}
pub use Rattle.task_steps.specs.declared.table.Deed.{Deed}
pub use Rattle.task_steps.specs.declared.table.Member.{Member}
pub use Rattle.task_steps.specs.declared.table.Slot.{Slot}
pub use Rattle.task_steps.specs.declared.table.Slot.TheVariants.{Empty, Future, Output}
pub use Rattle.task_steps.specs.declared.table.View.{View}
pub use Rattle.task_steps.specs.declared.found.Cancelled.TheVariants.{Busy}
pub use Rattle.task_steps.specs.declared.found.Detached.TheVariants.{Unclaimed}
pub use Rattle.task_steps.specs.declared.found.Dropped.TheVariants.{Last, Shared}
pub use Rattle.task_steps.specs.declared.found.PendingEnd.TheVariants.{Idle, Orphaned, Rescheduled}
pub use mathlib.Core.Option.{none, some, some-injective, some-ne-none}
