use Rattle.std.proofs.Common.{[], ◌∷◌, sym, subst}
use Rattle.std.proofs.lemmas.Option.{IfSome_then}
use Rattle.task_core.specs.declared.acts.Act.TheVariants.{WakeAwaiter}
use Rattle.task_exports.proofs.DiscardCall.{Releases, given_last, given_over}
use Rattle.task_exports.specs.declared.hand.Record.{Record}
use Rattle.task_steps.specs.Deeds.{act}
use Rattle.task_exports.proofs.calls.discard.wake_taken.Goals as goal

pub over-requires-clause-gone : goal.over-requires-clause-gone
over-requires-clause-gone g c = let s = c.async_task_discard_woken.ensures.path in (given_over (act WakeAwaiter ∷ []) _ _ _ s c.in-1.is).0

pub over-requires-clause-party : goal.over-requires-clause-party
over-requires-clause-party g c = let s = c.async_task_discard_woken.ensures.path in (given_over (act WakeAwaiter ∷ []) _ _ _ s c.in-1.is).1

pub returns-in-1 : goal.returns-in-1
returns-in-1 g c = let s = c.async_task_discard_woken.ensures.path in ((c.in-Some.awaiter, c.wake.result, c.wake.ensures), subst (λ q. Releases (act WakeAwaiter ∷ []) c.args.h.now.hand.party q) (sym c.over.ensures) (given_over (act WakeAwaiter ∷ []) _ _ _ s c.in-1.is).2)

pub empty-requires-clause-handle : goal.empty-requires-clause-handle
empty-requires-clause-handle g c = let s = c.async_task_discard_woken.ensures.path in (c.async_task_discard_woken.ensures.there, (given_last (act WakeAwaiter ∷ []) _ _ _ s c.in-9.is).0)

pub empty-requires-clause-party : goal.empty-requires-clause-party
empty-requires-clause-party g c = let s = c.async_task_discard_woken.ensures.path in (given_last (act WakeAwaiter ∷ []) _ _ _ s c.in-9.is).1

pub returns-in-9 : goal.returns-in-9
returns-in-9 g c = let s = c.async_task_discard_woken.ensures.path in IfSome_then c.empty.result c.empty.ensures (λ (ended : Record). λ d. ((c.in-Some.awaiter, c.wake.result, c.wake.ensures), (given_last (act WakeAwaiter ∷ []) _ _ _ s c.in-9.is).2 ended.party d))
