use Rattle.task_cell.specs.Woken.{WokeStored}
use Rattle.task_cell.proofs.Vocabulary.{◌∙◌, sym, ap, subst, EndsUnready, HandedOver, Future}
use Rattle.task_cell.specs.Belongs.{cell_of}
use Rattle.task_cell.proofs.Moved.{stands, limit_is}
use Rattle.task_cell.proofs.Running.{shut, started, noted_cell, noted_limit, noted_ready, noted_pending, run_closed, run_ready, run_pending}
use Rattle.task_core.specs.Yielded.{polled}
use Rattle.task_cell.specs.Belongs.{HasYielded, IsContinued}
use Rattle.task_steps.specs.declared.kept.Kept.{Kept}
use Rattle.task_cell.proofs.cell.Share.run.Goals as goal

pub end_closed_run-requires-clause-cell : goal.end_closed_run-requires-clause-cell
end_closed_run-requires-clause-cell g c = let s = shut c.args.party c.begin_run-party.result.0 c.begin_run-party.result.1 c.begin_run-party.ensures c.if-not-started.true in s.did.cell ∙ c.requires.cell.0

pub end_closed_run-requires-clause-party : goal.end_closed_run-requires-clause-party
end_closed_run-requires-clause-party g c = let s = shut c.args.party c.begin_run-party.result.0 c.begin_run-party.result.1 c.begin_run-party.ensures c.if-not-started.true in
    (s.place, stands c.args.party c.begin_run-party.result.0 _ _ _ s.did)

pub returns-then-not-started : goal.returns-then-not-started
returns-then-not-started g c = let s = shut c.args.party c.begin_run-party.result.0 c.begin_run-party.result.1 c.begin_run-party.ensures c.if-not-started.true in
    record { path = run_closed _ _ _ c.args.party c.begin_run-party.result.0 c.end_closed_run.result s c.end_closed_run.ensures }

pub poll_future-share-requires-clause-cell : goal.poll_future-share-requires-clause-cell
poll_future-share-requires-clause-cell g c = let s = started c.args.party c.begin_run-party.result.0 c.begin_run-party.result.1 c.begin_run-party.ensures c.if-not-started.false in
    s.did.cell ∙ c.requires.cell.0

pub poll_future-share-requires-clause-limit : goal.poll_future-share-requires-clause-limit
poll_future-share-requires-clause-limit g c = let s = started c.args.party c.begin_run-party.result.0 c.begin_run-party.result.1 c.begin_run-party.ensures c.if-not-started.false in
    limit_is _ _ _ _ _ s.did ∙ c.requires.cell.1

pub poll_future-share-requires-clause-party : goal.poll_future-share-requires-clause-party
poll_future-share-requires-clause-party g c = let s = started c.args.party c.begin_run-party.result.0 c.begin_run-party.result.1 c.begin_run-party.ensures c.if-not-started.false in
    (s.place, stands c.args.party c.begin_run-party.result.0 _ _ _ s.did, s.future)

pub end_ready_run-ended-requires-clause-cell : goal.end_ready_run-ended-requires-clause-cell
end_ready_run-ended-requires-clause-cell g c = let s = started c.args.party c.begin_run-party.result.0 c.begin_run-party.result.1 c.begin_run-party.ensures c.if-not-started.false in let p = c.poll_future-share.ensures in
    noted_cell _ _ _ _ _ p.once.3 ∙ (s.did.cell ∙ (c.requires.cell.0 ∙ ap (λ z. z.block.id) (sym p.share)))

pub end_ready_run-ended-requires-clause-party : goal.end_ready_run-ended-requires-clause-party
end_ready_run-ended-requires-clause-party g c = let p = c.poll_future-share.ensures in
    (Future p.once.1, stands _ _ _ _ _ (noted_ready _ _ _ _ _ _ p.once.3 c.in-Ready.is))

pub end_ready_run-ended-requires-clause-yielded : goal.end_ready_run-ended-requires-clause-yielded
end_ready_run-ended-requires-clause-yielded g c = let p = c.poll_future-share.ensures in subst (λ (k : Kept g.row.F.Denot g.row.F-Output.Denot g.F.Yields). HasYielded c.poll_future-share.result.0 k.output) (sym c.new.ensures) (subst (λ s. HasYielded s c.in-Ready.output) (sym p.share)
    (record { before = p.once.0; after = p.once.1; continued = p.once.5; answered = subst (λ answer. g.F.Yields.moves p.once.0 answer p.once.1) c.in-Ready.is p.once.6 }))

pub returns-in-Ready : goal.returns-in-Ready
returns-in-Ready g c = let s = started c.args.party c.begin_run-party.result.0 c.begin_run-party.result.1 c.begin_run-party.ensures c.if-not-started.false in let p = c.poll_future-share.ensures in
    record {
      path = run_ready _ _ _ c.args.party c.begin_run-party.result.0 c.end_ready_run-ended.result s c.poll_future-share.result.2 c.in-Ready.output c.in-Ready.is (p.once.0, p.once.1, p.once.5, p.once.6, p.once.4)
          (c.end_ready_run-ended.ensures c.begin_run-party.result.0 (Future p.once.1) (noted_ready _ _ _ _ _ _ p.once.3 c.in-Ready.is));
    }

pub end_pending_run-requires-clause-cell : goal.end_pending_run-requires-clause-cell
end_pending_run-requires-clause-cell g c = let s = started c.args.party c.begin_run-party.result.0 c.begin_run-party.result.1 c.begin_run-party.ensures c.if-not-started.false in let p = c.poll_future-share.ensures in
    (noted_cell _ _ _ _ _ p.once.3 ∙ (s.did.cell ∙ (c.requires.cell.0 ∙ ap (λ z. z.block.id) (sym p.share))), noted_limit _ _ _ _ _ p.once.3 ∙ (limit_is _ _ _ _ _ s.did ∙ (c.requires.cell.1 ∙ ap (λ z. z.block.key.limit) (sym p.share))))

pub end_pending_run-requires-clause-room : goal.end_pending_run-requires-clause-room
end_pending_run-requires-clause-room g c = (noted_pending _ _ _ _ _ c.poll_future-share.ensures.once.3 c.in-Pending.is).0

pub end_pending_run-requires-clause-party : goal.end_pending_run-requires-clause-party
end_pending_run-requires-clause-party g c = let p = c.poll_future-share.ensures in (
  c.begin_run-party.result.0,
  Future p.once.1,
  (noted_pending _ _ _ _ _ p.once.3 c.in-Pending.is).1,
  subst (λ s. IsContinued s p.once.1) (sym p.share) (polled p.once.0 p.once.1 p.once.5 (subst (λ answer. g.F.Yields.moves p.once.0 answer p.once.1) c.in-Pending.is p.once.6)),
)

pub returns-in-Pending : goal.returns-in-Pending
returns-in-Pending g c = let s = started c.args.party c.begin_run-party.result.0 c.begin_run-party.result.1 c.begin_run-party.ensures c.if-not-started.false in let p = c.poll_future-share.ensures in
    record {
      path = run_pending _ _ _ c.args.party c.begin_run-party.result.0 c.end_pending_run.result.0 s c.poll_future-share.result.2 c.in-Pending.is c.end_pending_run.result.1 (p.once.0, p.once.1, p.once.5, p.once.6, p.once.4)
          (subst (λ z. EndsUnready (WokeStored g.A.Wake.woken) (HandedOver g.Q.Schedule.scheduled z c.args.around) c.end_pending_run.result.1 c.begin_run-party.result.0 c.end_pending_run.result.0) (ap cell_of p.share)
          (c.end_pending_run.ensures c.begin_run-party.result.0 (Future p.once.1) (noted_pending _ _ _ _ _ p.once.3 c.in-Pending.is).1));
    }
