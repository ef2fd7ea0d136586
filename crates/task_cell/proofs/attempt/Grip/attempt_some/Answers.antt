use Rattle.task_cell.proofs.Vocabulary.{inr, sym, refl, ap, ◌∙◌, subst, IsUndecided}
use Rattle.std.proofs.Common.{arith}
use Rattle.task_cell.proofs.Attempts.{seeing_first, seeing_both, looks_more, undecided, may_still_by, count_still_by, left_by, changed_by_key, ended_by_key}
use Rattle.task_cell.proofs.attempt.Grip.attempt_some.Goals as goal

pub loop-round-init : goal.loop-round-init
loop-round-init g c = let s = c.requires.seen in record { cell = refl; seat = refl; same = (refl, refl, refl); room = c.requires.room; seeing = seeing_first c.args.word c.args.party.now.seat.me s.0 s.1 s.2; looked = omega arith }

pub try_once-requires-clause-allowed : goal.try_once-requires-clause-allowed
try_once-requires-clause-allowed g c = let i = c.loop-round.invariant in may_still_by _ _ _ _ _ _ g.P.Change.attempt c.loop-round.word i.same.2 i.seat i.seeing c.requires.allowed

pub try_once-requires-clause-shares : goal.try_once-requires-clause-shares
try_once-requires-clause-shares g c = let i = c.loop-round.invariant in count_still_by g.Self.Grip.gives _ _ _ _ _ _ g.P.Change.attempt c.loop-round.word i.same.2 i.seat i.seeing c.requires.shares

pub returns-in-Made-clause-tried : goal.returns-in-Made-clause-tried
returns-in-Made-clause-tried g c = let i = c.loop-round.invariant in changed_by_key _ _ g.P.Change.attempt c.loop-round.word c.in-Made.row _ _ _ i.same.2 i.seeing c.in-Made.ensures.tried

pub returns-in-Ended-clause-tried : goal.returns-in-Ended-clause-tried
returns-in-Ended-clause-tried g c = let i = c.loop-round.invariant in ended_by_key _ _ g.P.Change.attempt c.loop-round.word c.in-Ended.found _ _ _ i.same.2 i.seeing c.in-Ended.ensures.tried

pub try_once-requires-clause-cell : goal.try_once-requires-clause-cell
try_once-requires-clause-cell g c = let i = c.loop-round.invariant in i.cell ∙ (c.requires.cell ∙ sym i.same.0)

pub try_once-requires-clause-limit : goal.try_once-requires-clause-limit
try_once-requires-clause-limit g c = let i = c.loop-round.invariant in let ends = g.P.Change.attempt.ends in λ w. ap (λ m. ends m.0.limit w) i.seeing.is ∙ (c.requires.limit w ∙ ap (λ k. ends k.limit w) (sym i.same.2))

pub returns-in-Made-clause-seat : goal.returns-in-Made-clause-seat
returns-in-Made-clause-seat g c = (c.in-Made.ensures.seat.0 ∙ c.loop-round.invariant.cell, c.in-Made.ensures.seat.1 ∙ c.loop-round.invariant.seat)

pub returns-in-Made-clause-share : goal.returns-in-Made-clause-share
returns-in-Made-clause-share g c = let i = c.loop-round.invariant in let e = c.in-Made.ensures.share in left_by g.Self.Grip.gives _ _ _ _ _ _ _ _ _ i.same e

pub returns-in-Ended-clause-seat : goal.returns-in-Ended-clause-seat
returns-in-Ended-clause-seat g c = (c.in-Ended.ensures.seat.0 ∙ c.loop-round.invariant.cell, c.in-Ended.ensures.seat.1 ∙ c.loop-round.invariant.seat)

pub returns-in-Ended-clause-share : goal.returns-in-Ended-clause-share
returns-in-Ended-clause-share g c = let i = c.loop-round.invariant in let e = c.in-Ended.ensures.share in (e.0 ∙ i.same.0, e.1 ∙ i.same.1, e.2 ∙ i.same.2)

pub returns-then-bits-clause-looked : goal.returns-then-bits-clause-looked
returns-then-bits-clause-looked g c = inr (subst (λ k. IsUndecided k.limit g.P.Change.attempt c.in-Again.found) c.loop-round.invariant.same.2
    (undecided g.P.Change.attempt _ c.loop-round.word c.in-Again.found (sym c.bits.ensures ∙ (c.if-bits.true ∙ c.bits-in-Again.ensures)) c.in-Again.ensures.again.1))

pub loop-round-preserved : goal.loop-round-preserved
loop-round-preserved g c = let i = c.loop-round.invariant in let e = c.in-Again.ensures in record {
  cell = e.seat.0 ∙ i.cell;
  seat = e.seat.1 ∙ i.seat;
  same = (e.share.0 ∙ i.same.0, e.share.1 ∙ i.same.1, e.share.2 ∙ i.same.2);
  room = e.tried.0;
  seeing = seeing_both c.loop-round.word c.in-Again.found c.args.party.now.seat.me c.loop-round.party.seat.me c.try_once.new.party.seat.me i.seeing e.tried.1;
  looked = looks_more c.loop-round.round c.loop-round.word c.in-Again.found c.args.party.now.seat.me c.loop-round.party.seat.me c.try_once.new.party.seat.me i.seeing e.again.0 (λ h. c.if-bits.false (c.bits.ensures ∙ (h ∙ sym c.bits-in-Again.ensures))) i.looked;
}
