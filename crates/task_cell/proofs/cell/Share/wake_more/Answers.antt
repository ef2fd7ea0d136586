use Rattle.std.proofs.Common.{arith}
use Rattle.task_cell.proofs.Vocabulary.{refl, ◌∙◌, None, to_wake}
use Rattle.task_cell.proofs.Attempts.{bring_still, changed_after, decided, ended_after, may_still}
use Rattle.task_cell.proofs.WakerMoves.{lent_stands, may_wake, wake_decides, wake_made, wakes_over}
use Rattle.task_cell.proofs.cell.Share.wake_more.Goals as goal

pub attempt_some-requires-clause-allowed : goal.attempt_some-requires-clause-allowed
attempt_some-requires-clause-allowed g c = let s = c.requires.party in may_still _ _ _ _ s.0.seat.me _ to_wake c.args.word refl s.2.number s.2.seen (may_wake _ _ _ _ _ s.0 (lent_stands _ _ s.0 s.1)).0

pub attempt_some-requires-clause-shares : goal.attempt_some-requires-clause-shares
attempt_some-requires-clause-shares g c = let s = c.requires.party in bring_still _ _ _ s.0.seat.me _ to_wake c.args.word s.2.number s.2.seen (may_wake _ _ _ _ _ s.0 (lent_stands _ _ s.0 s.1)).1

pub deliverer_of-made-requires-clause-made : goal.deliverer_of-made-requires-clause-made
deliverer_of-made-requires-clause-made g c = let s = c.requires.party in (s.0, lent_stands _ _ s.0 s.1, changed_after _ _ to_wake c.args.word c.in-Made.found s.0.seat.me _ _ refl s.2.seen c.in-Made.ensures.tried)

pub woken-requires-clause-path : goal.woken-requires-clause-path
woken-requires-clause-path g c = let s = c.requires.party in
    (s.0, s.1, c.deliverer_of-made.ensures.path s.0 (lent_stands _ _ s.0 s.1) (c.in-Made.ensures.seat.0 ∙ s.2.cell) (changed_after _ _ to_wake c.args.word c.in-Made.found s.0.seat.me _ _ refl s.2.seen c.in-Made.ensures.tried))

pub returns-in-Ended-clause-nothing : goal.returns-in-Ended-clause-nothing
returns-in-Ended-clause-nothing g c = let s = c.requires.party in
    wake_made _ _ s.0 c.attempt_some.new.party _ None s.1 refl (wakes_over _ _ s.0 c.attempt_some.new.party (lent_stands _ _ s.0 s.1) (c.in-Ended.ensures.seat.0 ∙ s.2.cell) (ended_after _ _ to_wake c.args.word _ s.0.seat.me _ _ refl s.2.seen c.in-Ended.ensures.tried))

pub returns-in-Again-clause-missed : goal.returns-in-Again-clause-missed
returns-in-Again-clause-missed g c = let s = c.requires.party in let e = c.in-Again.ensures in let limit = c.args.self.now.block.key.limit in let l = decided limit to_wake c.in-Again.field-0 (wake_decides limit) e.looked in let h = c.requires.missed in
    (e.seat.0 ∙ (s.2.cell ∙ s.1.0), omega (arith, l, h))
