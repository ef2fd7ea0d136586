use Rattle.task_cell.proofs.Vocabulary.{refl, ◌∙◌, to_wake}
use Rattle.task_cell.proofs.Attempts.{bring_still, changed_after, decided, ended_after, may_still, misses_more, seeing_both}
use Rattle.task_cell.proofs.WakerMoves.{lent_stands, may_wake, wake_decides, wakes_over}
use Rattle.task_cell.proofs.cell.Share.wake_once.Goals as goal

pub try_once-requires-clause-allowed : goal.try_once-requires-clause-allowed
try_once-requires-clause-allowed g c = let s = c.in-Ok.ensures.looks in may_still _ _ _ _ s.0.seat.me _ to_wake c.in-Ok.looked.1 refl s.2.number s.2.seen (may_wake _ _ _ _ _ s.0 (lent_stands _ _ s.0 s.1)).0

pub try_once-requires-clause-shares : goal.try_once-requires-clause-shares
try_once-requires-clause-shares g c = let s = c.in-Ok.ensures.looks in bring_still _ _ _ s.0.seat.me _ to_wake c.in-Ok.looked.1 s.2.number s.2.seen (may_wake _ _ _ _ _ s.0 (lent_stands _ _ s.0 s.1)).1

pub deliverer_of-woken-requires-clause-made : goal.deliverer_of-woken-requires-clause-made
deliverer_of-woken-requires-clause-made g c = let s = c.in-Ok.ensures.looks in (s.0, lent_stands _ _ s.0 s.1, changed_after _ _ to_wake c.in-Ok.looked.1 c.in-Made.found s.0.seat.me _ _ refl s.2.seen c.in-Made.ensures.tried)

pub returns-in-Made-clause-path : goal.returns-in-Made-clause-path
returns-in-Made-clause-path g c = let s = c.in-Ok.ensures.looks in
    (s.0, s.1, c.deliverer_of-woken.ensures.path s.0 (lent_stands _ _ s.0 s.1) (c.in-Made.ensures.seat.0 ∙ s.2.cell) (changed_after _ _ to_wake c.in-Ok.looked.1 c.in-Made.found s.0.seat.me _ _ refl s.2.seen c.in-Made.ensures.tried))

pub returns-in-Ended-clause-path : goal.returns-in-Ended-clause-path
returns-in-Ended-clause-path g c = let s = c.in-Ok.ensures.looks in
    (s.0, s.1, wakes_over _ _ s.0 c.try_once.new.party (lent_stands _ _ s.0 s.1) (c.in-Ended.ensures.seat.0 ∙ s.2.cell) (ended_after _ _ to_wake c.in-Ok.looked.1 _ s.0.seat.me _ _ refl s.2.seen c.in-Ended.ensures.tried))

pub returns-in-Again-clause-again : goal.returns-in-Again-clause-again
returns-in-Again-clause-again g c = let s = c.in-Ok.ensures.looks in let e = c.in-Again.ensures in
    (s.0, s.1, record { cell = e.seat.0 ∙ s.2.cell; number = e.seat.1 ∙ s.2.number; room = e.tried.0; seen = seeing_both c.in-Ok.looked.1 _ s.0.seat.me _ _ s.2.seen e.tried.1 })

pub returns-in-Again-clause-missed : goal.returns-in-Again-clause-missed
returns-in-Again-clause-missed g c = let s = c.in-Ok.ensures.looks in let e = c.in-Again.ensures in let limit = c.args.self.now.block.key.limit in
    misses_more 0 c.in-Ok.looked.1 c.in-Again.found s.0.seat.me c.in-Ok.looked.0.seat.me c.try_once.new.party.seat.me s.2.seen e.again.0 (decided limit to_wake c.in-Again.found (wake_decides limit) e.again.1) c.in-Ok.ensures.seen
