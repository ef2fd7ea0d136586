use Rattle.task_cell.proofs.Vocabulary.{refl, ◌∙◌, to_wake}
use Rattle.task_cell.proofs.Attempts.{seen_on, may_still, bring_still, changed_after, ended_after}
use Rattle.task_cell.proofs.WakerMoves.{may_wake, wakes_over}
use Rattle.task_cell.proofs.cell.Share.wake_again.Goals as goal

pub attempt_again-requires-clause-room : goal.attempt_again-requires-clause-room
attempt_again-requires-clause-room g c = c.requires.party.2.room

pub attempt_again-requires-clause-seen : goal.attempt_again-requires-clause-seen
attempt_again-requires-clause-seen g c = let s = c.requires.party in seen_on c.args.word s.0.seat.me _ s.2.seen

pub attempt_again-requires-clause-allowed : goal.attempt_again-requires-clause-allowed
attempt_again-requires-clause-allowed g c = let s = c.requires.party in may_still _ _ _ _ s.0.seat.me _ to_wake c.args.word refl s.2.number s.2.seen (may_wake _ _ _ _ _ s.0 s.1).0

pub attempt_again-requires-clause-shares : goal.attempt_again-requires-clause-shares
attempt_again-requires-clause-shares g c = let s = c.requires.party in bring_still _ _ _ s.0.seat.me _ to_wake c.args.word s.2.number s.2.seen (may_wake _ _ _ _ _ s.0 s.1).1

pub deliverer_of-requires-clause-cell : goal.deliverer_of-requires-clause-cell
deliverer_of-requires-clause-cell g c = c.in-Ok.ensures.cell ∙ c.requires.cell.0

pub deliverer_of-requires-clause-made : goal.deliverer_of-requires-clause-made
deliverer_of-requires-clause-made g c = let s = c.requires.party in (s.0, s.1, changed_after _ _ to_wake c.args.word c.in-Ok.made.0 s.0.seat.me _ _ refl s.2.seen c.in-Ok.ensures.changed)

pub returns-in-Ok-clause-path : goal.returns-in-Ok-clause-path
returns-in-Ok-clause-path g c = λ p s x. c.deliverer_of.ensures.path p s (c.in-Ok.ensures.cell ∙ x.cell) (changed_after _ _ to_wake c.args.word c.in-Ok.made.0 p.seat.me _ _ refl x.seen c.in-Ok.ensures.changed)

pub returns-in-Err-clause-path : goal.returns-in-Err-clause-path
returns-in-Err-clause-path g c = λ p s x. wakes_over _ _ p c.attempt_again.new.party s (c.in-Err.ensures.cell ∙ x.cell) (ended_after _ _ to_wake c.args.word _ p.seat.me _ _ refl x.seen c.in-Err.ensures.ended)
