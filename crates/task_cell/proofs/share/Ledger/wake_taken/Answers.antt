use Rattle.task_cell.proofs.Vocabulary.{[], ap, held}
use Rattle.task_cell.proofs.RunRest.{wakes_has, wakes_none, has_hand}
use Rattle.task_cell.proofs.share.Ledger.wake_taken.Goals as goal

pub note_woken-requires-clause-party : goal.note_woken-requires-clause-party
note_woken-requires-clause-party g c = let s = c.requires.party in let h = has_hand s.0 c.in-Some.awaiter.value (held c.args.awaiter) c.args.party.now s.1 (ap held c.in-Some.is) in (h.0, s.0, [], h.1)

pub returns-in-Some : goal.returns-in-Some
returns-in-Some g c = λ way h. let made : (told : g.row.A-Record.Denot) × g.A.Wake.woken c.in-Some.awaiter.value.awaiter told = assumption c in wakes_has _ way c.in-Some.awaiter.value (held c.args.awaiter) c.args.party.now c.note_woken.new.party h (ap held c.in-Some.is) (c.in-Some.awaiter.value, made.0, made.1) c.note_woken.ensures

pub returns-in_default : goal.returns-in_default
returns-in_default g c = λ way h. wakes_none _ way (held c.args.awaiter) c.args.party.now h (ap held c.in_default.is)
