use Rattle.task_cell.proofs.Vocabulary.{◌∙◌}
use Rattle.task_cell.proofs.PollStores.{stands_over, stored_over, stored_alone}
use Rattle.task_cell.proofs.cell.Share.store.Goals as goal

pub note_old_dropped-requires-clause-cell : goal.note_old_dropped-requires-clause-cell
note_old_dropped-requires-clause-cell g c = let s = c.requires.party in (c.put_clone.ensures s.0 s.1 s.2 s.3 s.4).1.cell ∙ c.requires.cell

pub note_old_dropped-requires-clause-party : goal.note_old_dropped-requires-clause-party
note_old_dropped-requires-clause-party g c = let s = c.requires.party in let t = stands_over s.0 s.1 c.args.clone.value c.args.party.now c.put_clone.new.party c.put_clone.result c.in-Some.old (c.put_clone.ensures s.0 s.1 s.2 s.3 s.4) c.in-Some.is in (s.0, t.0, c.args.clone.value, t.1)

pub returns-in-Some : goal.returns-in-Some
returns-in-Some g c = let s = c.requires.party in stored_over s.0 s.1 s.2 c.args.clone.value c.args.party.now c.put_clone.new.party c.note_old_dropped.new.party c.put_clone.result c.in-Some.old s.3 (c.put_clone.ensures s.0 s.1 s.2 s.3 s.4) c.in-Some.is c.note_old_dropped.ensures

pub returns-in_default : goal.returns-in_default
returns-in_default g c = let s = c.requires.party in stored_alone s.0 s.1 s.2 c.args.clone.value c.args.party.now c.put_clone.new.party c.put_clone.result s.3 (c.put_clone.ensures s.0 s.1 s.2 s.3 s.4) c.in_default.is
