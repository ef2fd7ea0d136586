use Rattle.task_cell.proofs.Vocabulary.{[], refl, TookOutput, Empty, hands_out, work_first}
use Rattle.task_cell.proofs.Steps.{may_make}
use Rattle.task_cell.proofs.RunGoes.{at_rest}
use Rattle.task_cell.proofs.Carried.{exchanges_work}
use Rattle.task_cell.proofs.Moved.{stands}
use Rattle.task_cell.proofs.Carried.{lies_output}
use Rattle.task_cell.specs.Belongs.{values_in}
use Rattle.task_cell.proofs.Vocabulary.{IsOutput, sym, subst, ◌∙◌}
use Rattle.task_cell.proofs.cell.Share.hand_out.Goals as goal

pub load-requires-clause-allowed : goal.load-requires-clause-allowed
load-requires-clause-allowed g c = let s = c.requires.party in let e = c.take_work.ensures in
    let x = exchanges_work c.args.party.now c.args.party.now (record { seat = c.take_work.new.seat }) [] (TookOutput s.0) s.1 c.take_work.result.slot Empty [] (at_rest (TookOutput s.0) (work_first s.1 []) c.args.party.now c.args.party.now s.2 refl refl) e.0 e.2 e.3 in
    may_make _ (record { seat = c.take_work.new.seat }) (TookOutput s.0) (work_first Empty []) _ _ (stands c.args.party.now (record { seat = c.take_work.new.seat }) [] (TookOutput s.0) (work_first Empty []) x.1) (hands_out _ _ _ _ _ s.0 _ _ _ refl) (λ m f. refl)

pub into_output-output-requires : goal.into_output-output-requires
into_output-output-requires g c = let s = c.requires.party in let e = c.take_work.ensures in let x = lies_output (values_in c.args.self.now) s.1 s.3 in
    (x.0, sym (exchanges_work c.args.party.now c.args.party.now (record { seat = c.take_work.new.seat }) [] (TookOutput s.0) s.1 c.take_work.result.slot Empty [] (at_rest (TookOutput s.0) (work_first s.1 []) c.args.party.now c.args.party.now s.2 refl refl) e.0 e.2 e.3).0 ∙ x.1)

pub returns-clause-yielded : goal.returns-clause-yielded
returns-clause-yielded g c = let s = c.requires.party in let e = c.take_work.ensures in
    subst (λ y. IsOutput (values_in c.args.self.now) y) ((exchanges_work c.args.party.now c.args.party.now (record { seat = c.take_work.new.seat }) [] (TookOutput s.0) s.1 c.take_work.result.slot Empty [] (at_rest (TookOutput s.0) (work_first s.1 []) c.args.party.now c.args.party.now s.2 refl refl) e.0 e.2 e.3).0 ∙ c.into_output-output.ensures) s.3
