use Rattle.task_cell.proofs.Vocabulary.{Party, refl, sym, ◌∙◌}
use Rattle.task_steps.proofs.Lending.{wakes_anew}
use Rattle.task_cell.proofs.WakerMoves.{looks_once, looks_open, looks_over, unmoved}
use Rattle.task_cell.proofs.cell.Share.look_to_wake.Goals as goal

pub load_new_seat-found-requires : goal.load_new_seat-found-requires
load_new_seat-found-requires g c = record { allowed = wakes_anew _ _ _ _ _ }

pub returns-then-is_end-clause-over : goal.returns-then-is_end-clause-over
returns-then-is_end-clause-over g c = let limit = c.args.self.now.block.key.limit in let e = c.load_new_seat-found.ensures.seat in let q : Party _ _ _ = record { seat = c.load_new_seat-found.result.1 } in
    (unmoved limit q, (e.0, refl), looks_over limit c.load_new_seat-found.result.0 c.from_bits-word.result q c.from_bits-word.ensures (sym c.is_end.ensures ∙ c.if-is_end.true) e.2)

pub returns-else-is_end-clause-looks : goal.returns-else-is_end-clause-looks
returns-else-is_end-clause-looks g c = let limit = c.args.self.now.block.key.limit in let e = c.load_new_seat-found.ensures.seat in let q : Party _ _ _ = record { seat = c.load_new_seat-found.result.1 } in
    (unmoved limit q, (e.0, refl), looks_open limit c.load_new_seat-found.result.0 c.from_bits-word.result q c.from_bits-word.ensures (sym c.is_end.ensures ∙ c.if-is_end.false) e.2)

pub returns-else-is_end-clause-seen : goal.returns-else-is_end-clause-seen
returns-else-is_end-clause-seen g c = let limit = c.args.self.now.block.key.limit in let e = c.load_new_seat-found.ensures.seat in let q : Party _ _ _ = record { seat = c.load_new_seat-found.result.1 } in
    looks_once limit c.load_new_seat-found.result.0 c.from_bits-word.result q c.from_bits-word.ensures (sym c.is_end.ensures ∙ c.if-is_end.false) e.2
