use Rattle.task_cell.proofs.Vocabulary.{sym, refl, ap, ◌∙◌, subst}
use Rattle.task_cell.proofs.Attempts.{seen_word, seeing_any, may_load, seeing_next, found_next, ends_at, ended, held_by}
use Rattle.task_cell.proofs.cell.Share.observe.Goals as goal
use Rattle.task_core.specs.Word.{HasRoom}

pub load-requires-clause-allowed : goal.load-requires-clause-allowed
load-requires-clause-allowed g c = let s = c.requires.seen in let self = c.args.self.now in
    may_load self.block.key.limit _ _ _ _ _ _ g.P.Change.attempt (seen_word s.0) refl refl refl (seeing_any c.args.party.now.seat.me s.0 s.1) c.requires.allowed

pub returns-then-is_end-clause-ended : goal.returns-then-is_end-clause-ended
returns-then-is_end-clause-ended g c = let s = c.requires.seen in let self = c.args.self.now in let seeing = seeing_any c.args.party.now.seat.me s.0 s.1 in let e = c.load.ensures.seat in let limit = ap (λ x. x.limit) c.cell.ensures ∙ sym self.fitting.0 in let w = c.from_bits-word.result in
    let over = sym (c.is_end.ensures ∙ ap (λ l. g.P.Change.attempt.ends l w) limit) ∙ c.if-is_end.true in
    ended self.block.key.limit _ g.P.Change.attempt (seen_word s.0) w _ _ _ seeing c.from_bits-word.ensures over
    (e.2.0 (ends_at g.P.Change.attempt.ends _ _ (seen_word s.0) _ _ _ _ c.requires.limit seeing c.from_bits-word.ensures over)) e.2.2

pub returns-else-is_end-clause-again : goal.returns-else-is_end-clause-again
returns-else-is_end-clause-again g c = let s = c.requires.seen in let self = c.args.self.now in let seeing = seeing_any c.args.party.now.seat.me s.0 s.1 in let e = c.load.ensures.seat in let limit = ap (λ x. x.limit) c.cell.ensures ∙ sym self.fitting.0 in let w = c.from_bits-word.result in (
  subst HasRoom (sym c.from_bits-word.ensures) e.2.2.room,
  seeing_next _ (seen_word s.0) w _ _ _ seeing c.from_bits-word.ensures
      (e.2.1 (ends_at g.P.Change.attempt.ends _ _ (seen_word s.0) _ _ _ _ c.requires.limit seeing c.from_bits-word.ensures (sym (c.is_end.ensures ∙ ap (λ l. g.P.Change.attempt.ends l w) limit) ∙ c.if-is_end.false))),
)

pub returns-else-is_end-clause-found : goal.returns-else-is_end-clause-found
returns-else-is_end-clause-found g c = let s = c.requires.seen in let self = c.args.self.now in let seeing = seeing_any c.args.party.now.seat.me s.0 s.1 in let limit = ap (λ x. x.limit) c.cell.ensures ∙ sym self.fitting.0 in let w = c.from_bits-word.result in
    let goes_on = sym (c.is_end.ensures ∙ ap (λ l. g.P.Change.attempt.ends l w) limit) ∙ c.if-is_end.false in
    (goes_on, found_next _ w c.args.party.now.seat.me _ c.from_bits-word.ensures (c.load.ensures.seat.2.1 (ends_at g.P.Change.attempt.ends _ _ (seen_word s.0) _ _ _ _ c.requires.limit seeing c.from_bits-word.ensures goes_on)))

pub returns-else-is_end-clause-held : goal.returns-else-is_end-clause-held
returns-else-is_end-clause-held g c = held_by _ c.from_bits-word.result c.from_bits-word.ensures c.load.ensures.live
