use Rattle.task_cell.proofs.Vocabulary.{not, inl, sym, refl, ap, ◌∙◌, subst, number_of}
use Rattle.task_cell.proofs.Attempts.{answered, changed_by, row_made, counts_made, counts_missed, seeing_first, seeing_next, found_next, other_word, other_or_undecided, may_exchange, may_less}
use Rattle.task_cell.proofs.attempt.ShareGrip.try_once.Goals as goal
use Rattle.task_core.specs.Word.{HasRoom}

pub observe-requires-clause-seen : goal.observe-requires-clause-seen
observe-requires-clause-seen g c = let s = c.requires.seen in (s.0, s.2)

pub part_at-found-requires-clause-allowed : goal.part_at-found-requires-clause-allowed
part_at-found-requires-clause-allowed g c = let s = c.requires.seen in let self = c.args.self in let limit = ap (λ x. x.limit) c.cell.ensures ∙ sym self.fitting.0 in
    let x = answered g.P.Change.attempt _ self.block.key.limit c.args.word c.in-Some.made (sym c.in-Some.is ∙ c.next.ensures) limit in
    may_exchange self.block.key.limit _ _ _ _ _ _ g.P.Change.attempt c.args.word _ _ refl refl refl (seeing_first c.args.word c.args.party.now.seat.me s.0 s.1 s.2) c.requires.allowed x.0 c.bits.ensures (c.bits-2.ensures ∙ ap (λ z. number_of z.0) x.1)

pub part_at-found-requires-clause-shares : goal.part_at-found-requires-clause-shares
part_at-found-requires-clause-shares g c = let s = c.requires.seen in let self = c.args.self in let limit = ap (λ x. x.limit) c.cell.ensures ∙ sym self.fitting.0 in
    let x = answered g.P.Change.attempt _ self.block.key.limit c.args.word c.in-Some.made (sym c.in-Some.is ∙ c.next.ensures) limit in
    may_less self.block.key.limit _ _ _ _ _ g.P.Change.attempt c.args.word _ _ refl refl (seeing_first c.args.word c.args.party.now.seat.me s.0 s.1 s.2) c.requires.shares x.0 c.bits.ensures (c.bits-2.ensures ∙ ap (λ z. number_of z.0) x.1)

pub returns-then-found-bits-clause-tried : goal.returns-then-found-bits-clause-tried
returns-then-found-bits-clause-tried g c = let self = c.args.self in let limit = ap (λ x. x.limit) c.cell.ensures ∙ sym self.fitting.0 in
    let x = answered g.P.Change.attempt _ self.block.key.limit c.args.word c.in-Some.made (sym c.in-Some.is ∙ c.next.ensures) limit in
    changed_by _ g.P.Change.attempt _ _ c.bits-2.result c.args.word c.in-Some.made.1 _ _ (c.if-found-bits.true ∙ (c.bits-3.ensures ∙ sym c.bits.ensures)) c.bits.ensures x.0 (ap (λ z. z.1) x.1) c.part_at-found.ensures.seat.2

pub returns-then-found-bits-clause-share : goal.returns-then-found-bits-clause-share
returns-then-found-bits-clause-share g c = let self = c.args.self in let e = c.part_at-found.ensures.share in let limit = ap (λ x. x.limit) c.cell.ensures ∙ sym self.fitting.0 in
    let x = answered g.P.Change.attempt _ self.block.key.limit c.args.word c.in-Some.made (sym c.in-Some.is ∙ c.next.ensures) limit in record {
      cell = e.cell;
      terms = e.terms;
      is_last = e.is_last ∙ ap (λ x. g.P.Change.attempt.lasts x) (row_made g.P.Change.attempt _ _ c.args.word c.in-Some.made.1 (c.if-found-bits.true ∙ (c.bits-3.ensures ∙ sym c.bits.ensures)) c.bits.ensures (ap (λ z. z.1) x.1));
      is_there = e.is_there ∙ ap (λ b. not b) (counts_made g.P.Change.attempt _ _ c.args.word c.in-Some.made.1 (c.if-found-bits.true ∙ (c.bits-3.ensures ∙ sym c.bits.ensures)) c.bits.ensures (ap (λ z. z.1) x.1));
    }

pub share-requires : goal.share-requires
share-requires g c = record { there = c.part_at-found.ensures.share.is_there ∙ ap (λ b. not b) (counts_missed g.P.Change.attempt _ _ (λ h. c.if-found-bits.false (h ∙ (c.bits.ensures ∙ sym c.bits-3.ensures)))) }

pub returns-clause-tried : goal.returns-clause-tried
returns-clause-tried g c = let s = c.requires.seen in let e = c.part_at-found.ensures.seat.2 in (
  subst HasRoom (sym c.from_bits.ensures) e.2.room,
  seeing_next _ c.args.word c.from_bits.result _ _ _ (seeing_first c.args.word c.args.party.now.seat.me s.0 s.1 s.2) c.from_bits.ensures (e.1 (λ h. c.if-found-bits.false (h ∙ (c.bits.ensures ∙ sym c.bits-3.ensures)))),
)

pub returns-in-Ok-clause-again : goal.returns-in-Ok-clause-again
returns-in-Ok-clause-again g c = let self = c.args.self in let limit = ap (λ x. x.limit) c.cell.ensures ∙ sym self.fitting.0 in let e = c.in-Ok.ensures.found in
    (e.1, other_or_undecided g.P.Change.attempt _ self.block.key.limit c.args.word c.in-Ok.found (sym c.in_default.is ∙ c.next.ensures) limit e.0 c.in-Ok.ensures.held)

pub returns-clause-again : goal.returns-clause-again
returns-clause-again g c = let e = c.part_at-found.ensures.seat.2 in (
  found_next _ c.from_bits.result c.args.party.now.seat.me _ c.from_bits.ensures (e.1 (λ h. c.if-found-bits.false (h ∙ (c.bits.ensures ∙ sym c.bits-3.ensures)))),
  inl (other_word _ _ c.args.word c.from_bits.result c.bits.ensures c.from_bits.ensures (λ h. c.if-found-bits.false (h ∙ (c.bits.ensures ∙ sym c.bits-3.ensures)))),
)
