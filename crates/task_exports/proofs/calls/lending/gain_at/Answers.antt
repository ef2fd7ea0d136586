use Rattle.std.proofs.Common.{◌≡◌, ap, sym, subst, ◌∙◌}
use Rattle.task_exports.proofs.Along.{along}
use Rattle.task_exports.proofs.Crossing.{live_of}
use Rattle.task_exports.proofs.Live.{lives_still}
use Rattle.task_exports.proofs.WakeCall.{gained_bits}
use Rattle.task_exports.specs.Answers.{Gains}
use Rattle.task_exports.specs.Hands.{IsLive}
use Rattle.task_exports.specs.declared.hand.Hand.{Hand}
use Rattle.task_exports.proofs.calls.lending.gain_at.Goals as goal

pub fetch-requires-clause-bits : goal.fetch-requires-clause-bits
fetch-requires-clause-bits c = gained_bits c.take-share.result c.put.new.h.hand _ _ (ap (λ (z : Hand). z.share.maybe.id) c.put.ensures.0 ∙ (c.into_maybe-share.ensures.cell.0 ∙ c.share.ensures.0)) (c.gain_share-number.ensures c.take-share.result c.share.ensures)

pub returns-clause-lent : goal.returns-clause-lent
returns-clause-lent c = let l = lives_still c.take-share.result.share c.into_maybe-share.result c.share.result c.take-share.result.party (live_of _ _ c.take-share.ensures.0 c.requires.handle.1) c.share.ensures c.into_maybe-share.ensures in
    let t = subst (λ (z : Hand). IsLive z × (z.party ≡ c.args.h.now.hand.party)) (sym (c.fetch.ensures.handle.0 ∙ c.put.ensures.0)) (l, ap (λ (z : Hand). z.party) c.take-share.ensures.0) in ((c.fetch.ensures.handle.1, t.0), t.1)

pub returns-clause-answer : goal.returns-clause-answer
returns-clause-answer c = (c.put-2.ensures.1, along (λ x k. Gains x k c.gain_share-number.result.number) _ _ _ _ c.take-share.ensures.0 (c.put-2.ensures.0 ∙ c.fetch.ensures.brought) (c.gain_share-number.ensures c.take-share.result c.share.ensures))
