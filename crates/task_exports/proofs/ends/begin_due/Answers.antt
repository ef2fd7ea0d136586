use Rattle.task_cell.proofs.Vocabulary.{[], ◌∙◌, subst, sym, false, Stands, notifies}
use Rattle.task_exports.specs.Answers.{BeginsDue}
use Rattle.task_exports.specs.declared.hand.Hand.{Hand}
use Rattle.task_exports.proofs.Live.{lives_with}
use Rattle.task_exports.proofs.Goes.{begun_due, not_begun, begun_lives}
use Rattle.task_exports.proofs.ends.begin_due.Goals as goal

pub begin_notify-taken-requires-clause-party : goal.begin_notify-taken-requires-clause-party
begin_notify-taken-requires-clause-party c = let s = c.requires.party in (s.0, [], subst (λ b. Stands (notifies b s.0) c.args.hand.party) c.if-due.true s.1)

pub returns-then-due-clause-hand : goal.returns-then-due-clause-hand
returns-then-due-clause-hand c = (lives_with c.args.hand.share c.into_maybe-share.result c.share-share.result c.args.hand.party c.begin_notify-taken.new.party c.requires.hand c.share-share.ensures c.into_maybe-share.ensures (begun_lives c.args.hand _ _ c.begin_notify-taken.ensures), c.into_maybe-share.ensures.cell.0 ∙ c.share-share.ensures.0)

pub returns-then-due-clause-path : goal.returns-then-due-clause-path
returns-then-due-clause-path c = λ way s. let m : Hand = record { share = c.into_maybe-share.result; party = c.begin_notify-taken.new.party } in
    subst (λ b. BeginsDue way b c.args.hand m c.begin_notify-taken.result) (sym c.if-due.true) (begun_due way c.args.hand m _ (subst (λ b. Stands (notifies b way) c.args.hand.party) c.if-due.true s) c.begin_notify-taken.ensures)

pub returns-clause-path : goal.returns-clause-path
returns-clause-path c = λ way s. subst (λ b. BeginsDue way b c.args.hand c.args.hand false) (sym c.if-due.false) (not_begun way c.args.hand (subst (λ b. Stands (notifies b way) c.args.hand.party) c.if-due.false s))
