use Rattle.std.proofs.Common.{ℕ, [], ◌∷◌, ◌∙◌, Option, sym, ap, subst}
use Rattle.atomic_table.specs.Table.{opening}
use Rattle.counted_block.specs.declared.place.Place.TheVariants.{First, Second}
use Rattle.task_core.specs.Yielded.{Continued, unpolled}
use Rattle.task_steps.specs.declared.kept.Kept.{Kept}
use Rattle.task_steps.specs.declared.kept.StoredAwaiter.{StoredAwaiter}
use Rattle.task_steps.specs.declared.table.Slot.{Slot}
use Rattle.task_steps.specs.Values.{values_of}
use Rattle.task_steps.specs.Rule.{opening_view, RuleHolds}
use Rattle.task_steps.proofs.Opening.{opens}
use Rattle.task_steps.proofs.table.Laid+F+Kept+F+A+V+B.fill.Goals as goal

pub new_pair-requires-clause-rule : goal.new_pair-requires-clause-rule
new_pair-requires-clause-rule g c = let e = c.of-2.ensures.0 in let f = c.deref_mut.ensures.value in let o = c.args.self.opens in let values = values_of g.F.Yields c.of.result.value in
    subst (λ (z : ℕ × Slot g.row.F.Denot (Kept g.row.F.Denot g.row.F-Output.Denot g.F.Yields) × Option (StoredAwaiter g.row.A.Denot)). RuleHolds values c.args.limit (opening (z.0 ∷ []) (First z.1 ∷ Second z.2 ∷ []) (opening_view c.args.limit)))
    (λ i. (sym (ap (λ z. z.word) e ∙ (ap (λ z. z.word) f ∙ o.0)) i, sym (ap (λ z. z.first) e) i, sym (ap (λ z. z.second) e ∙ (ap (λ z. z.second) f ∙ o.2)) i))
    (opens values c.args.limit c.args.future (subst (Continued g.F.Yields.moves c.of.result.value) c.of.ensures unpolled) c.requires)
