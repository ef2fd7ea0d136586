use Rattle.std.proofs.Common.{◌≡◌, ◌≢◌, ◌∙◌, ◌+◌, ◌≤◌, ℕ, ap, sym, refl, subst, arith}
use Rattle.std.specs.Prelude.{Some, None, is_some, Result, Err, IfErr}
use Rattle.slab.specs.Slab.{Slab, slab_len, get, Updates}
use Rattle.executor_parts.specs.Members.{Joins}
use Rattle.executor.proofs.kept_group.KeptGroup.push.Goals as goal
use Rattle.executor.proofs.kept_group.KeptGroup.push.Goals.{in-Some, in-None}

roomy : {T : Type 0} {len capacity : ℕ} (old mid : Slab T) → len ≡ slab_len old → capacity ≡ old.capacity → slab_len old ≤ capacity → len ≢ capacity → mid ≡ old → slab_len mid + 1 ≤ mid.capacity
roomy old mid l c below differs same = rw same (omega arith)

joined : {T : Type 0} (old mid new : Slab T) (x : T) (number : ℕ) → get mid number ≡ None → Updates mid new number (Some x) → mid ≡ old → Joins old new number
joined {T} old mid new x number free up same = record {
  was_free = ap is_some (ap (λ (s : Slab T). get s number) (sym same) ∙ free);
  joined = ap is_some up.changed;
  others = λ other differs. ap is_some (up.others other differs ∙ ap (λ (s : Slab T). get s other) same);
}

pub insert_reserved-number-requires : goal.insert_reserved-number-requires
insert_reserved-number-requires g c = roomy c.args.self.now.members c.match-get.self.members c.len.ensures c.capacity.ensures.value c.capacity.ensures.holds_all c.if-len-capacity.false (elim c.match-get.branch [ in-Some w ↦ ap (λ s. s.members) w.self-is | in-None w ↦ ap (λ s. s.members) w.self-is ])

pub returns-in-Ok-clause-joins : goal.returns-in-Ok-clause-joins
returns-in-Ok-clause-joins g c = joined c.args.self.now.members c.match-get.self.members _ _ c.insert_reserved-number.result c.insert_reserved-number.ensures.was_vacant c.insert_reserved-number.ensures.updates (elim c.match-get.branch [ in-Some w ↦ ap (λ s. s.members) w.self-is | in-None w ↦ ap (λ s. s.members) w.self-is ])

refuse : {T E : Type 0} (result : Result T E) {error : E} → result ≡ Err error → (P : E → Type 0) → IfErr result P → P error
refuse {T} {E} result is P = subst (λ (r : Result T E). IfErr r P) is

pub returns-in-Err-clause-refused : goal.returns-in-Err-clause-refused
returns-in-Err-clause-refused g c = elim c.match-get.branch [
  | in-Some w ↦ refuse w.keep_task-kept.result (sym w.kept-is ∙ c.in-Err.is) (λ back. (back.inner ≡ c.args.task.inner) × (back.around ≡ c.args.task.around)) w.keep_task-kept.ensures.refused
  | in-None w ↦ refuse (Err c.args.task) (sym w.kept-is ∙ c.in-Err.is) (λ back. (back.inner ≡ c.args.task.inner) × (back.around ≡ c.args.task.around)) (refl, refl)
]

pub returns-in-Err-clause-unchanged : goal.returns-in-Err-clause-unchanged
returns-in-Err-clause-unchanged g c = elim c.match-get.branch [ in-Some w ↦ ap (λ s. s.members) w.self-is | in-None w ↦ ap (λ s. s.members) w.self-is ]
