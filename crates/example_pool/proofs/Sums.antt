-- A task of `Sum` hands out the sum of the numbers that its future was spawned with, since no poll changes them.
use Rattle.std.proofs.Common.{◌≡◌, ◌+◌, ℕ, ap, ◌∙◌}
use Rattle.task_core.specs.declared.traits.Poll.{Poll}
use Rattle.task_core.specs.declared.traits.Poll.TheVariants.{Pending, Ready}
use Rattle.task_core.specs.Poll.{IfReady}
use Rattle.task_core.specs.Yielded.{Yielded}
use Rattle.task_core.proofs.Polls.{last_poll}
use Rattle.example_pool.specs.declared.Sum.{Sum}

module _ {moves : Sum → Poll ℕ → Sum → Type 0} (says : (before : Sum) (answer : Poll ℕ) (after : Sum) → moves before answer after → (after.left ≡ before.left) × (after.right ≡ before.right) × IfReady answer (λ sum. sum ≡ before.left + before.right)) where
  pub is_sum : (left right : ℕ) (spawned : Sum) (output : ℕ) → spawned.left ≡ left → spawned.right ≡ right → Yielded moves spawned output → output ≡ left + right
  is_sum left right spawned output left_is right_is yielded =
      let keeps : (before after : Sum) → (before.left ≡ left) × (before.right ≡ right) → moves before Pending after → (after.left ≡ left) × (after.right ≡ right) = λ before after holds moved. let told = says before Pending after moved in (told.0 ∙ holds.0, told.1 ∙ holds.1) in
      let last = last_poll {moves = moves} (λ f. (f.left ≡ left) × (f.right ≡ right)) keeps spawned (left_is, right_is) output yielded in
      let told = says last.0 (Ready output) last.1 last.3 in told.2 ∙ ap (λ n. n + last.0.right) last.2.0 ∙ ap (λ n. left + n) last.2.1
