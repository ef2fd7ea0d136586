-- What a player rests on: a run with one step more, and bounds that follow from a run of that many steps.
use Rattle.std.proofs.Common.{◌≡◌, ℕ, ◌+◌, ◌≤◌, ◌∙◌, List, [], ◌∷◌, ◌++◌, Option, Some, refl, sym, ap, subst, arith}
use Rattle.std.proofs.lemmas.List.{length-append}
use Rattle.std.proofs.Math.Bridge.{le_prop}
use Rattle.std.proofs.Math.Logic.{∥∥₁_elim}
use Rattle.std.specs.Prelude.{slice_get}
use Rattle.task_laws.specs.declared.positions.Position.{Position}
use Rattle.task_laws.specs.Machine.{Machine, Step, opening, run_from, run}
use Rattle.task_replay.specs.Replay.{Standing, standing, stands, begun, StepsTo, Played}
use Rattle.task_replay.proofs.Replayed.{then_step, run_one, shown, limit_stays, few_begun, few_references}

run_then : (o : Option Machine) (steps : List Step) (s : Step) → run_from o (steps ++ s ∷ []) ≡ then_step (run_from o steps) s
run_then o [] s = run_one o s []
run_then o (x ∷ xs) s = run_one o x (xs ++ s ∷ []) ∙ (run_then (then_step o x) xs s ∙ ap (λ m. then_step m s) (sym (run_one o x xs)))

-- an opening is played by no step
pub played_none : (now : Standing) (limit : ℕ) → now ≡ standing (opening limit) → Played now 0
played_none now limit e = subst (λ (n : Standing). Played n 0) (sym e) ([], (refl, refl))

-- a step that is allowed plays one more
pub played_more : (now next : Standing) (s : Step) (count : ℕ) → StepsTo now s (Some next) → Played now count → Played next (count + 1)
played_more now next s count does (steps, (is_count, ends)) =
    let known = shown (run now.limit steps) now ends in
    let more = length-append steps (s ∷ []) in
    let after_taking : stands (run now.limit (steps ++ s ∷ [])) ≡ Some next = ap stands (run_then (Some (opening now.limit)) steps s ∙ ap (λ m. then_step m s) known.is) ∙ does known.machine known.stands_so in
    let same_limit = limit_stays now.limit (steps ++ s ∷ []) next after_taking in
    (steps ++ s ∷ [], (omega (arith, more, is_count), subst (λ limit. stands (run limit (steps ++ s ∷ [])) ≡ Some next) (sym same_limit) after_taking))

-- a step that is played leaves the limit
limit_kept : (now next : Standing) (s : Step) (count : ℕ) → StepsTo now s (Some next) → Played now count → next.limit ≡ now.limit
limit_kept now next s count does (steps, (is_count, ends)) =
    let known = shown (run now.limit steps) now ends in
    limit_stays now.limit (steps ++ s ∷ []) next (ap stands (run_then (Some (opening now.limit)) steps s ∙ ap (λ m. then_step m s) known.is) ∙ does known.machine known.stands_so)

played_references : (now : Standing) (count : ℕ) → Played now count → now.word.references ≤ now.limit + 1
played_references now count (steps, (is_count, ends)) = few_references now.limit steps now ends

pub references_within : (now : Standing) (count : ℕ) → ∥ Played now count ∥₁ → now.word.references ≤ now.limit + 1
references_within now count played = ∥∥₁_elim played le_prop (played_references now count)

played_begun : (now : Standing) (count i : ℕ) (p : Position) → slice_get now.parties i ≡ Some p → Played now count → begun p ≤ count
played_begun now count i p at (steps, (is_count, ends)) = omega (arith, few_begun now.limit steps now i p ends at, is_count)

pub begun_within : (now : Standing) (count i : ℕ) (p : Position) → slice_get now.parties i ≡ Some p → ∥ Played now count ∥₁ → begun p ≤ count
begun_within now count i p at played = ∥∥₁_elim played le_prop (played_begun now count i p at)

-- a limit that is kept is within the same bound
pub limit_within : (now next : Standing) (s : Step) (count most : ℕ) → StepsTo now s (Some next) → ∥ Played now count ∥₁ → now.limit ≤ most → next.limit ≤ most
limit_within now next s count most does played within = ∥∥₁_elim played le_prop (λ known. omega (arith, within, limit_kept now next s count does known))
