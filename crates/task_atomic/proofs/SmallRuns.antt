-- A list of steps is a run of the small task.
use Rattle.std.proofs.Common.{◌≡◌, ℕ, List, [], ◌∷◌, ◌++◌, Option, Some, None, refl, ap, ◌∙◌, subst}
use Rattle.std.specs.Prelude.{slice_get, slice_set}
use Rattle.task_core.specs.declared.acts.Act.{Act}
use Rattle.task_laws.specs.declared.positions.Position.{Position}
use Rattle.task_laws.specs.Machine.{Machine, Step, opening, scene, after, moves, step, run_from}
use Rattle.task_laws.specs.Table.{Outcome, rule}
use Rattle.task_laws.proofs.Cuts.{get_put, get_append}
use Rattle.task_laws.proofs.Runs.{Invariant, Stays, moves_stays, opens}
use Rattle.task_atomic.specs.Small.{small_task, acted, all_acted}
use Rattle.task_atomic.specs.Atomic.{act_in, act_at, small_steps, acts_in, StepsAreRuns}
use Rattle.task_atomic.proofs.Atoms.{made_at}

-- a step is its act, and leads to a machine of which that may be said again
abbrev LeadsTo : ℕ → Machine → Step → Option Machine → Type 0
LeadsTo limit m s None = Unit {0}
LeadsTo limit m s (Some n) = (n.limit ≡ limit) × (acted limit (act_at s (Some n)) (small_task m.word) ≡ Some (small_task n.word)) × Invariant n

-- where a party stands after its own step
pub stands_after : (ps : List Position) (i : ℕ) (p : Position) (o : Outcome) → slice_get ps i ≡ Some p → slice_get (slice_set ps i o.next ++ o.born) i ≡ Some o.next
stands_after ps i p o at = get_append (slice_set ps i o.next) o.born i o.next (get_put ps i p o.next at)

after_leads : (limit : ℕ) (m : Machine) (i : ℕ) (act : Act) (p : Position) (o : Option Outcome) → m.limit ≡ limit → Invariant m → slice_get m.parties i ≡ Some p → rule (scene m) act p ≡ o
    → Stays (after m i p o) → LeadsTo limit m (record { party = i; act = act }) (after m i p o)
after_leads limit m i act p None limited h at is stays = tt
after_leads limit m i act p (Some o) limited h at is stays =
    let made : acted m.limit (act_in act (slice_get (slice_set m.parties i o.next ++ o.born) i)) (small_task m.word) ≡ Some (small_task o.word) =
    ap (λ (next : Option Position). acted m.limit (act_in act next) (small_task m.word)) (stands_after m.parties i p o at) ∙ made_at m i p act o h at is in
    (limited, subst (λ (l : ℕ). acted l (act_in act (slice_get (slice_set m.parties i o.next ++ o.born) i)) (small_task m.word) ≡ Some (small_task o.word)) limited made, stays)

moves_lead : (limit : ℕ) (m : Machine) (i : ℕ) (act : Act) (at : Option Position) → m.limit ≡ limit → Invariant m → slice_get m.parties i ≡ at
    → LeadsTo limit m (record { party = i; act = act }) (moves m i act at)
moves_lead limit m i act None limited h e = tt
moves_lead limit m i act (Some p) limited h e = after_leads limit m i act p (rule (scene m) act p) limited h e refl (moves_stays m i act (Some p) e h)

-- so a list of steps is its acts
none_runs : (steps : List Step) → run_from None steps ≡ None
none_runs [] = refl
none_runs (s ∷ steps) = refl

runs_on : (limit : ℕ) (n : Machine) (steps : List Step) (m : Machine) → m.limit ≡ limit → Invariant m → run_from (Some m) steps ≡ Some n
    → all_acted limit (acts_in (small_steps (Some m) steps)) (Some (small_task m.word)) ≡ Some (small_task n.word)
runs_on limit n [] m limited h e = let same : m ≡ n = cc in ap (λ (x : Machine). Some (small_task x.word)) same
runs_on limit n (s ∷ steps) m limited h e = on (step m s) (moves_lead limit m s.party s.act (slice_get m.parties s.party) limited h refl) e (runs_on limit n steps)
  where
    on : (left : Option Machine) → LeadsTo limit m s left → run_from left steps ≡ Some n
        → ((x : Machine) → x.limit ≡ limit → Invariant x → run_from (Some x) steps ≡ Some n → all_acted limit (acts_in (small_steps (Some x) steps)) (Some (small_task x.word)) ≡ Some (small_task n.word))
        → all_acted limit (acts_in (small_steps left steps)) (acted limit (act_at s left) (small_task m.word)) ≡ Some (small_task n.word)
    on None leads e rest = let none = none_runs steps in absurd (cc)
    on (Some x) leads e rest = ap (all_acted limit (acts_in (small_steps (Some x) steps))) leads.1 ∙ rest x leads.0 leads.2 e

pub steps_are_runs : StepsAreRuns
steps_are_runs limit steps m e = runs_on limit m steps (opening limit) refl (opens limit) e
