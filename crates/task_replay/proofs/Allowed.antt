-- The act that is named for a party in a call is allowed at a machine that was played.
use Rattle.std.proofs.Common.{◌≡◌, ℕ, ◌∙◌, true, Option, Some, None, refl, sym, ap, subst}
use Rattle.std.proofs.Math.Bool.{Bool-set}
use Rattle.std.proofs.Math.Logic.{∥∥₁_elim}
use Rattle.std.specs.Prelude.{IsSome, IfSome, is_some, slice_get}
use Rattle.task_core.specs.Word.{State}
use Rattle.task_laws.specs.declared.positions.Rest.{Rest}
use Rattle.task_laws.specs.declared.positions.Position.{Position}
use Rattle.task_laws.specs.declared.positions.Position.TheVariants.{At}
use Rattle.task_core.specs.declared.acts.Act.{Act}
use Rattle.task_laws.specs.Table.{Outcome, rule}
use Rattle.task_laws.specs.Machine.{Machine, scene, after, moves, run}
use Rattle.task_progress.specs.StepsLeft.{in_call}
use Rattle.task_progress.specs.Waiting.{next_act}
use Rattle.task_progress.proofs.Waits.{no_call_waits}
use Rattle.task_replay.specs.Replay.{Standing, scene_at, StepsTo, Played}
use Rattle.task_replay.proofs.Replayed.{shown}
use Rattle.task_replay.proofs.Refused.{allowed_there}
use Rattle.task_replay.specs.Progress.{act_at}

-- a step that is allowed has a row
ruled_after : (m : Machine) (i : ℕ) (p : Position) (o : Option Outcome) → is_some (after m i p o) ≡ true → IsSome o
ruled_after m i p None e = absurd (cc)
ruled_after m i p (Some o) e = refl

ruled_moves : (m : Machine) (i : ℕ) (act : Act) (at : Option Position) (p : Position) → at ≡ Some p → is_some (moves m i act at) ≡ true → IsSome (rule (scene m) act p)
ruled_moves m i act None p e f = absurd (cc)
ruled_moves m i act (Some q) p e f = let same : q ≡ p = cc in subst (λ x. IsSome (rule (scene m) act x)) same (ruled_after m i q (rule (scene m) act q) f)

played_ruled : (now : Standing) (count i : ℕ) (p : Position) → slice_get now.parties i ≡ Some p → in_call p ≡ 1 → Played now count
    → IsSome (rule (scene_at now) (next_act now.word p) p)
played_ruled now count i p at calls (steps, (is_count, ends)) =
    let known = shown (run now.limit steps) now ends in
    let there : slice_get known.machine.parties i ≡ Some p = subst (λ (n : Standing). slice_get n.parties i ≡ Some p) (sym known.stands_so) at in
    let allowed = no_call_waits now.limit steps known.machine known.is i p there calls in
    let act = next_act known.machine.word p in
    subst (λ (n : Standing). IsSome (rule (scene_at n) (next_act n.word p) p)) known.stands_so
    (ruled_moves known.machine i act (slice_get known.machine.parties i) p there allowed)

pub is_ruled : (now : Standing) (count i : ℕ) (p : Position) → slice_get now.parties i ≡ Some p → in_call p ≡ 1 → ∥ Played now count ∥₁
    → IsSome (rule (scene_at now) (next_act now.word p) p)
is_ruled now count i p at calls played = ∥∥₁_elim played (Bool-set _ _) (played_ruled now count i p at calls)

-- an act that is named is that of a party in a call
named_in_call : (now : Standing) (p : Position) (act : Act) → act_at now.word p ≡ Some act → (in_call p ≡ 1) × (next_act now.word p ≡ act)
named_in_call now (At r) act e = absurd (cc)
named_in_call now p act e = (refl, cc)

-- an act that is named may be made by a party in a call
if_named : (now : Standing) (count i : ℕ) (p : Position) (named : Option Act) → slice_get now.parties i ≡ Some p → ∥ Played now count ∥₁ → named ≡ act_at now.word p
    → IfSome named (λ act. (next : Standing) × StepsTo now (record { party = i; act = act }) (Some next))
if_named now count i p None at played e = tt
if_named now count i p (Some act) at played e =
    let named = named_in_call now p act (sym e) in
    allowed_there now (record { party = i; act = act }) p at (subst (λ a. IsSome (rule (scene_at now) a p)) named.1 (is_ruled now count i p at named.0 played))

-- the same where the position and the word are read from the same machine
pub is_allowed : (now seen : Standing) (count i : ℕ) (at : Option Position) (p : Position) (w : State) (named : Option Act) → ∥ Played now count ∥₁ → seen ≡ now
    → at ≡ slice_get seen.parties i → at ≡ Some p → w ≡ seen.word → named ≡ act_at w p
    → IfSome named (λ act. (next : Standing) × StepsTo now (record { party = i; act = act }) (Some next))
is_allowed now seen count i at p w named played same is_at is_p is_word is_named =
    let there : slice_get now.parties i ≡ Some p = ap (λ (n : Standing). slice_get n.parties i) (sym same) ∙ (sym is_at ∙ is_p) in
    let word : w ≡ now.word = is_word ∙ ap (λ (n : Standing). n.word) same in
    if_named now count i p named there played (is_named ∙ ap (λ v. act_at v p) word)

-- anywhere but between two calls there is one
pub act_in_call : (w : State) (p : Position) → ((r : Rest) → ¬ (p ≡ At r)) → Some (next_act w p) ≡ act_at w p
act_in_call w (At r) other = absurd (other r refl)
act_in_call w p other = refl
