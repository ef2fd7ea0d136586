-- Each call makes of the task with tokens what it makes of the task.
use Rattle.std.proofs.Common.{◌≡◌, ℕ, Bool, Option}
use Rattle.task_core.specs.declared.traits.Poll.TheVariants.{Pending, Ready}
use Rattle.task_core.specs.Local.{Local, starts, settles, discards, wakes, gains_waker, drops_waker, cancels, detaches, claims, registers, Started, IsPolled, IsEnded, IsNotDue}
use Rattle.task_laws.proofs.Scenes.{rules}
use Rattle.task_atomic.specs.Tokens.{number_of, plain_task, plain_effect, plain_answered}

module _ {F T A : Type 0} (number : A → ℕ) where
  abbrev pub plain_started : Started F T A → Started (Unit {0}) (Unit {0}) ℕ
  plain_started (IsPolled e) = IsPolled (plain_effect number e)
  plain_started (IsEnded e) = IsEnded (plain_effect number e)
  plain_started (IsNotDue e) = IsNotDue (plain_effect number e)

  pub same_starts : (t : Local F T A) → starts (plain_task number t) ≡ plain_started (starts t)
  same_starts t = grind rules

  pub same_discards : (t : Local F T A) → discards (plain_task number t) ≡ plain_effect number (discards t)
  same_discards t = grind rules

  pub same_wakes : (t : Local F T A) → wakes (plain_task number t) ≡ plain_effect number (wakes t)
  same_wakes t = grind rules

  pub same_gains : (limit : ℕ) (t : Local F T A) → gains_waker limit (plain_task number t) ≡ plain_effect number (gains_waker limit t)
  same_gains limit t = grind rules

  pub same_drops : (t : Local F T A) → drops_waker (plain_task number t) ≡ plain_effect number (drops_waker t)
  same_drops t = grind rules

  pub same_cancels : (t : Local F T A) → cancels (plain_task number t) ≡ plain_effect number (cancels t)
  same_cancels t = grind rules

  pub same_detaches : (t : Local F T A) → detaches (plain_task number t) ≡ plain_effect number (detaches t)
  same_detaches t = grind rules

  pub same_ready : (f : F) (output : T) (t : Local F T A) → settles tt (Ready tt) (plain_task number t) ≡ plain_effect number (settles f (Ready output) t)
  same_ready f output t = grind rules

  pub same_pending : (f : F) (t : Local F T A) → settles tt Pending (plain_task number t) ≡ plain_effect number (settles f Pending t)
  same_pending f t = grind rules

  pub same_claims : (same : Bool) (t : Local F T A) → claims same (plain_task number t) ≡ plain_answered number (claims same t)
  same_claims same t = grind rules

  pub same_registers : (clone : Option A) (t : Local F T A) → registers (number_of number clone) (plain_task number t) ≡ plain_answered number (registers clone t)
  same_registers clone t = grind rules
