-- What the parts of a cancel come to, put together from its exports.
use Rattle.std.proofs.Common.{◌≡◌, ℕ, Bool, true, false, List, [], ◌∷◌, ◌++◌, refl, sym, ap, ◌∙◌, subst}
use Rattle.task_core.specs.Word.{State}
use Rattle.task_core.specs.declared.acts.Act.TheVariants.{BeginNotify, CancelBusy, CancelIdle, CancelOver, EndCall, EndNotify, HandOver, WakeAwaiter}
use Rattle.task_cell.proofs.Moved.{did_then}
use Rattle.task_cell.specs.Calls.{Did, Fits, Stands}
use Rattle.task_cell.specs.TaskPaths.{CancelPath, Notice, found_none, is_busy, is_idle, is_over, missed, not_due, woke}
use Rattle.task_cell.specs.declared.cell.Party.{Party}
use Rattle.task_exports.proofs.Numbers.{differs}
use Rattle.task_exports.proofs.Released.{released_hand, released_none}
use Rattle.task_exports.specs.CallPaths.{WakesTaken, finds_none, wakes_it}
use Rattle.task_exports.specs.Answers.{IsFull}
use Rattle.task_exports.specs.TaskAnswers.{CancelGoesOn, Cancels, HasRunnable, PassesBy, Releases, TakesPlace, schedules}
use Rattle.task_exports.specs.declared.handle.Handle.{Handle}
use Rattle.task_exports.specs.TaskAnswers.{cancel_missed, closes, closes_and_takes, finds_other, none_due, passes_by, schedules_due, schedules_now, takes, taking, was_over}
use Rattle.task_laws.specs.Table.{notifies}
use Rattle.task_laws.specs.declared.positions.NotifyingCall.TheVariants.{OfCancel}
use Rattle.task_laws.specs.declared.positions.Position.TheVariants.{AwaiterInHand, Releaser}
use Rattle.task_steps.specs.Deeds.{act, row}
use Rattle.task_steps.specs.Steps.{awaiter_first}
use Rattle.task_steps.specs.Standing.{as_runnable, as_task}
use Rattle.task_steps.specs.declared.table.Deed.{Deed}

-- nobody is to be woken
passed : (Woken : Type 0) (due : Bool) (notice : List Deed) → PassesBy due notice → Notice Woken due notice
passed Woken _ _ none_due = not_due
passed Woken _ _ (finds_other w f) = missed w f

-- the place was taken, and what lay there woken
noticed : (Woken : Type 0) (v : State) (k : List Deed) → Fits BeginNotify v → WakesTaken Woken k → Notice Woken true (taking v ++ k)
noticed Woken v _ f (finds_none w) = found_none v w f
noticed Woken v _ f (wakes_it w fact) = woke v w f fact

-- what lies at the second place, by the answer
pub has_runnable : (a b : ℕ) (cell : _) (k : Handle) → schedules b ≡ true → HasRunnable (schedules a) cell k → a ≡ b → IsFull k × Stands as_runnable k.hand.party
has_runnable a b cell k is h e = let x = subst (λ t. HasRunnable t cell k) (ap schedules e ∙ is) h in ((x.0, x.1.0), x.1.2)

pub has_none : (a b : ℕ) (cell : _) (k : Handle) → schedules b ≡ false → HasRunnable (schedules a) cell k → a ≡ b → k.there ≡ false
has_none a b cell k is h e = subst (λ t. HasRunnable t cell k) (ap schedules e ∙ is) h

module _ {F T A : Type 0} where
  abbrev pub EndsTaken : Type 0 → ℕ → Party F T A → Party F T A → Type 0
  EndsTaken Woken n p q = (k : List Deed) × WakesTaken Woken k × Did (k ++ act EndCall ∷ []) (as_task n) p q

  abbrev pub EndsNoticed : Type 0 → Bool → ℕ → Party F T A → Party F T A → Type 0
  EndsNoticed Woken due n p q = (notice : List Deed) × Notice Woken due notice × Did (notice ++ act EndCall ∷ []) (as_task n) p q

  abbrev pub Cancelled : Type 0 → Type 0 → ℕ → Party F T A → Party F T A → Type 0
  Cancelled Scheduled Woken n p q = (path : List Deed) × CancelPath Scheduled Woken path × Did path (as_task n) p q

  module _ (Woken : Type 0) (n : ℕ) where
    -- what lay in the place: nothing; or it was woken
    pub nothing_taken : (p q : Party F T A) (a : ℕ) → Releases (OfCancel n) [] (act EndCall ∷ []) (as_task n) 12 p q a → a ≡ 12 → EndsTaken Woken n p q
    nothing_taken p q a x e = let y = released_none (OfCancel n) [] (act EndCall ∷ []) (as_task n) 12 p q a refl x e in (row EndNotify y.0 ∷ [], finds_none y.0, y.1)

    pub has_taken : (p q : Party F T A) (a : ℕ) → Releases (OfCancel n) [] (act EndCall ∷ []) (as_task n) 12 p q a → a ≡ 14 → (v : State) × (i : ℕ) × Did (row EndNotify v ∷ []) (AwaiterInHand i (OfCancel n)) p q
    has_taken p q a x e = released_hand (OfCancel n) [] (act EndCall ∷ []) (as_task n) 12 p q a refl x e

    pub woke_taken : (p q r : Party F T A) → (v : State) × (i : ℕ) × Did (row EndNotify v ∷ []) (AwaiterInHand i (OfCancel n)) p q → Woken × Did (act WakeAwaiter ∷ act EndCall ∷ []) (as_task n) q r → EndsTaken Woken n p r
    woke_taken p q r x y = (
      row EndNotify x.0 ∷ act WakeAwaiter ∷ [],
      wakes_it x.0 y.0,
      did_then p q r (row EndNotify x.0 ∷ []) (act WakeAwaiter ∷ act EndCall ∷ []) (AwaiterInHand x.1 (OfCancel n)) (as_task n) [] [] x.2 y.1,
    )

    -- the rest of a cancel
    pub goes_past : (due : Bool) (p q : Party F T A) (a : ℕ) → CancelGoesOn due n p q a → a ≡ 12 → EndsNoticed Woken due n p q
    goes_past due p q _ (passes_by notice f g) e = (notice, passed Woken due notice f, g)
    goes_past due p q _ (takes d t) e = differs 7 12 refl refl e

    pub goes_taking : (due : Bool) (p q : Party F T A) (a : ℕ) → CancelGoesOn due n p q a → a ≡ 7 → (due ≡ true) × TakesPlace (OfCancel n) taking [] p q
    goes_taking due p q _ (passes_by notice f g) e = differs 12 7 refl refl e
    goes_taking due p q _ (takes d t) e = (d, t)

    pub goes_taken : (due : Bool) (p q r : Party F T A) → (due ≡ true) × TakesPlace (OfCancel n) taking [] p q → EndsTaken Woken n q r → EndsNoticed Woken due n p r
    goes_taken due p q r x y = let t = x.1 in subst (λ b. EndsNoticed Woken b n p r) (sym x.0) (
      taking t.0 ++ y.0,
      noticed Woken t.0 y.0 t.3 y.1,
      did_then p q r (taking t.0) (y.0 ++ act EndCall ∷ []) (Releaser t.1 (OfCancel n)) (as_task n) (awaiter_first t.2 []) [] t.5 y.2,
    )

    module _ (Scheduled : Type 0) where
      -- the whole, by its first answer
      pub over_at_once : (p q : Party F T A) (a : ℕ) → Cancels n p q a → a ≡ 12 → Cancelled Scheduled Woken n p q
      over_at_once p q _ (cancel_missed _) e = differs 0 12 refl refl e
      over_at_once p q _ (was_over w f g) e = (row CancelOver w ∷ act EndCall ∷ [], is_over w f, g)
      over_at_once p q _ (closes w notice f b g) e = (row CancelBusy w ∷ (notice ++ act EndCall ∷ []), is_busy w notice f (passed Woken w.awaiter notice b), g)
      over_at_once p q _ (closes_and_takes w f d t) e = differs 7 12 refl refl e
      over_at_once p q _ (schedules_now w f d g) e = differs 10 12 refl refl e
      over_at_once p q _ (schedules_due w f d g) e = differs 25 12 refl refl e

      abbrev pub ClosesTaking : Party F T A → Party F T A → Type 0
      ClosesTaking p q = (w : State) × Fits CancelBusy w × (w.awaiter ≡ true) × TakesPlace (OfCancel n) (λ v. row CancelBusy w ∷ taking v) [] p q

      pub closes_taking : (p q : Party F T A) (a : ℕ) → Cancels n p q a → a ≡ 7 → ClosesTaking p q
      closes_taking p q _ (cancel_missed _) e = differs 0 7 refl refl e
      closes_taking p q _ (was_over w f g) e = differs 12 7 refl refl e
      closes_taking p q _ (closes w notice f b g) e = differs 12 7 refl refl e
      closes_taking p q _ (closes_and_takes w f d t) e = (w, f, d, t)
      closes_taking p q _ (schedules_now w f d g) e = differs 10 7 refl refl e
      closes_taking p q _ (schedules_due w f d g) e = differs 25 7 refl refl e

      pub closes_taken : (p q r : Party F T A) → ClosesTaking p q → EndsTaken Woken n q r → Cancelled Scheduled Woken n p r
      closes_taken p q r x y = let w = x.0 in let t = x.3 in (
        row CancelBusy w ∷ ((taking t.0 ++ y.0) ++ act EndCall ∷ []),
        is_busy w (taking t.0 ++ y.0) x.1 (subst (λ b. Notice Woken b (taking t.0 ++ y.0)) (sym x.2) (noticed Woken t.0 y.0 t.3 y.1)),
        did_then p q r (row CancelBusy w ∷ taking t.0) (y.0 ++ act EndCall ∷ []) (Releaser t.1 (OfCancel n)) (as_task n) (awaiter_first t.2 []) [] t.5 y.2,
      )

      abbrev pub Hands : Bool → Party F T A → Party F T A → Type 0
      Hands due p q = (w : State) × Fits CancelIdle w × (w.awaiter ≡ due) × Did (row CancelIdle w ∷ act HandOver ∷ []) (notifies due (OfCancel n)) p q

      pub hands_now : (p q : Party F T A) (a : ℕ) → Cancels n p q a → a ≡ 10 → Hands false p q
      hands_now p q _ (cancel_missed _) e = differs 0 10 refl refl e
      hands_now p q _ (was_over w f g) e = differs 12 10 refl refl e
      hands_now p q _ (closes w notice f b g) e = differs 12 10 refl refl e
      hands_now p q _ (closes_and_takes w f d t) e = differs 7 10 refl refl e
      hands_now p q _ (schedules_now w f d g) e = (w, f, d, g)
      hands_now p q _ (schedules_due w f d g) e = differs 25 10 refl refl e

      pub hands_due : (p q : Party F T A) (a : ℕ) → Cancels n p q a → a ≡ 25 → Hands true p q
      hands_due p q _ (cancel_missed _) e = differs 0 25 refl refl e
      hands_due p q _ (was_over w f g) e = differs 12 25 refl refl e
      hands_due p q _ (closes w notice f b g) e = differs 12 25 refl refl e
      hands_due p q _ (closes_and_takes w f d t) e = differs 7 25 refl refl e
      hands_due p q _ (schedules_now w f d g) e = differs 10 25 refl refl e
      hands_due p q _ (schedules_due w f d g) e = (w, f, d, g)

      pub handed : (due : Bool) (p q r : Party F T A) → Hands due p q → Scheduled → EndsNoticed Woken due n q r → Cancelled Scheduled Woken n p r
      handed due p q r x fact y = let w = x.0 in (
        row CancelIdle w ∷ act HandOver ∷ (y.0 ++ act EndCall ∷ []),
        is_idle w y.0 x.1 fact (subst (λ b. Notice Woken b y.0) (sym x.2) y.1),
        did_then p q r (row CancelIdle w ∷ act HandOver ∷ []) (y.0 ++ act EndCall ∷ []) (notifies due (OfCancel n)) (as_task n) [] [] x.3 y.2,
      )
