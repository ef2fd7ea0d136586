-- What each step of a Task owes beside its polls.
use Rattle.std.proofs.Common.{◌≡◌, ℕ, ◌+◌, ◌-◌, ◌%◌, ◌^◌, ◌<◌, ◌≤◌, Bool, true, false, not, ◌&&◌, ◌||◌, List, [], ◌∷◌, refl, ap, ◌∙◌, inr, arith}
use Rattle.std.specs.Prelude.{nat_lt, nat_eq, if◌then◌else◌}
use Rattle.std.proofs.lemmas.Bool.Decides.{nat_tests}
use Rattle.atomic_table.specs.Table.{rest}
use Rattle.task_steps.proofs.Vocabulary.{State, bit, number_of, is_open, Act, Event, At, OutputCloser, Detacher, Task, OfCancel}
use Rattle.task_steps.proofs.Vocabulary.{CancelIdle, DetachOrphan, DetachLast, Detach, EndCall, Slots, notifies, Machine, owns_awaiter}
use Rattle.task_steps.proofs.Vocabulary.{Census, census, Holds, TaskPlace, Empty, Deed, Member}
use Rattle.task_core.specs.Rows.{found}
use Rattle.task_steps.specs.Values.{Values}
use Rattle.task_steps.specs.Rule.{has_work}
use Rattle.task_steps.specs.Steps.{saw_closed, work_first}
use Rattle.task_steps.specs.Scripts.{dropping_output}
use Rattle.task_steps.specs.Attempt.{word_after}
use Rattle.task_steps.specs.TaskScripts.{closing, detaching, to_cancel, to_detach, giving_task_up}
use Rattle.task_steps.specs.declared.found.Cancelled.TheVariants.{Busy, Idle}
use Rattle.task_steps.specs.declared.found.Detached.TheVariants.{Unclaimed, Shared, Last, Orphaned}
use Rattle.task_steps.proofs.Acts.{both}
use Rattle.task_steps.proofs.Facts.{counted}
use Rattle.task_steps.proofs.PollOwed.{output_lies, future_gone}
use Rattle.task_steps.proofs.Advance.{stays, gives_work, lies_nowhere, takes_output, takes_awaiter, Steps}
use Rattle.task_steps.proofs.Computed.{by_table, computed, row_fits}
use Rattle.task_steps.proofs.Allowed.{Owes, OwesChange, OwesEnd}

pub over : (b : Bool) → b ≡ false → not b ≡ true
over b e = cc

pub busy_fits : (o s r : Bool) → o ≡ true → (o && not s && not r) ≡ false → (o && (s || r)) ≡ true
busy_fits o s r e f = grind arith

pub none_left : (n : ℕ) → nat_lt 0 n ≡ false → nat_eq n 0 ≡ true
none_left n e = grind (arith, nat_tests)

-- where a Task can be given up by no other row, its output is there
pub output_left : (n : ℕ) (completed closed : Bool) → (nat_lt 0 n && not (completed && not closed)) ≡ false → (nat_eq n 0 && closed) ≡ false → (nat_eq n 0 && (not completed && not closed)) ≡ false → (completed && not closed) ≡ true
output_left n completed closed e f g = grind (arith, nat_tests)

pub closed_claimed : (completed closed : Bool) → closed ≡ true → (completed && not closed) ≡ false
closed_claimed completed closed e = grind arith

-- the Task exists while a party is it
pub has_task : (limit : ℕ) (w : State) (slots : Slots) (t : List Event) (c : Census) → Holds limit w slots t c → 1 ≤ c.tasks → w.task ≡ true
has_task limit w slots t c h e = grind arith

task_taken : (w : State) (n : ℕ) → n ≡ number_of w → n < 2 ^ 64 → w.task ≡ true → (n + (2 ^ 64 - 16)) % 2 ^ 64 ≡ number_of (record w { task = false })
task_taken w n e lt is = let b : bit w.task ≡ 1 = ap bit is in
    let less : (n + (2 ^ 64 - 16)) % 2 ^ 64 ≡ n - 16 = omega arith in less ∙ omega arith

-- the Task on its way in a cancel has no place of the table
pub idle_cancel : (b : Bool) (n : ℕ) → (has_work (notifies b (OfCancel n)) ≡ false) × (owns_awaiter (notifies b (OfCancel n)) ≡ false)
idle_cancel true n = (refl, refl)
idle_cancel false n = (refl, refl)

module _ (F T A : Type 0) (values : Values F T) (limit : ℕ) where
  pub finds_over : (n : ℕ) (ds : List Deed) (us : List Member) (l : List (ℕ × TaskPlace F T A)) → OwesEnd F T A values limit to_cancel (At (Task n)) ds us l
  finds_over n ds us l m f x e lt is = computed m (row_fits is) e refl

  pub cancels : (n : ℕ) (ds : List Deed) (us : List Member) (l : List (ℕ × TaskPlace F T A)) → OwesChange F T A values limit to_cancel (At (Task n)) ds us l
  cancels n ds us l m f applied = closes (found 0 CancelIdle m.word) refl
    where
      closes : (b : Bool) → found 0 CancelIdle m.word ≡ b → let acts : List Act = closing (if b then Idle m.word.awaiter else Busy m.word.awaiter) in Steps values m (At (Task n)) acts (number_of (word_after m.word acts)) l
      closes true fit = computed m (row_fits fit) refl refl
      closes false unfit = let i = idle_cancel m.word.awaiter n in by_table m (row_fits (busy_fits (is_open m.word) m.word.scheduled m.word.running applied unfit)) refl (refl, refl)
          (stays i.0 i.1 (inr (refl, refl)) (inr refl))

  -- the Task is given up, with references left
  shares : (m : Machine) → nat_lt 0 m.word.references ≡ true → (m.word.completed && not m.word.closed) ≡ false → (nat_lt 0 m.word.references && not (m.word.completed && not m.word.closed)) ≡ true
  shares m left claimed = both (nat_lt 0 m.word.references) (not (m.word.completed && not m.word.closed)) left (over (m.word.completed && not m.word.closed) claimed)

  -- the Task is given up, and no reference is left
  is_last : (m : Machine) → nat_lt 0 m.word.references ≡ false → m.word.closed ≡ true → (nat_eq m.word.references 0 && m.word.closed) ≡ true
  is_last m none closed = both (nat_eq m.word.references 0) m.word.closed (none_left m.word.references none) closed

  pub detaches : (n : ℕ) (ds : List Deed) (us : List Member) (l : List (ℕ × TaskPlace F T A)) → OwesChange F T A values limit to_detach (At (Task n)) ds us l
  detaches n ds us l m f any = gives (found 0 Detach m.word) (found 0 DetachLast m.word) (found 0 DetachOrphan m.word) refl refl refl
    where
      gives : (a b c : Bool) → found 0 Detach m.word ≡ a → found 0 DetachLast m.word ≡ b → found 0 DetachOrphan m.word ≡ c
          → let acts : List Act = detaching (if a then Shared else (if b then Last else (if c then Orphaned else Unclaimed))) in Steps values m (At (Task n)) acts (number_of (word_after m.word acts)) l
      gives true b c fit x y = computed m (row_fits fit) refl refl
      gives false true c x fit y = by_table m (row_fits fit) refl (refl, refl)
          (takes_awaiter refl refl refl (inr (refl, refl)) (λ y h. (m.slots.awaiter, h)))
      gives false false true x y fit = computed m (row_fits fit) refl refl
      gives false false false x y z = let claimed = output_left m.word.references m.word.completed m.word.closed x y z in by_table m (row_fits claimed) refl (refl, refl)
          (takes_output refl refl refl (inr refl) (output_lies m f.invariant claimed) (λ _ h. h))

  pub drops_output : (ds : List Deed) (us : List Member) (l : List (ℕ × TaskPlace F T A)) → l ≡ work_first Empty (rest l) → Owes F T A values limit dropping_output (λ n. n) OutputCloser ds us l
  drops_output ds us l has m f x e lt = let none = future_gone m.limit m.word m.slots m.trace (census m.parties) f.invariant.holds (counted (λ c. c.claims) (λ a b. refl) m.parties f.number OutputCloser f.stands) in by_table m refl e (refl, refl)
      (gives_work Empty refl refl refl (inr refl) has (lies_nowhere F T values (record (m.slots) { output = false }) none refl))

  pub gives_task_up : (ds : List Deed) (us : List Member) (l : List (ℕ × TaskPlace F T A)) → saw_closed ds ≡ true → Owes F T A values limit giving_task_up (λ n. (n + (2 ^ 64 - 16)) % 2 ^ 64) Detacher ds us l
  gives_task_up ds us l saw m f x e lt = gives (nat_lt 0 m.word.references) refl
    where
      wrote : (x + (2 ^ 64 - 16)) % 2 ^ 64 ≡ number_of (record (m.word) { task = false })
      wrote = task_taken m.word x e lt (has_task m.limit m.word m.slots m.trace (census m.parties) f.invariant.holds (counted (λ c. c.tasks) (λ a b. refl) m.parties f.number Detacher f.stands))

      gives : (b : Bool) → nat_lt 0 m.word.references ≡ b → Steps values m Detacher (if b then Detach ∷ EndCall ∷ [] else DetachLast ∷ []) ((x + (2 ^ 64 - 16)) % 2 ^ 64) l
      gives true counted = computed m (row_fits (shares m counted (closed_claimed m.word.completed m.word.closed (f.closed saw)))) wrote refl
      gives false counted = by_table m (row_fits (is_last m counted (f.closed saw))) wrote (refl, refl)
          (takes_awaiter refl refl refl (inr (refl, refl)) (λ y h. (m.slots.awaiter, h)))
