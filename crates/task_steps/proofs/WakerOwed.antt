-- What the steps owe by which a waker is gained, wakes and is dropped.
use Rattle.std.proofs.Common.{◌≡◌, ℕ, ◌+◌, ◌-◌, ◌%◌, ◌^◌, ◌≤◌, Bool, true, false, not, ◌&&◌, ◌||◌, List, [], ◌∷◌, refl, sym, ap, ◌∙◌, subst, inr, arith}
use Rattle.std.specs.Prelude.{nat_lt, nat_le, nat_eq, if◌then◌else◌}
use Rattle.std.proofs.lemmas.Bool.Decides.{nat_tests}
use Rattle.task_steps.specs.Values.{Values}
use Rattle.task_steps.proofs.Vocabulary.{State, state_of, number_of, is_open, Event, Rest, Runnable, Waker, Lent}
use Rattle.task_steps.proofs.Vocabulary.{At, OrphanHolder, WakeOver, DropWaker, DropLastWaker, OrphanTask, WakeScheduled, WakeRunning, WakeIdle}
use Rattle.task_steps.proofs.Vocabulary.{Act, EndCall, Slots, is_held, may_ask, may_gain, may_wake, Machine, scene, Census, census, Holds, state_of_number_of, fetch_sub-reference, TaskPlace}
use Rattle.task_steps.proofs.Vocabulary.{Deed, Member}
use Rattle.task_core.specs.Rows.{found}
use Rattle.task_steps.specs.Attempt.{word_after}
use Rattle.task_steps.specs.Beside.{may_call}
use Rattle.task_steps.specs.WakerScripts.{is_over, waking_task, to_gain, to_wake, dropping_as, dropping_waker, closing_orphan}
use Rattle.task_steps.specs.declared.found.Dropped.TheVariants.{Shared, Last, Orphaned}
use Rattle.task_steps.specs.declared.found.Woken.TheVariants.{Scheduled, Running, Idle}
use Rattle.task_steps.proofs.Bools.{never}
use Rattle.task_steps.proofs.Seen.{true_right, left_true, right_true, not_true}
use Rattle.task_steps.proofs.Facts.{counted}
use Rattle.task_steps.proofs.Advance.{takes_awaiter, Steps}
use Rattle.task_steps.proofs.Computed.{Keeps, by_table, computed, noted, allows, row_fits}
use Rattle.task_steps.proofs.Allowed.{Owes, OwesChange, OwesEnd}
use Rattle.task_steps.proofs.TaskOwed.{over}

at_the_limit : (n l k : ℕ) → nat_lt n l ≡ false → k ≡ l → nat_le k n ≡ true
at_the_limit n l k e f = grind (arith, nat_tests)

-- an open task to which no other row of a wake fits is scheduled
pub scheduled_fits : (w : State) → is_open w ≡ true → found 0 WakeIdle w ≡ false → found 0 WakeRunning w ≡ false → found 0 WakeScheduled w ≡ true
scheduled_fits w e f g = by (is_open w) w.scheduled w.running e f g
  where
    by : (o s r : Bool) → o ≡ true → (o && not s && not r) ≡ false → (o && not s && r) ≡ false → (o && s) ≡ true
    by o s r e f g = grind arith

is_last : (n : ℕ) (t o : Bool) → 1 ≤ n → (nat_lt 1 n || t) ≡ false → o ≡ true → (nat_eq n 1 && not t && o) ≡ true
is_last n t o h e f = grind (arith, nat_tests)

-- who drops a waker holds a reference
holds_one : (limit : ℕ) (w : State) (slots : Slots) (t : List Event) (c : Census) → Holds limit w slots t c → 1 ≤ c.wakers → 1 ≤ w.references
holds_one limit w slots t c h e = grind arith

-- a wake that finds the task over
finds_it_over : (r : Rest) (m : Machine) → may_call r ≡ true → is_open m.word ≡ false → may_wake (scene m) r ≡ true
finds_it_over Waker m call e = refl
finds_it_over Lent m call e = true_right (is_held m.word) (not (is_open m.word)) (over (is_open m.word) e)
finds_it_over r m call e = never call

-- a wake that finds the task over keeps the word and the places
pub wake_keeps : (limit : ℕ) (m : Machine) → is_over limit m.word ≡ true → Keeps m (At Lent) (WakeOver ∷ EndCall ∷ [])
wake_keeps limit m is = noted (allows _ (may_wake (scene m) Lent) is (finds_it_over Lent m refl (not_true (is_open m.word) is))) refl refl

-- one that changes the word of a task that has a handle
wakes_it : (r : Rest) (m : Machine) → may_call r ≡ true → is_held m.word ≡ true → may_wake (scene m) r ≡ true
wakes_it Waker m call held = refl
wakes_it Lent m call held = ap (λ b. b || not (is_open m.word)) held
wakes_it r m call held = never call

gains_it : (r : Rest) (m : Machine) → may_ask r ≡ true → is_held m.word ≡ true → may_gain (scene m) r ≡ true
gains_it Runnable m ask held = refl
gains_it Waker m ask held = refl
gains_it Lent m ask held = held
gains_it r m ask held = never ask

module _ (F T A : Type 0) (values : Values F T) (limit : ℕ) where
  -- the count is at the limit
  pub finds_limit : (r : Rest) (ds : List Deed) (us : List Member) (l : List (ℕ × TaskPlace F T A)) → may_ask r ≡ true → OwesEnd F T A values limit to_gain (At r) ds us l
  finds_limit r ds us l may m f x e lt full = computed m (allows _ (may_ask r) (at_the_limit m.word.references limit m.limit (not_true (nat_lt m.word.references limit) full) f.limited) may) e refl

  -- a reference is gained
  pub gains : (r : Rest) (ds : List Deed) (us : List Member) (l : List (ℕ × TaskPlace F T A)) → may_ask r ≡ true → OwesChange F T A values limit to_gain (At r) ds us l
  gains r ds us l may m f applied = let room : nat_lt m.word.references limit ≡ true = right_true (is_held m.word) _ applied in
      computed m (allows _ (may_gain (scene m) r) (ap (λ k. nat_lt m.word.references k) f.limited ∙ room) (gains_it r m may (left_true (is_held m.word) _ applied))) refl refl

  -- the task is over
  pub finds_over : (r : Rest) (ds : List Deed) (us : List Member) (l : List (ℕ × TaskPlace F T A)) → may_call r ≡ true → OwesEnd F T A values limit to_wake (At r) ds us l
  finds_over r ds us l may m f x e lt is = computed m (allows _ (may_wake (scene m) r) is (finds_it_over r m may (not_true (is_open m.word) is))) e refl

  -- a wake of an open task
  pub wakes : (r : Rest) (ds : List Deed) (us : List Member) (l : List (ℕ × TaskPlace F T A)) → may_call r ≡ true → OwesChange F T A values limit to_wake (At r) ds us l
  wakes r ds us l may m f applied = by (found 0 WakeIdle m.word) (found 0 WakeRunning m.word) refl refl
    where
      lets : may_wake (scene m) r ≡ true
      lets = wakes_it r m may (left_true (is_held m.word) (is_open m.word) applied)

      by : (a b : Bool) → found 0 WakeIdle m.word ≡ a → found 0 WakeRunning m.word ≡ b
          → let acts : List Act = waking_task (if a then Idle else (if b then Running else Scheduled)) in Steps values m (At r) acts (number_of (word_after m.word acts)) l
      by true b fit too = computed m (allows _ (may_wake (scene m) r) fit lets) refl refl
      by false true unfit fit = computed m (allows _ (may_wake (scene m) r) fit lets) refl refl
      by false false unfit too = computed m (allows _ (may_wake (scene m) r) (scheduled_fits m.word (right_true (is_held m.word) (is_open m.word) applied) unfit too) lets) refl refl

  -- a waker is dropped
  pub drops_waker : (ds : List Deed) (us : List Member) (l : List (ℕ × TaskPlace F T A)) → Owes F T A values limit dropping_waker (λ n. (n + (2 ^ 64 - 256)) % 2 ^ 64) (At Waker) ds us l
  drops_waker ds us l m f x e lt = by (nat_lt 1 m.word.references || m.word.task) (is_open m.word) refl refl
    where
      here : 1 ≤ (census m.parties).wakers
      here = counted (λ c. c.wakers) (λ a b. refl) m.parties f.number (At Waker) f.stands

      some : 1 ≤ m.word.references
      some = holds_one m.limit m.word m.slots m.trace (census m.parties) f.invariant.holds here

      is : state_of x ≡ m.word
      is = ap state_of e ∙ state_of_number_of m.word

      fewer : (x + (2 ^ 64 - 256)) % 2 ^ 64 ≡ number_of (record (m.word) { references = m.word.references - 1 })
      fewer = fetch_sub-reference x lt (subst (λ (w : State). 1 ≤ w.references) (sym is) some) ∙ ap (λ (w : State). number_of (record w { references = w.references - 1 })) is

      by : (b o : Bool) → (nat_lt 1 m.word.references || m.word.task) ≡ b → is_open m.word ≡ o
          → Steps values m (At Waker) (dropping_as (if b then Shared else (if o then Orphaned else Last))) ((x + (2 ^ 64 - 256)) % 2 ^ 64) l
      by true o shared now = computed m {acts = DropWaker ∷ EndCall ∷ []} (row_fits shared) fewer refl
      by false true shared now = computed m {acts = OrphanTask ∷ []} (row_fits (is_last m.word.references m.word.task (is_open m.word) some shared now)) fewer refl
      by false false shared now = by_table m {acts = DropLastWaker ∷ []} (row_fits (is_last m.word.references m.word.task (not (is_open m.word)) some shared (over (is_open m.word) now))) fewer (refl, refl)
          (takes_awaiter refl refl refl (inr (refl, refl)) (λ y w. (m.slots.awaiter, w)))

  -- the last waker closes the task
  pub closes_orphan : (ds : List Deed) (us : List Member) (l : List (ℕ × TaskPlace F T A)) → Owes F T A values limit closing_orphan (λ _. 265) OrphanHolder ds us l
  closes_orphan ds us l m f x e lt = computed m refl refl refl
