-- What the steps of a run and of a Runnable's drop owe.
use Rattle.std.proofs.Common.{◌≡◌, ℕ, ◌+◌, ◌-◌, ◌%◌, ◌^◌, ◌≤◌, Bool, true, false, not, ◌&&◌, ◌||◌, Option, Some, None, List, [], ◌∷◌, refl, sym, ap, ◌∙◌, subst, inl, inr, arith}
use Rattle.std.specs.Prelude.{bit_and, bit_or, nat_eq, nat_lt, if◌then◌else◌}
use Rattle.std.proofs.lemmas.Bool.Decides.{nat_tests}
use Rattle.atomic_table.specs.Table.{rest}
use Rattle.task_steps.proofs.Vocabulary.{State, state_of, number_of, Event, Completes, RunEnded, Answer, Runnable, OfRun}
use Rattle.task_steps.proofs.Vocabulary.{At, GivingUp, Emptier, Polling, Pending, ReadyFutureDropped, PendingFutureDropped, OutputInHand, GiveUpReference, GiveUpLastReference, DiscardOpen, DiscardClosed}
use Rattle.task_steps.proofs.Vocabulary.{DropFuture, StoreOutput, Complete, CompleteDetached, AnswerPending, Act, written, Slots, notifies, after_giving_up}
use Rattle.task_steps.proofs.Vocabulary.{owns_awaiter, Census, census, Holds, state_of_number_of, fetch_or-closed, fetch_sub-reference, fetch_and-scheduled_running, Slot, TaskPlace, Empty, Deed, Member}
use Rattle.task_steps.specs.Values.{Values}
use Rattle.task_steps.specs.Rule.{has_work, IsFuture, IsOutput, Lies}
use Rattle.task_steps.specs.Steps.{work_first, awaiter_first}
use Rattle.task_steps.specs.Scripts.{dropping_output}
use Rattle.task_steps.specs.Attempt.{word_after}
use Rattle.task_steps.specs.RunScripts.{giving_up, emptying, discarding, answering_ready, answering_pending, ending_pending, ending_closed, to_complete, to_end_pending}
use Rattle.task_steps.specs.declared.found.PendingEnd.TheVariants.{Rescheduled, Idle, Orphaned}
use Rattle.task_steps.proofs.Seen.{not_true}
use Rattle.task_steps.proofs.Facts.{Queued, queued, counted}
use Rattle.task_steps.proofs.Advance.{Placing, stays, takes_future, gives_work, lies_nowhere, future_lies, takes_awaiter, gives_awaiter, Steps}
use Rattle.task_steps.proofs.Computed.{by_table, row_fits, guarded}
use Rattle.task_steps.proofs.Allowed.{Owes, OwesChange, OwesEnd}

-- after a reference was given up, no place is held
pub given_work : (hand : Option ℕ) (answer : Answer) → has_work (after_giving_up hand answer) ≡ false
given_work None answer = refl
given_work (Some i) answer = refl

pub given_free : (hand : Option ℕ) (answer : Answer) → owns_awaiter (after_giving_up hand answer) ≡ false
given_free None answer = refl
given_free (Some i) answer = refl

pub due_work : (b : Bool) → has_work (notifies b OfRun) ≡ false
due_work true = refl
due_work false = refl

pub due_free : (b : Bool) → owns_awaiter (notifies b OfRun) ≡ false
due_free true = refl
due_free false = refl

-- who gives its reference up holds one
referred : (limit : ℕ) (w : State) (slots : Slots) (t : List Event) (c : Census) → Holds limit w slots t c → 1 ≤ c.finishing → 1 ≤ w.references
referred limit w slots t c h e = grind arith

is_last : (n : ℕ) (b : Bool) → 1 ≤ n → (nat_lt 1 n || b) ≡ false → (nat_eq n 1 && not b) ≡ true
is_last n b e f = grind (arith, nat_tests)

-- a word that is closed already
pub closed_already : (w : State) → w.closed ≡ true → record w { closed = true } ≡ w
closed_already w e = λ i. record w { closed = sym e i }

-- a pending run has the future
pending_facts : (limit : ℕ) (w : State) (slots : Slots) (t : List Event) (c : Census) → Holds limit w slots t c → 1 ≤ c.pending → (1 ≤ w.references) × (slots.future ≡ true)
pending_facts limit w slots t c h e = (grind arith, grind arith)

cleared_facts : (limit : ℕ) (w : State) (slots : Slots) (t : List Event) (c : Census) → Holds limit w slots t c → 1 ≤ c.cleared → (slots.future ≡ false) × (slots.output ≡ false) × (w.closed ≡ true)
cleared_facts limit w slots t c h e = (grind arith, grind arith, grind arith)

-- a run that has dropped the future of a Ready poll
unstored_facts : (limit : ℕ) (w : State) (slots : Slots) (t : List Event) (c : Census) → Holds limit w slots t c → 1 ≤ c.unstored → slots.future ≡ false
unstored_facts limit w slots t c h e = grind arith

output_facts : (limit : ℕ) (w : State) (slots : Slots) (t : List Event) (c : Census) → Holds limit w slots t c → 1 ≤ c.outputs → slots.future ≡ false
output_facts limit w slots t c h e = grind arith

both : {a b : Bool} → a ≡ true → b ≡ true → (a && b) ≡ true
both {a} {b} e f = ap (λ (x : Bool). x && b) e ∙ f

three : (c s d : Bool) → c ≡ false → s ≡ false → d ≡ true → (not c && not s && d) ≡ true
three c s d e f g = grind arith

four : (c s r t : Bool) → c ≡ false → s ≡ false → (r && not t) ≡ true → (not c && not s && (r && not t)) ≡ true
four c s r t e f g = grind arith

module _ (F T A : Type 0) (values : Values F T) (limit : ℕ) where
  pub gives_up : (hand : Option ℕ) (answer : Answer) (ds : List Deed) (us : List Member) (l : List (ℕ × TaskPlace F T A)) → Owes F T A values limit giving_up (λ n. (n + (2 ^ 64 - 256)) % 2 ^ 64) (GivingUp hand answer) ds us l
  gives_up hand answer ds us l m f x e lt = by (nat_lt 1 m.word.references || m.word.task) refl
    where
      here : 1 ≤ (census m.parties).finishing
      here = counted (λ c. c.finishing) (λ a b. refl) m.parties f.number (GivingUp hand answer) f.stands

      some : 1 ≤ m.word.references
      some = referred m.limit m.word m.slots m.trace (census m.parties) f.invariant.holds here

      is : state_of x ≡ m.word
      is = ap state_of e ∙ state_of_number_of m.word

      fewer : (x + (2 ^ 64 - 256)) % 2 ^ 64 ≡ number_of (record (m.word) { references = m.word.references - 1 })
      fewer = fetch_sub-reference x lt (subst (λ (w : State). 1 ≤ w.references) (sym is) some) ∙ ap (λ (w : State). number_of (record w { references = w.references - 1 })) is

      by : (b : Bool) → (nat_lt 1 m.word.references || m.word.task) ≡ b → Steps values m (GivingUp hand answer) (if b then GiveUpReference ∷ [] else GiveUpLastReference ∷ []) ((x + (2 ^ 64 - 256)) % 2 ^ 64) l
      by true h = by_table m {acts = GiveUpReference ∷ []} (row_fits h) fewer (refl, refl) (stays (given_work hand answer) (given_free hand answer) (inr (refl, refl)) (inr refl))
      by false h = by_table m {acts = GiveUpLastReference ∷ []} (row_fits (is_last m.word.references m.word.task some h)) fewer (refl, refl)
          (takes_awaiter refl refl refl (inr (refl, refl)) (λ y w. (m.slots.awaiter, w)))

  pub empties : (hand : Option ℕ) (answer : Answer) (ds : List Deed) (us : List Member) (l : List (ℕ × TaskPlace F T A)) → l ≡ awaiter_first None (rest l) → Owes F T A values limit emptying (λ n. n) (Emptier hand answer) ds us l
  empties hand answer ds us l has m f x e lt = by_table m refl e (refl, refl)
      (gives_awaiter None refl (given_free hand answer) (given_work hand answer) (inr (refl, refl)) has tt)

  pub discards : (ds : List Deed) (us : List Member) (l : List (ℕ × TaskPlace F T A)) → Owes F T A values limit discarding (λ n. bit_or n 8) (At Runnable) ds us l
  discards ds us l m f x e lt = by m.word.closed refl
    where
      there : Queued m
      there = queued m f.number f.invariant f.stands

      sets : bit_or x 8 ≡ number_of (record (m.word) { closed = true })
      sets = fetch_or-closed x ∙ ap (λ (w : State). number_of (record w { closed = true })) (ap state_of e ∙ state_of_number_of m.word)

      by : (b : Bool) → m.word.closed ≡ b → Steps values m (At Runnable) (if b then DiscardClosed ∷ DropFuture ∷ [] else DiscardOpen ∷ DropFuture ∷ []) (bit_or x 8) l
      by true h = by_table m (row_fits h) (sets ∙ ap number_of (closed_already m.word h)) (refl, refl)
          (takes_future refl refl refl (inr refl) there.future (λ _ h. h))
      by false h = by_table m (row_fits (ap not h)) sets (refl, refl) (takes_future refl refl refl (inr refl) there.future (λ _ h. h))

  pub answers_ready : (ds : List Deed) (us : List Member) (l : List (ℕ × TaskPlace F T A)) → Owes F T A values limit answering_ready (λ n. n) Polling ds us l
  answers_ready ds us l m f x e lt = by_table m refl e (refl, refl) (stays refl refl (inl refl) (inr refl))

  pub answers_pending : (ds : List Deed) (us : List Member) (l : List (ℕ × TaskPlace F T A)) → Owes F T A values limit answering_pending (λ n. n) Polling ds us l
  answers_pending ds us l m f x e lt = by m.word.closed refl
    where
      by : (b : Bool) → m.word.closed ≡ b → Steps values m Polling (if b then AnswerPending ∷ DropFuture ∷ [] else AnswerPending ∷ []) x l
      by true h = by_table m (guarded h) e (refl, refl) (stays refl refl (inl refl) (inr refl))
      by false h = by_table m refl e (refl, refl) (stays refl refl (inl refl) (inr refl))

  -- the task was closed meanwhile, and its future is dropped next
  pub finds_closed : (ds : List Deed) (us : List Member) (l : List (ℕ × TaskPlace F T A)) → OwesEnd F T A values limit to_end_pending Pending ds us l
  finds_closed ds us l m f x e lt h = by_table m (guarded h) e (refl, refl) (stays refl refl (inl refl) (inr refl))

  pub ends_closed : (ds : List Deed) (us : List Member) (l : List (ℕ × TaskPlace F T A)) → l ≡ work_first Empty (rest l) → Owes F T A values limit ending_closed (λ n. bit_and n 18446744073709551612) PendingFutureDropped ds us l
  ends_closed ds us l has m f x e lt = by_table m (row_fits gone.2) (fetch_and-scheduled_running x lt ∙ ap (λ (w : State). number_of (record w { scheduled = false; running = false })) (ap state_of e ∙ state_of_number_of m.word)) (refl, refl)
      (gives_work Empty refl (due_work m.word.awaiter) (due_free m.word.awaiter) (inr refl) has (lies_nowhere F T values m.slots gone.0 gone.1))
    where
      gone : (m.slots.future ≡ false) × (m.slots.output ≡ false) × (m.word.closed ≡ true)
      gone = cleared_facts m.limit m.word m.slots m.trace (census m.parties) f.invariant.holds (counted (λ c. c.cleared) (λ a b. refl) m.parties f.number PendingFutureDropped f.stands)

  pub drops_output : (due : Bool) (ds : List Deed) (us : List Member) (l : List (ℕ × TaskPlace F T A)) → l ≡ work_first Empty (rest l) → Owes F T A values limit dropping_output (λ n. n) (OutputInHand due) ds us l
  drops_output due ds us l has m f x e lt = by_table m refl e (refl, refl)
      (gives_work Empty refl (due_work due) (due_free due) (inr refl) has (lies_nowhere F T values (record (m.slots) { output = false }) gone refl))
    where
      gone : m.slots.future ≡ false
      gone = output_facts m.limit m.word m.slots m.trace (census m.parties) f.invariant.holds (counted (λ c. c.outputs) (λ a b. refl) m.parties f.number (OutputInHand due) f.stands)

  -- the run of a Ready future, which was dropped
  pub completes : (ds : List Deed) (us : List Member) (y : Slot F T) (l : List (ℕ × TaskPlace F T A)) → l ≡ work_first y (rest l) → IsOutput values y → OwesChange F T A values limit to_complete ReadyFutureDropped ds us l
  completes ds us y l has is m f any = by m.word.task refl
    where
      gone : m.slots.future ≡ false
      gone = unstored_facts m.limit m.word m.slots m.trace (census m.parties) f.invariant.holds (counted (λ c. c.unstored) (λ a b. refl) m.parties f.number ReadyFutureDropped f.stands)

      stored : Slots
      stored = record (m.slots) { output = true }

      lies : Lies values stored.future stored.output y
      lies = subst (λ (b : Bool). Lies values b true y) (sym gone) is

      placed : (b a : Bool) (v : State) (told : List Event) → Placing values m ReadyFutureDropped (record { word = v; slots = stored; next = if b then OutputInHand a else notifies a OfRun; born = []; told = told }) l
      placed true a v told = stays refl refl (inl refl) (inr refl)
      placed false a v told = gives_work y refl (due_work a) (due_free a) (inr refl) has lies

      by : (b : Bool) → m.word.task ≡ b → let acts : List Act = if b then StoreOutput ∷ Complete ∷ [] else StoreOutput ∷ CompleteDetached ∷ [] in Steps values m ReadyFutureDropped acts (number_of (word_after m.word acts)) l
      by true h = by_table m (row_fits h) refl (refl, refl) (placed m.word.closed m.word.awaiter (written Complete m.word) (Completes ∷ RunEnded ∷ []))
      by false h = by_table m (row_fits (ap not h)) refl (refl, refl) (stays refl refl (inl refl) (inr refl))

  -- the run of a Pending future, on an open task
  pub ends_pending : (ds : List Deed) (us : List Member) (y : Slot F T) (l : List (ℕ × TaskPlace F T A)) → l ≡ work_first y (rest l) → IsFuture values y → OwesChange F T A values limit to_end_pending Pending ds us l
  ends_pending ds us y l has is m f applied = by m.word.scheduled (nat_lt 1 m.word.references || m.word.task) refl refl
    where
      facts : (1 ≤ m.word.references) × (m.slots.future ≡ true)
      facts = pending_facts m.limit m.word m.slots m.trace (census m.parties) f.invariant.holds (counted (λ c. c.pending) (λ a b. refl) m.parties f.number Pending f.stands)

      not_closed : m.word.closed ≡ false
      not_closed = not_true m.word.closed applied

      shared : Bool
      shared = nat_lt 1 m.word.references || m.word.task

      by : (b d : Bool) → m.word.scheduled ≡ b → shared ≡ d
          → let acts : List Act = ending_pending (if b then Rescheduled else (if d then Idle else Orphaned)) in Steps values m Pending acts (number_of (word_after m.word acts)) l
      by true d h k = by_table m (row_fits (both (ap not not_closed) h)) refl (refl, refl)
          (gives_work y refl refl refl (inr refl) has (future_lies values m.slots y facts.1 is))
      by false true h k = by_table m (row_fits (three m.word.closed m.word.scheduled shared not_closed h k)) refl (refl, refl)
          (gives_work y refl refl refl (inr refl) has (future_lies values m.slots y facts.1 is))
      by false false h k = by_table m (row_fits (four m.word.closed m.word.scheduled (nat_eq m.word.references 1) m.word.task not_closed h (is_last m.word.references m.word.task facts.0 k))) refl (refl, refl)
          (gives_work y refl refl refl (inr refl) has (future_lies values m.slots y facts.1 is))
