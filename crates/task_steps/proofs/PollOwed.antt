-- What each step of a poll of the Task owes: the machine allows its acts, and writes its number.
use Rattle.std.proofs.Common.{◌≡◌, ℕ, ◌+◌, ◌≤◌, Bool, true, false, not, ◌&&◌, ◌||◌, Option, Some, None, List, [], ◌∷◌, refl, sym, ap, ◌∙◌, subst, inl, inr, ⊎_elim, arith}
use mathlib.Core.Option.{some}
use lib.ListN.{get_elem?}
use Rattle.std.specs.Prelude.{if◌then◌else◌, bit_and}
use Rattle.atomic_table.specs.Table.{rest}
use Rattle.task_steps.proofs.Vocabulary.{State, state_of, number_of, found, written, Event, TaskPollBegins, TaskPollEnds, Closes, PollAnswer, IsPending, Position, OfPoll, OfClaim, At, Notifier, Looking, SawOutput, TookOutput}
use Rattle.task_steps.proofs.Vocabulary.{RefuseClone, Answering, Registrar, UnusedClone, Registered, OldAwaiterInHand, TookBack, CloneInHand, Task, Act, Look, ClaimOutput, EndCall, Slots, leaves_slots}
use Rattle.task_steps.proofs.Vocabulary.{when, notifies, first_look, second_look, after_storing, Machine, scene, count, is_task_poll, owns_awaiter, Census, census, Awaiting, awaiting, HandshakeHolds, Holds, fits, state_of_number_of}
use Rattle.task_steps.proofs.Vocabulary.{DropAwaiter, WakeAwaiter, fetch_and-awaiter_registering_notifying, Invariant, TaskPlace, Empty, Deed, Member}
use Rattle.task_steps.specs.Values.{Values}
use Rattle.task_steps.specs.declared.kept.StoredAwaiter.{StoredAwaiter}
use Rattle.task_steps.specs.Stored.{stored_by}
use Rattle.task_steps.specs.Rule.{has_work, Waits}
use Rattle.task_steps.specs.Steps.{and_then, spot, work_first, awaiter_first, TakesOutput, Works, Awaits}
use Rattle.task_steps.specs.PollScripts.{has_output, has_ended, has_to_wait, handing_out, ending_notified, to_look, to_look_again, to_begin_register, to_end_register}
use Rattle.task_steps.proofs.Bools.{never}
use Rattle.task_steps.proofs.Acts.{leads}
use Rattle.task_steps.proofs.Facts.{bit_le, counted, counted_awaiting, number_is}
use Rattle.task_steps.proofs.Advance.{stays, takes_output, gives_work, lies_nowhere, takes_awaiter, gives_awaiter, Steps, keeps_places}
use Rattle.task_steps.proofs.Computed.{by_table, computed, noted, row_fits, guarded}
use Rattle.task_steps.proofs.Allowed.{Owes, OwesChange, OwesEnd}
use Rattle.task_steps.proofs.Known.{OwesNote}

-- a position that has no place of the table
abbrev pub Free : Position → Type 0
Free p = (has_work p ≡ false) × (owns_awaiter p ≡ false)

free_if : (b : Bool) (p q : Position) → Free p → Free q → Free (if b then p else q)
free_if true p q x y = x
free_if false p q x y = y

pub first_free : (w : State) (i : ℕ) → Free (first_look w i)
first_free w i = free_if (has_ended w) (Notifier (OfPoll i)) (Registrar i) (refl, refl) (refl, refl)

pub second_free : (w : State) (i : ℕ) → Free (second_look w i)
second_free w i = free_if w.closed (if w.scheduled || w.running then Answering i IsPending else Notifier (OfPoll i)) (if w.completed then SawOutput i else Answering i IsPending)
    (free_if (w.scheduled || w.running) (Answering i IsPending) (Notifier (OfPoll i)) (refl, refl) (refl, refl))
    (free_if w.completed (SawOutput i) (Answering i IsPending) (refl, refl) (refl, refl))

-- a position that has the output
claim_works : (b : Bool) (i : ℕ) → (has_work (notifies b (OfClaim i)) ≡ true) × (owns_awaiter (notifies b (OfClaim i)) ≡ false)
claim_works true i = (refl, refl)
claim_works false i = (refl, refl)

-- a look that has to wait answers so
waits : (i : ℕ) (closed busy completed : Bool) → (if closed then busy else not completed) ≡ true → (if closed then (if busy then Answering i IsPending else Notifier (OfPoll i)) else (if completed then SawOutput i else Answering i IsPending)) ≡ Answering i IsPending
waits i true true completed e = refl
waits i true false completed e = never e
waits i false busy true e = never e
waits i false busy false e = refl

pub has_waited : (w : State) (i : ℕ) → has_to_wait w ≡ true → second_look w i ≡ Answering i IsPending
has_waited w i e = waits i w.closed (w.scheduled || w.running) w.completed e

-- a look that finds the output claims it
pub sees_output : (w : State) (i : ℕ) → has_output w ≡ true → second_look w i ≡ SawOutput i
sees_output w i e = claims_there i w.closed (w.scheduled || w.running) w.completed e
  where
    claims_there : (i : ℕ) (closed busy completed : Bool) → (completed && not closed) ≡ true → (if closed then (if busy then Answering i IsPending else Notifier (OfPoll i)) else (if completed then SawOutput i else Answering i IsPending)) ≡ SawOutput i
    claims_there i true busy true e = never e
    claims_there i true busy false e = never e
    claims_there i false busy true e = refl
    claims_there i false busy false e = never e

-- the value of the first place, which a list of places has once
abbrev value_or : {X : Type 0} → X → List (ℕ × X) → X
value_or y [] = y
value_or y (x ∷ xs) = x.1

pub same_first : {X : Type 0} (l r s : List (ℕ × X)) (k : ℕ) (x y : X) → l ≡ (k, x) ∷ r → l ≡ (k, y) ∷ s → x ≡ y
same_first l r s k x y e f = ap (value_or x) (sym e ∙ f)

-- what the invariant says to the Task
pub output_there : (limit : ℕ) (w : State) (slots : Slots) (t : List Event) (c : Census) → Holds limit w slots t c → has_output w ≡ true → slots.output ≡ true
output_there limit w slots t c h e = grind arith

-- whoever has the output finds the future gone
pub future_gone : (limit : ℕ) (w : State) (slots : Slots) (t : List Event) (c : Census) → Holds limit w slots t c → 1 ≤ c.claims → slots.future ≡ false
future_gone limit w slots t c h e = grind arith

was_taken_back : (i : ℕ) (w : State) (slots : Slots) (t : List Event) (b : Awaiting) → HandshakeHolds i w slots t b → 1 ≤ b.takers_back → (w.notifying ≡ true) × (slots.awaiter ≡ None)
was_taken_back i w slots t b h e = ⊎_elim (λ (z : b.takers_back ≡ 0). absurd (omega arith)) (λ z. z) h.taken_back

clone_stored : (i : ℕ) (w : State) (slots : Slots) (t : List Event) (b : Awaiting) → HandshakeHolds i w slots t b → 1 ≤ b.registered → slots.awaiter ≡ Some (count is_task_poll t)
clone_stored i w slots t b h e = ⊎_elim (λ (z : b.registered ≡ 0). absurd (omega arith)) (λ z. z) h.own

-- a poll that knows its number is the newest
is_newest : (i : ℕ) (w : State) (slots : Slots) (t : List Event) (b : Awaiting) → HandshakeHolds i w slots t b → 1 ≤ b.numbered → b.number ≡ count is_task_poll t
is_newest i w slots t b h e = ⊎_elim (λ (z : b.numbered ≡ 0). absurd (omega arith)) (λ z. z) h.numbers

-- .. so its number is the one of the clone that it has stored
stored_number : (i : ℕ) (m : Machine) (k : ℕ) → Invariant m → get_elem? m.parties k ≡ some (Registered i) → m.slots.awaiter ≡ Some i
stored_number i m k v e = let b = awaiting i m.parties in
    let stored = clone_stored i m.word m.slots m.trace b (v.shakes i) (counted_awaiting (λ b. b.registered) (λ a b. refl) i m.parties k (Registered i) e) in
    let few : b.numbered ≤ 1 = omega (arith, (fits i m.parties).numbered, v.holds.task, bit_le m.word.task) in
    let newest = is_newest i m.word m.slots m.trace b (v.shakes i) (counted_awaiting (λ b. b.numbered) (λ a b. refl) i m.parties k (Registered i) e) in
    stored ∙ ap Some (sym newest ∙ number_is i m.parties k (Registered i) e (omega arith) few)

-- a word that has the output
pub output_lies : (m : Machine) → Invariant m → has_output m.word ≡ true → m.slots.output ≡ true
output_lies m i e = output_there m.limit m.word m.slots m.trace (census m.parties) i.holds e

module _ (limit : ℕ) where
  pub ends_poll : (i : ℕ) (answer : PollAnswer) (ds : List Deed) (us : List Member) → OwesNote limit (EndCall ∷ []) (Answering i answer) ds us
  ends_poll i answer ds us m f = noted refl refl refl

  pub refuses : (i : ℕ) (ds : List Deed) (us : List Member) → OwesNote limit (RefuseClone ∷ EndCall ∷ []) (Registrar i) ds us
  refuses i ds us m f = noted refl refl refl

  pub drops_clone : (i : ℕ) (ds : List Deed) (us : List Member) → OwesNote limit (DropAwaiter ∷ []) (UnusedClone i) ds us
  drops_clone i ds us m f = noted refl refl refl

  -- an awaiter is stored over an older one, which stood in the slot
  pub drops_stored : (i old : ℕ) (ds : List Deed) (us : List Member) → OwesNote limit (DropAwaiter ∷ []) (OldAwaiterInHand i old) ds us
  drops_stored i old ds us m f = noted refl refl refl

  pub wakes_clone : (i : ℕ) (ds : List Deed) (us : List Member) → OwesNote limit (WakeAwaiter ∷ []) (CloneInHand i) ds us
  wakes_clone i ds us m f = noted refl refl refl

module _ (F T A : Type 0) (values : Values F T) (limit : ℕ) where
  pub looks : (n : ℕ) (ds : List Deed) (us : List Member) (l : List (ℕ × TaskPlace F T A)) → OwesEnd F T A values limit to_look (At (Task n)) ds us l
  looks n ds us l m f number x lt e = let f = first_free m.word (n + 1) in by_table m (guarded e) x (refl, refl)
      (stays f.0 f.1 (inr (refl, refl)) (inr refl))

  looks_again_by : (m : Machine) (i number : ℕ) (l : List (ℕ × TaskPlace F T A)) (b : Bool) → has_to_wait m.word ≡ b → number ≡ number_of m.word → Steps values m (Looking i) (if b then Look ∷ EndCall ∷ [] else Look ∷ []) number l
  looks_again_by m i number l true e x = keeps_places values (leaves_slots (scene m) m.word (At (Task i)) [] (TaskPollEnds i IsPending ∷ []))
      (ap (λ (p : Position). and_then (Some (leaves_slots (scene m) m.word p [] [])) (λ o. leads (spot m.limit o.word o.slots) (EndCall ∷ []) o.next)) (has_waited m.word i e)) x refl
  looks_again_by m i number l false e x = let f = second_free m.word i in by_table m refl x (refl, refl) (stays f.0 f.1 (inr (refl, refl)) (inr refl))

  pub looks_again : (i : ℕ) (ds : List Deed) (us : List Member) (l : List (ℕ × TaskPlace F T A)) → OwesEnd F T A values limit to_look_again (Looking i) ds us l
  looks_again i ds us l m f number x lt e = looks_again_by m i number l (has_to_wait m.word) refl x

  claims_by : (m : Machine) (p : Position) (acts : List Act) (i : ℕ) (told : List Event) (l : List (ℕ × TaskPlace F T A)) → Free p → has_output m.word ≡ true
      → leads (scene m) acts p ≡ and_then (when (found 0 ClaimOutput m.word) (leaves_slots (scene m) (written ClaimOutput m.word) (notifies m.word.awaiter (OfClaim i)) [] told)) (λ o. leads (spot m.limit o.word o.slots) [] o.next)
      → m.slots.output ≡ true → Steps values m p acts (number_of (written ClaimOutput m.word)) l
  claims_by m p acts i told l free fit is there = let f = claim_works m.word.awaiter i in record {
    outcome = leaves_slots (scene m) (written ClaimOutput m.word) (notifies m.word.awaiter (OfClaim i)) [] told;
    leads_to = is ∙ ap (λ (b : Bool). and_then (when b (leaves_slots (scene m) (written ClaimOutput m.word) (notifies m.word.awaiter (OfClaim i)) [] told)) (λ o. leads (spot m.limit o.word o.slots) [] o.next)) fit;
    writes = refl;
    idle = (refl, refl);
    placing = takes_output free.0 f.0 (f.1 ∙ sym free.1) (inr refl) there (works m.word.awaiter);
  }
    where
      works : (b : Bool) (l' : List (ℕ × TaskPlace F T A)) → TakesOutput values l l' → Works values (notifies b (OfClaim i)) l l'
      works true l' h = h
      works false l' h = h

  pub hands_out : (i : ℕ) (ds : List Deed) (us : List Member) (l : List (ℕ × TaskPlace F T A)) → l ≡ work_first Empty (rest l) → Owes F T A values limit handing_out (λ n. n) (TookOutput i) ds us l
  hands_out i ds us l has m f number x lt = let none = future_gone m.limit m.word m.slots m.trace (census m.parties) f.invariant.holds (counted (λ c. c.claims) (λ a b. refl) m.parties f.number (TookOutput i) f.stands) in by_table m refl x (refl, refl)
      (gives_work Empty refl refl refl (inr refl) has (lies_nowhere F T values (record (m.slots) { output = false }) none refl))

  pub finds_notifier : (i : ℕ) (ds : List Deed) (us : List Member) (l : List (ℕ × TaskPlace F T A)) → OwesEnd F T A values limit to_begin_register (Registrar i) ds us l
  finds_notifier i ds us l m f number x lt e = computed m (row_fits e) x refl

  -- where the clone was put in, by what stood there
  stored_free : (i : ℕ) (hand : Option ℕ) → (has_work (after_storing i hand) ≡ false) × (owns_awaiter (after_storing i hand) ≡ true)
  stored_free i None = (refl, refl)
  stored_free i (Some old) = (refl, refl)

  stored_awaits : (i : ℕ) (hand : Option ℕ) (y : Option (StoredAwaiter A)) → Waits hand y → Awaits (after_storing i hand) y
  stored_awaits i None y h = h
  stored_awaits i (Some old) y h = h

  pub begins_register : (i : ℕ) (ds : List Deed) (us : List Member) (l : List (ℕ × TaskPlace F T A)) → OwesChange F T A values limit to_begin_register (Registrar i) ds us l
  begins_register i ds us l m f fit = let s = stored_free i m.slots.awaiter in by_table m (row_fits fit) refl (refl, refl) (takes_awaiter refl s.1 s.0 (inr (refl, refl)) (stored_awaits i m.slots.awaiter))

  pub ends_register : (i : ℕ) (ds : List Deed) (us : List Member) (a : StoredAwaiter A) (l : List (ℕ × TaskPlace F T A)) → stored_by a ≡ i → l ≡ awaiter_first (Some a) (rest l) → OwesChange F T A values limit to_end_register (Registered i) ds us l
  ends_register i ds us a l by has m f fit = by_table m (row_fits fit) refl (refl, refl)
      (gives_awaiter (Some a) refl refl refl (inr (refl, refl)) has (subst (λ (hand : Option ℕ). Waits hand (Some a)) (sym (stored_number i m f.number f.invariant f.stands)) by))

  -- the clone is taken back while its place is still the poll's
  pub takes_back : (i : ℕ) (ds : List Deed) (us : List Member) (l : List (ℕ × TaskPlace F T A)) → OwesEnd F T A values limit to_end_register (Registered i) ds us l
  takes_back i ds us l m f number x lt e = by_table m (guarded e) x (refl, refl) (stays refl refl (inr (refl, refl)) (inl refl))

  pub ends_notified : (i : ℕ) (ds : List Deed) (us : List Member) (l : List (ℕ × TaskPlace F T A)) → l ≡ awaiter_first None (rest l) → Owes F T A values limit ending_notified (λ n. bit_and n 18446744073709551391) (TookBack i) ds us l
  ends_notified i ds us l has m f n e lt = let t = was_taken_back i m.word m.slots m.trace (awaiting i m.parties) (f.invariant.shakes i) (counted_awaiting (λ b. b.takers_back) (λ a b. refl) i m.parties f.number (TookBack i) f.stands) in by_table m (row_fits t.0) (fetch_and-awaiter_registering_notifying n lt ∙ ap (λ (w : State). number_of (record w { awaiter = false; registering = false; notifying = false })) (ap state_of e ∙ state_of_number_of m.word)) (refl, refl)
      (gives_awaiter None refl refl refl (inr (refl, refl)) has (subst (λ (hand : Option ℕ). Waits {A = A} hand None) (sym t.1) tt))

  -- the output is taken at once, or by a poll that has registered
  pub claims : (n : ℕ) (ds : List Deed) (us : List Member) (l : List (ℕ × TaskPlace F T A)) → OwesChange F T A values limit to_look (At (Task n)) ds us l
  claims n ds us l m f fit = claims_by m (At (Task n)) (ClaimOutput ∷ []) (n + 1) (Closes ∷ TaskPollBegins (n + 1) ∷ []) l (refl, refl) fit refl (output_lies m f.invariant fit)

  pub claims_again : (i : ℕ) (ds : List Deed) (us : List Member) (l : List (ℕ × TaskPlace F T A)) → OwesChange F T A values limit to_look_again (Looking i) ds us l
  claims_again i ds us l m f fit = claims_by m (Looking i) (Look ∷ ClaimOutput ∷ []) i (Closes ∷ []) l (refl, refl) fit
      (ap (λ (p : Position). and_then (Some (leaves_slots (scene m) m.word p [] [])) (λ o. leads (spot m.limit o.word o.slots) (ClaimOutput ∷ []) o.next)) (sees_output m.word i fit)
      ∙ again (found 0 ClaimOutput m.word))
      (output_lies m f.invariant fit)
    where
      again : (b : Bool) → and_then (Some (leaves_slots (scene m) m.word (SawOutput i) [] [])) (λ o. and_then (when b (leaves_slots (spot m.limit o.word o.slots) (written ClaimOutput o.word) (notifies o.word.awaiter (OfClaim i)) [] (Closes ∷ []))) (λ o. leads (spot m.limit o.word o.slots) [] o.next))
          ≡ and_then (when b (leaves_slots (scene m) (written ClaimOutput m.word) (notifies m.word.awaiter (OfClaim i)) [] (Closes ∷ []))) (λ o. leads (spot m.limit o.word o.slots) [] o.next)
      again true = refl
      again false = refl
