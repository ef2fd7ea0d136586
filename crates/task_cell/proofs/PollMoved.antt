-- What the looks of a poll and the steps of a registering come to for the party that made them.
use Rattle.task_steps.specs.Values.{Values}
use Rattle.task_steps.specs.Stored.{stored_by}
use Rattle.std.proofs.Common.{inl}
use Rattle.task_steps.specs.declared.kept.StoredAwaiter.{StoredAwaiter}
use Rattle.task_cell.proofs.Vocabulary.{◌≡◌, ℕ, ◌+◌, Bool, true, false, not, ◌&&◌, ◌||◌, Option, Some, None, List, [], ◌∷◌, refl, sym, ap, ◌∙◌, subst, map, if◌then◌else◌, Result, Ok, Err}
use Rattle.task_cell.proofs.Vocabulary.{IfOk, IfErr, Me, State, Position, TaskPollBegins, IsPending, OfPoll, OfClaim, Looking, SawOutput, Answering, Notifier, Registrar}
use Rattle.task_cell.proofs.Vocabulary.{UnusedClone, Registered, TookBack, CloneInHand, Act, Look, CloneAwaiter, StoreAwaiter, FindNotify, BeginRegister, EndRegister, EndRegisterNotified, TakeAwaiter}
use Rattle.task_cell.proofs.Vocabulary.{ClaimOutput, EndCall, Slots, Outcome, leaves_slots, changes_slots, when, notifies, first_look, after_storing, owns_awaiter, Deed, View, Party, member}
use Rattle.task_cell.proofs.Vocabulary.{view, fresh, has_work, Waits, head_of, and_then, spot, held_word, next_of, born_of, leaves_by, noted, acted, TakesOutput, Carries, Carried, Makes}
use Rattle.task_cell.proofs.Vocabulary.{saw_ended, position, deeds, limit_of, StandsWith, Stands, DidWith, Did, after, row, act, has_output, has_ended, has_to_wait}
use Rattle.task_cell.proofs.Vocabulary.{ClaimsOutput, Looks, claims_output, sees_none, LooksAgain}
use Rattle.task_cell.proofs.Vocabulary.{claims_output_now, has_to_wait_on, sees_end, BeginsRegister, begins, finds_one, EndsRegister, ends, finds_notified, as_task, poll_number}
use Rattle.task_cell.proofs.Vocabulary.{MayTry, HasChanged, HasEnded, first_free, has_waited, sees_output, looks, looks_again, begins_register, ends_register, takes_back, claims, claims_again}
use Rattle.task_cell.proofs.Vocabulary.{finds_notifier, not_true, left_true, TaskPlace, work_first, awaiter_first}
use Rattle.task_steps.specs.PollScripts.{to_look, to_look_again, to_begin_register, to_end_register}
use Rattle.task_cell.proofs.Moved.{position_is, held_is, stands, did_then}
use Rattle.task_steps.specs.Shares.{MayBring}
use Rattle.task_cell.proofs.Attempts.{may_bring_at}
use Rattle.task_cell.proofs.PollSeen.{not_both}

-- a look that finds no output, and has not to wait, finds the task ended
finds_end : (i : ℕ) (closed busy completed : Bool) → (if closed then busy else not completed) ≡ false → (completed && not closed) ≡ false
    → ((if closed then (if busy then Answering i IsPending else Notifier (OfPoll i)) else (if completed then SawOutput i else Answering i IsPending)) ≡ Notifier (OfPoll i)) × ((closed && not busy) ≡ true)
finds_end i true true completed e f = absurd (cc)
finds_end i true false completed e f = (refl, refl)
finds_end i false busy true e f = absurd (cc)
finds_end i false busy false e f = absurd (cc)

module _ {F T A : Type 0} where
  -- the seat after acts that lead to this position, and add no party
  went : {values : Values F T} (acts : List Act) (w : State) (at at' : Position) (held : List (ℕ × TaskPlace F T A)) (path : List Deed) (p q : Party F T A) → StandsWith at held p → q.seat.block ≡ p.seat.block → (m : Makes values acts w p.seat.me q.seat.me)
      → next_of (leaves_by (limit_of p) w m.slots acts at) ≡ at' → born_of (leaves_by (limit_of p) w m.slots acts at) ≡ [] → noted w acts (deeds p) ≡ after path (deeds p)
      → Carried values at at' held q.seat.me.1 × DidWith path at' q.seat.me.1 p q
  went {values = values} acts w at at' held path p q s cell m to none is = let viewed = m.viewed ∙ ap (λ x. acted w m.slots acts x.0) s in (
    subst (λ (z : Position × Position × List (ℕ × TaskPlace F T A)). Carried values z.0 z.1 z.2 q.seat.me.1)
        (λ i. (ap (λ (x : Me (TaskPlace F T A) View). (head_of x.0.members).at) s i, (ap (λ (v : View). (head_of v.members).at) viewed ∙ to) i, ap (λ (x : Me (TaskPlace F T A) View). x.1) s i)) m.carried,
    record {
      cell = cell;
      is = λ i. ((viewed ∙ (λ j. view (limit_of p) (member (to j) (is j) ∷ map fresh (none j)))) i, q.seat.me.1);
    },
  )

  pub found_one : {values : Values F T} (limit i : ℕ) (w : State) (p q : Party F T A) → Stands (Registrar i) p → q.seat.block ≡ p.seat.block → HasEnded values limit to_begin_register w p.seat.me q.seat.me → BeginsRegister p q false
  found_one limit i w p q s cell e =
      let path : List Deed = act CloneAwaiter ∷ row FindNotify w ∷ [] in
      let g = went (CloneAwaiter ∷ FindNotify ∷ []) w (Registrar i) (UnusedClone i) [] path p q s cell e.made refl refl refl in
      finds_one w e.at_end (subst (λ at. Did path (UnusedClone (poll_number at)) p q) (sym (position_is p (Registrar i) [] s)) (subst (λ l. DidWith path (UnusedClone i) l p q) g.0 g.1))

  -- the slot that is taken, by what stood in it
  carried_slot : (values : Values F T) (i : ℕ) (hand : Option ℕ) (l' : List (ℕ × TaskPlace F T A)) → Carried values (Registrar i) (after_storing i hand) [] l' → (y : Option (StoredAwaiter A)) × Waits hand y × (l' ≡ awaiter_first y [])
  carried_slot values i None l' c = c
  carried_slot values i (Some old) l' c = c

  pub begun : {values : Values F T} (limit i : ℕ) (r : Unit {0}) (p q : Party F T A) → Stands (Registrar i) p → q.seat.block ≡ p.seat.block → HasChanged values limit to_begin_register r p.seat.me q.seat.me → BeginsRegister p q true
  begun {values = values} limit i r p q s cell c = let m = c.made in let w = c.word in
      let path : List Deed = act CloneAwaiter ∷ row BeginRegister w ∷ act StoreAwaiter ∷ [] in let hand : Option ℕ = m.slots.awaiter in
      let g = went (CloneAwaiter ∷ BeginRegister ∷ StoreAwaiter ∷ []) w (Registrar i) (after_storing i hand) [] path p q s cell m refl refl refl in
      let y = carried_slot values i hand q.seat.me.1 g.0 in
      begins w hand y.0 (not_true w.notifying c.applied) y.1 (subst (λ at. DidWith path (after_storing (poll_number at) hand) (awaiter_first y.0 []) p q) (sym (position_is p (Registrar i) [] s)) (subst (λ l. DidWith path (after_storing i hand) l p q) y.2 g.1))

  -- the slot is given back
  pub ended : {values : Values F T} (limit i : ℕ) (r : Unit {0}) (y : Option (StoredAwaiter A)) (p q : Party F T A) → StandsWith (Registered i) (awaiter_first y []) p → q.seat.block ≡ p.seat.block → HasChanged values limit to_end_register r p.seat.me q.seat.me → EndsRegister p q true
  ended limit i r y p q s cell c = let m = c.made in let w = c.word in
      let path : List Deed = row EndRegister w ∷ [] in
      let g = went (EndRegister ∷ []) w (Registered i) (Looking i) (awaiter_first y []) path p q s cell m refl refl refl in
      ends w (not_true w.notifying c.applied) (subst (λ at. Did path (Looking (poll_number at)) p q) (sym (position_is p (Registered i) (awaiter_first y []) s)) (subst (λ l. DidWith path (Looking i) l p q) g.0 g.1))

  -- the slot is given back without the clone, which was taken out of it
  pub given_back : {values : Values F T} (i : ℕ) (w : State) (y : Option (StoredAwaiter A)) (p q r : Party F T A) → StandsWith (TookBack i) (awaiter_first y []) p → DidWith [] (TookBack i) (awaiter_first None []) p q → r.seat.block ≡ q.seat.block → Makes values (EndRegisterNotified ∷ []) w q.seat.me r.seat.me
      → (v : State) × (v.notifying ≡ true) × Did (row EndRegisterNotified v ∷ []) (CloneInHand (poll_number (position p))) p r
  given_back i w y p q r s took cell m = let path : List Deed = row EndRegisterNotified w ∷ [] in let held : List (ℕ × TaskPlace F T A) = awaiter_first None [] in
      let g = went (EndRegisterNotified ∷ []) w (TookBack i) (CloneInHand i) held path q r (stands p q [] (TookBack i) held took) cell m refl refl refl in (
        w,
        left_true w.notifying true m.fits,
        subst (λ at. Did path (CloneInHand (poll_number at)) p r) (sym (position_is p (TookBack i) (awaiter_first y []) s)) (did_then p q r [] path (TookBack i) (CloneInHand i) held [] took (subst (λ l. DidWith path (CloneInHand i) l q r) g.0 g.1)),
      )

  -- a notifier came meanwhile, and the clone is taken back
  pub notified : {values : Values F T} (limit i : ℕ) (w : State) (y : Option (StoredAwaiter A)) (p q : Party F T A) → StandsWith (Registered i) (awaiter_first y []) p → q.seat.block ≡ p.seat.block → HasEnded values limit to_end_register w p.seat.me q.seat.me → EndsRegister p q false
  notified limit i w y p q s cell e = let m = e.made in let path : List Deed = act TakeAwaiter ∷ [] in let held : List (ℕ × TaskPlace F T A) = awaiter_first y [] in
      let to : (f : Option Outcome → Position) → f (leaves_by (limit_of p) w m.slots (TakeAwaiter ∷ []) (Registered i)) ≡ f (Some (changes_slots (spot (limit_of p) (held_word (Registered i) w) m.slots) w (record (m.slots) { awaiter = None }) (TookBack i) [])) = λ f.
      ap (λ (b : Bool). f (and_then (when b (changes_slots (spot (limit_of p) (held_word (Registered i) w) m.slots) w (record (m.slots) { awaiter = None }) (TookBack i) [])) (λ o. leaves_by (limit_of p) o.word o.slots [] o.next))) e.at_end in
      let none : born_of (leaves_by (limit_of p) w m.slots (TakeAwaiter ∷ []) (Registered i)) ≡ [] = ap (λ (b : Bool). born_of (and_then (when b (changes_slots (spot (limit_of p) (held_word (Registered i) w) m.slots) w (record (m.slots) { awaiter = None }) (TookBack i) [])) (λ o. leaves_by (limit_of p) o.word o.slots [] o.next))) e.at_end in
      let g = went (TakeAwaiter ∷ []) w (Registered i) (TookBack i) held path p q s cell m (to next_of) none refl in
      finds_notified (subst (λ (z : Position × List (ℕ × TaskPlace F T A)). DidWith path (TookBack (poll_number z.0)) z.1 p q) (λ j. (sym (position_is p (Registered i) held s) j, sym (held_is p (Registered i) held s) j)) (subst (λ l. DidWith path (TookBack i) l p q) g.0 g.1))

  -- the places of the output, once it was claimed
  carried_output : (values : Values F T) (b : Bool) (i : ℕ) (l : List (ℕ × TaskPlace F T A)) → Carries values false (has_work (notifies b (OfClaim i))) false (owns_awaiter (notifies b (OfClaim i))) (notifies b (OfClaim i)) [] l → TakesOutput values [] l
  carried_output values true i l c = c
  carried_output values false i l c = c

  claimed : {values : Values F T} (w : State) (at : Position) (acts : List Act) (path : List Deed) (p q : Party F T A) → Stands at p → q.seat.block ≡ p.seat.block → (m : Makes values acts w p.seat.me q.seat.me) → has_output w ≡ true
      → next_of (leaves_by (limit_of p) w m.slots acts at) ≡ notifies w.awaiter (OfClaim (poll_number at)) → born_of (leaves_by (limit_of p) w m.slots acts at) ≡ [] → noted w acts (deeds p) ≡ after path (deeds p)
      → (Carried values at (notifies w.awaiter (OfClaim (poll_number at))) [] q.seat.me.1 → TakesOutput values [] q.seat.me.1) → ClaimsOutput values w path p q
  claimed w at acts path p q s cell m there to none is takes = let g = went acts w at (notifies w.awaiter (OfClaim (poll_number at))) [] path p q s cell m to none is in let c = takes g.0 in record {
    there = there;
    output = c.0;
    is_output = c.1;
    did = subst (λ at. DidWith path (notifies w.awaiter (OfClaim (poll_number at))) (work_first c.0 []) p q) (sym (position_is p at [] s)) (subst (λ l. DidWith path (notifies w.awaiter (OfClaim (poll_number at))) l p q) c.2 g.1);
  }

  first_holds : (values : Values F T) (w : State) (n : ℕ) (l : List (ℕ × TaskPlace F T A)) → Carried values (as_task n) (first_look w (n + 1)) [] l → l ≡ []
  first_holds values w n l c = let f = first_free w (n + 1) in subst (λ (z : Bool × Bool). Carries values false z.0 false z.1 (first_look w (n + 1)) [] l) (λ j. (f.0 j, f.1 j)) c

  -- the first look of a poll
  pub looks_so : {values : Values F T} (limit n : ℕ) (x : Result State State) (p q : Party F T A) → Stands (as_task n) p → q.seat.block ≡ p.seat.block → IfOk x (λ w. HasChanged values limit to_look w p.seat.me q.seat.me)
      → IfErr x (λ w. HasEnded values limit to_look w p.seat.me q.seat.me) → Looks values p q x
  looks_so {values = values} limit n (Ok r) p q s cell c e = let w = c.word in subst (λ (v : State). Looks values p q (Ok v)) (sym c.is)
      (claims_output w (claimed w (as_task n) (ClaimOutput ∷ []) (row ClaimOutput w ∷ []) p q s cell c.made c.applied refl refl refl (carried_output values w.awaiter (n + 1) q.seat.me.1)))
  looks_so {values = values} limit n (Err w) p q s cell c e = let m = e.made in let l : ℕ = limit_of p in let path : List Deed = row Look w ∷ [] in
      let left : Bool → Option Outcome = (λ b. and_then (when b (leaves_slots (spot l (held_word (as_task n) w) m.slots) w (first_look (held_word (as_task n) w) (n + 1)) [] (TaskPollBegins (n + 1) ∷ []))) (λ o. leaves_by l o.word o.slots [] o.next)) in
      let g = went (Look ∷ []) w (as_task n) (first_look w (n + 1)) [] path p q s cell m (ap (λ b. next_of (left b)) e.at_end) (ap (λ b. born_of (left b)) e.at_end) refl in
      sees_none w (not_true (has_output w) e.at_end) (subst (λ at. Did path (first_look w (poll_number at)) p q) (sym (position_is p (as_task n) [] s)) (subst (λ l. DidWith path (first_look w (n + 1)) l p q) (first_holds values w n q.seat.me.1 g.0) g.1))

  -- the first look finds the task ended where one before it did
  pub finds_it_ended : (values : Values F T) (limit : ℕ) (x : Result State State) (p q : Party F T A) → IfOk x (λ w. HasChanged values limit to_look w p.seat.me q.seat.me) → IfErr x (λ w. HasEnded values limit to_look w p.seat.me q.seat.me)
      → saw_ended (deeds p) ≡ true → (w : State) × (x ≡ Err w) × (has_ended w ≡ true)
  finds_it_ended values limit (Ok r) p q c e saw = not_both c.word (c.knows.ended saw) c.applied
  finds_it_ended values limit (Err w) p q c e saw = (w, refl, e.knows.ended saw)

  -- the look of a poll that has registered finds no output
  looked_again_in_vain : {values : Values F T} (limit i : ℕ) (w : State) (p q : Party F T A) → Stands (Looking i) p → q.seat.block ≡ p.seat.block → HasEnded values limit to_look_again w p.seat.me q.seat.me → LooksAgain values p q (Err w)
  looked_again_in_vain {values = values} limit i w p q s cell e = by (has_to_wait w) refl
    where
      l : ℕ
      l = limit_of p

      left : Slots → List Act → Position → Option Outcome
      left slots acts at = and_then (Some (leaves_slots (spot l (held_word (Looking i) w) slots) w at [] [])) (λ o. leaves_by l o.word o.slots acts o.next)

      by : (b : Bool) → has_to_wait w ≡ b → LooksAgain values p q (Err w)
      by true f = let m = subst (λ b. Makes values (if b then Look ∷ EndCall ∷ [] else Look ∷ []) w p.seat.me q.seat.me) f e.made in let path : List Deed = row Look w ∷ act EndCall ∷ [] in
          let is = has_waited w i f in let g = went (Look ∷ EndCall ∷ []) w (Looking i) (as_task i) [] path p q s cell m (ap (λ at. next_of (left m.slots (EndCall ∷ []) at)) is) (ap (λ at. born_of (left m.slots (EndCall ∷ []) at)) is) refl in
          has_to_wait_on w f (subst (λ at. Did path (as_task (poll_number at)) p q) (sym (position_is p (Looking i) [] s)) (subst (λ l. DidWith path (as_task i) l p q) g.0 g.1))
      by false f = let m = subst (λ b. Makes values (if b then Look ∷ EndCall ∷ [] else Look ∷ []) w p.seat.me q.seat.me) f e.made in let path : List Deed = row Look w ∷ [] in
          let is = finds_end i w.closed (w.scheduled || w.running) w.completed f (not_true (has_output w) e.at_end) in let g = went (Look ∷ []) w (Looking i) (Notifier (OfPoll i)) [] path p q s cell m (ap (λ at. next_of (left m.slots [] at)) is.0) (ap (λ at. born_of (left m.slots [] at)) is.0) refl in
          sees_end w f is.1 (subst (λ at. Did path (Notifier (OfPoll (poll_number at))) p q) (sym (position_is p (Looking i) [] s)) (subst (λ l. DidWith path (Notifier (OfPoll i)) l p q) g.0 g.1))

  pub looks_again_so : {values : Values F T} (limit i : ℕ) (x : Result State State) (p q : Party F T A) → Stands (Looking i) p → q.seat.block ≡ p.seat.block → IfOk x (λ w. HasChanged values limit to_look_again w p.seat.me q.seat.me)
      → IfErr x (λ w. HasEnded values limit to_look_again w p.seat.me q.seat.me) → LooksAgain values p q x
  looks_again_so {values = values} limit i (Ok r) p q s cell c e = let w = c.word in let m = c.made in let l : ℕ = limit_of p in let there = c.applied in
      let left : Position → Option Outcome = (λ at. and_then (Some (leaves_slots (spot l (held_word (Looking i) w) m.slots) w at [] [])) (λ o. leaves_by l o.word o.slots (ClaimOutput ∷ []) o.next)) in
      subst (λ (v : State). LooksAgain values p q (Ok v)) (sym c.is) (claims_output_now w (claimed w (Looking i) (Look ∷ ClaimOutput ∷ []) (row Look w ∷ row ClaimOutput w ∷ []) p q s cell m there (ap (λ at. next_of (left at)) (sees_output w i there)) (ap (λ at. born_of (left at)) (sees_output w i there)) refl (carried_output values w.awaiter i q.seat.me.1)))
  looks_again_so limit i (Err w) p q s cell c e = looked_again_in_vain limit i w p q s cell e

module _ (F T A : Type 0) (values : Values F T) (limit : ℕ) where
  -- the rule allows a poll to look, to take the awaiter slot, and to give it back
  pub may_register : (p : Party F T A) (i : ℕ) → Stands (Registrar i) p → MayTry values limit 2 p.seat.id p.seat.me to_begin_register × MayBring values limit p.seat.id p.seat.me to_begin_register
  may_register p i s = may_bring_at limit p (Registrar i) [] s to_begin_register (λ w. refl) (begins_register F T A values limit i (deeds p) [] []) (λ m f fits. inl (refl, refl)) (finds_notifier F T A values limit i (deeds p) [] [])

  pub may_give_back : (p : Party F T A) (i : ℕ) (a : StoredAwaiter A) → stored_by a ≡ i → StandsWith (Registered i) (awaiter_first (Some a) []) p → MayTry values limit 2 p.seat.id p.seat.me to_end_register × MayBring values limit p.seat.id p.seat.me to_end_register
  may_give_back p i a by s = let held : List (ℕ × TaskPlace F T A) = awaiter_first (Some a) [] in may_bring_at limit p (Registered i) held s to_end_register (λ w. refl) (ends_register F T A values limit i (deeds p) [] a held by refl) (λ m f fits. inl (refl, refl)) (takes_back F T A values limit i (deeds p) [] held)

  pub may_look : (p : Party F T A) (n : ℕ) → Stands (as_task n) p → MayTry values limit 2 p.seat.id p.seat.me to_look × MayBring values limit p.seat.id p.seat.me to_look
  may_look p n s = may_bring_at limit p (as_task n) [] s to_look (λ w. refl) (claims F T A values limit n (deeds p) [] []) (λ m f fits. inl (refl, refl)) (looks F T A values limit n (deeds p) [] [])

  pub may_look_again : (p : Party F T A) (i : ℕ) → Stands (Looking i) p → MayTry values limit 2 p.seat.id p.seat.me to_look_again × MayBring values limit p.seat.id p.seat.me to_look_again
  may_look_again p i s = may_bring_at limit p (Looking i) [] s to_look_again (λ w. refl) (claims_again F T A values limit i (deeds p) [] []) (λ m f fits. inl (refl, refl)) (looks_again F T A values limit i (deeds p) [] [])
