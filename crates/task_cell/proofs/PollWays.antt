-- The paths of a poll, put together from those of its parts.
use Rattle.task_steps.specs.Values.{Values}
use Rattle.task_steps.specs.declared.kept.StoredAwaiter.{StoredAwaiter}
use Rattle.task_cell.proofs.Vocabulary.{◌≡◌, ℕ, Bool, true, false, Option, Some, None, List, [], ◌∷◌, ◌++◌, refl, sym, ap, ◌∙◌, subst, State, Position, NotifyingCall, OfPoll, OfClaim, Notifier}
use Rattle.task_cell.proofs.Vocabulary.{AwaiterInHand, TookOutput, Answering, HandOutOutput, TakeAwaiter, DropAwaiter, WakeAwaiter, EndCall, BeginNotify, MissNotify, EndNotify, IsClosed, after_waking}
use Rattle.task_cell.proofs.Vocabulary.{may_drop, notifies, Slot, Deed, Party, Fits, position, places_of, StandsWith, Stands, DidWith, Did, Notifies, misses, finds_none, takes_awaiter, row, act}
use Rattle.task_cell.proofs.Vocabulary.{as_task, way_of, poll_number, IsOutput, TakePath, TakePathIf, ClaimsOutput, never, TaskPlace, work_first}
use Rattle.task_laws.specs.Table.{after_taking as on_from}
use Rattle.task_cell.specs.PollPaths as paths
use Rattle.task_cell.proofs.Moved.{did_then, stands, position_is, held_is}
use Rattle.task_cell.proofs.Vocabulary.{Me, View}
use Rattle.task_steps.specs.Stored.{poll_of}

-- the way on of a poll that may drop the awaiter
some_goes_on : (way : NotifyingCall) (i : ℕ) → may_drop way ≡ true → on_from (Some i) way ≡ AwaiterInHand i way
some_goes_on (OfPoll n) i e = refl
some_goes_on (OfClaim n) i e = refl
some_goes_on way i e = never e

none_goes_on : (way : NotifyingCall) → may_drop way ≡ true → on_from None way ≡ after_waking way
none_goes_on (OfPoll n) e = refl
none_goes_on (OfClaim n) e = refl
none_goes_on way e = never e

claimed_number : (b : Bool) (i : ℕ) → poll_number (notifies b (OfClaim i)) ≡ i
claimed_number true i = refl
claimed_number false i = refl

-- where the poll ends that stands here
abbrev pub ends : Position → Position
ends p = as_task (poll_number p)

-- the deeds of a notifier that takes the slot
abbrev pub took : State → State → List Deed
took w v = row BeginNotify w ∷ act TakeAwaiter ∷ row EndNotify v ∷ []

module _ {F T A : Type 0} where
  abbrev Took : Party F T A → Party F T A → Option (StoredAwaiter A) → Type 0
  Took p q None = Unit {0}
  Took p q (Some a) = (w : State) × (v : State) × (i : ℕ) × Fits BeginNotify w × DidWith (took w v) (on_from (Some i) (way_of (position p))) (places_of p) p q

  took_one : (p q : Party F T A) (x : Option (StoredAwaiter A)) → Notifies p q x → Took p q x
  took_one p q None (misses w f g) = tt
  took_one p q None (finds_none w v f g) = tt
  took_one p q (Some a) (takes_awaiter w v i b f by g) = (w, v, i, f, g)

  -- a notifier has taken the slot, and stands with the awaiter in hand
  abbrev pub InHand : NotifyingCall → List (ℕ × TaskPlace F T A) → Party F T A → Party F T A → Type 0
  InHand way held p q = (w : State) × (v : State) × (i : ℕ) × Fits BeginNotify w × DidWith (took w v) (AwaiterInHand i way) held p q

  pub in_hand : (way : NotifyingCall) (held : List (ℕ × TaskPlace F T A)) (p q : Party F T A) (a : StoredAwaiter A) (x : Option (StoredAwaiter A)) → StandsWith (Notifier way) held p → may_drop way ≡ true → Notifies p q x → x ≡ Some a → InHand way held p q
  in_hand way held p q a x s e n is = let g = took_one p q (Some a) (subst (λ y. Notifies p q y) is n) in (
    g.0,
    g.1,
    g.2,
    g.3,
    subst (λ (z : Position × List (ℕ × TaskPlace F T A)). DidWith (took g.0 g.1) z.0 z.1 p q)
        (λ j. ((ap (λ (at : Position). on_from (Some g.2) (way_of at)) (position_is p (Notifier way) held s) ∙ some_goes_on way g.2 e) j, held_is p (Notifier way) held s j)) g.4,
  )

  pub hand_stands : (way : NotifyingCall) (held : List (ℕ × TaskPlace F T A)) (p q : Party F T A) → (h : InHand way held p q) → StandsWith (AwaiterInHand h.2 way) held q
  hand_stands way held p q h = stands p q (took h.0 h.1) (AwaiterInHand h.2 way) held h.4

  -- the awaiter is dealt with, and the poll goes on
  dealt : (way : NotifyingCall) (held : List (ℕ × TaskPlace F T A)) (b : List Deed) (p q r : Party F T A) → StandsWith (Notifier way) held p → (h : InHand way held p q) → DidWith b (after_waking (way_of (position q))) (places_of q) q r
      → DidWith (took h.0 h.1 ++ b) (after_waking (way_of (position p))) (places_of p) p r
  dealt way held b p q r s h g = let t = hand_stands way held p q h in
      let at = position_is q (AwaiterInHand h.2 way) held t in let has = held_is q (AwaiterInHand h.2 way) held t in
      let whole = did_then p q r (took h.0 h.1) b (AwaiterInHand h.2 way) (after_waking way) held held h.4
      (subst (λ (z : Position × List (ℕ × TaskPlace F T A)). DidWith b (after_waking (way_of z.0)) z.1 q r) (λ j. (at j, has j)) g) in
      subst (λ (z : Position × List (ℕ × TaskPlace F T A)). DidWith (took h.0 h.1 ++ b) (after_waking (way_of z.0)) z.1 p r) (λ j. (sym (position_is p (Notifier way) held s) j, sym (held_is p (Notifier way) held s) j)) whole

  module _ {B K : Type 0} (woken : B → K → Type 0) (compared : B → B → Bool → Type 0) (awaiter : B) where
    abbrev pub Takes : Party F T A → Party F T A → Type 0
    Takes p r = (path : List Deed) × TakePath woken compared awaiter path × DidWith path (after_waking (way_of (position p))) (places_of p) p r

    pub dropped : (way : NotifyingCall) (held : List (ℕ × TaskPlace F T A)) (p q r : Party F T A) (a : StoredAwaiter A) (b : B) (x : Option (StoredAwaiter A)) → StandsWith (Notifier way) held p → may_drop way ≡ true → Notifies p q x → x ≡ Some a
        → compared b awaiter true → DidWith (act DropAwaiter ∷ []) (after_waking (way_of (position q))) (places_of q) q r → Takes p r
    dropped way held p q r a b x s e n is same g = let h = in_hand way held p q a x s e n is in
        (took h.0 h.1 ++ (act DropAwaiter ∷ []), paths.drops h.0 h.1 b h.3 same, dealt way held (act DropAwaiter ∷ []) p q r s h g)

    pub woke : (way : NotifyingCall) (held : List (ℕ × TaskPlace F T A)) (p q r : Party F T A) (a : StoredAwaiter A) (b : B) (x : Option (StoredAwaiter A)) → StandsWith (Notifier way) held p → may_drop way ≡ true → Notifies p q x → x ≡ Some a
        → compared b awaiter false → (told : K) × woken b told → DidWith (act WakeAwaiter ∷ []) (after_waking (way_of (position q))) (places_of q) q r → Takes p r
    woke way held p q r a b x s e n is other made g = let h = in_hand way held p q a x s e n is in
        (took h.0 h.1 ++ (act WakeAwaiter ∷ []), paths.wakes h.0 h.1 b made.0 h.3 other made.1, dealt way held (act WakeAwaiter ∷ []) p q r s h g)

    took_none : (way : NotifyingCall) (held : List (ℕ × TaskPlace F T A)) (p r : Party F T A) (path : List Deed) → StandsWith (Notifier way) held p → may_drop way ≡ true → TakePath woken compared awaiter path
        → DidWith path (on_from None (way_of (position p))) (places_of p) p r → Takes p r
    took_none way held p r path s e t g = (
      path,
      t,
      subst (λ at. DidWith path at (places_of p) p r)
          (ap (λ (at : Position). on_from None (way_of at)) (position_is p (Notifier way) held s) ∙ (none_goes_on way e ∙ ap (λ (at : Position). after_waking (way_of at)) (sym (position_is p (Notifier way) held s)))) g,
    )

    pub nothing : (way : NotifyingCall) (held : List (ℕ × TaskPlace F T A)) (p r : Party F T A) (x : Option (StoredAwaiter A)) → StandsWith (Notifier way) held p → may_drop way ≡ true → Notifies p r x → x ≡ None → Takes p r
    nothing way held p r None s e (misses w f g) is = took_none way held p r (row MissNotify w ∷ []) s e (paths.misses w f) g
    nothing way held p r None s e (finds_none w v f g) is = took_none way held p r (took w v) s e (paths.finds_none w v f) g
    nothing way held p r (Some a) s e (takes_awaiter w v i b f by g) is = absurd (cc)

  -- the number of the poll that a party is in, as its seat shows it
  pub is_of_poll : (p : Party F T A) (at : Position) (held : List (ℕ × TaskPlace F T A)) → StandsWith at held p → poll_of p.seat.me.0 ≡ poll_number (position p)
  is_of_poll p at held s = ap (λ (m : Me (TaskPlace F T A) View). poll_of m.0) s ∙ sym (ap poll_number (position_is p at held s))

  -- a path, and then another whose end goes by where the first one ends
  pub then_goes : (p q r : Party F T A) (a b : List Deed) (at : Position) (held held' : List (ℕ × TaskPlace F T A)) (f : Position → Position) → DidWith a at held p q → DidWith b (f (position q)) held' q r → DidWith (a ++ b) (f at) held' p r
  then_goes p q r a b at held held' f g h = did_then p q r a b at (f at) held held' g (subst (λ x. DidWith b (f x) held' q r) (position_is q at held (stands p q a at held g)) h)

  -- a path goes on by where the party stood before
  goes_from : (p q : Party F T A) (path : List Deed) (at : Position) (held held' : List (ℕ × TaskPlace F T A)) (f : Position → Position) → StandsWith at held p → DidWith path (f at) held' p q → DidWith path (f (position p)) held' p q
  goes_from p q path at held held' f s g = subst (λ x. DidWith path (f x) held' p q) (sym (position_is p at held s)) g

  goes_by : (p q : Party F T A) (path : List Deed) (at : Position) (held held' : List (ℕ × TaskPlace F T A)) (f : Position → Position) → StandsWith at held p → DidWith path (f (position p)) held' p q → DidWith path (f at) held' p q
  goes_by p q path at held held' f s g = subst (λ x. DidWith path (f x) held' p q) (position_is p at held s) g

  -- a closed task: the awaiter was taken, and the poll ends
  pub is_answering : (i : ℕ) (path : List Deed) (p q : Party F T A) → Stands (Notifier (OfPoll i)) p → DidWith path (after_waking (way_of (position p))) (places_of p) p q → Did path (Answering i IsClosed) p q
  is_answering i path p q s g = subst (λ l. DidWith path (Answering i IsClosed) l p q) (held_is p (Notifier (OfPoll i)) [] s) (goes_by p q path (Notifier (OfPoll i)) [] (places_of p) (λ x. after_waking (way_of x)) s g)

  pub ended_closed : (i : ℕ) (path : List Deed) (p q r : Party F T A) → Stands (Notifier (OfPoll i)) p → DidWith path (after_waking (way_of (position p))) (places_of p) p q → Did (act EndCall ∷ []) (ends (position q)) q r
      → Did (path ++ (act EndCall ∷ [])) (ends (position p)) p r
  ended_closed i path p q r s g h = goes_from p r (path ++ (act EndCall ∷ [])) (Notifier (OfPoll i)) [] [] ends s (then_goes p q r path (act EndCall ∷ []) (Answering i IsClosed) [] [] ends (is_answering i path p q s g) h)

  -- the output is claimed: the awaiter is taken where there is one
  pub notifies_so : (i : ℕ) (held : List (ℕ × TaskPlace F T A)) (b : Bool) (p : Party F T A) → StandsWith (notifies b (OfClaim i)) held p → b ≡ true → StandsWith (Notifier (OfClaim i)) held p
  notifies_so i held b p s e = subst (λ (b : Bool). StandsWith (notifies b (OfClaim i)) held p) e s

  pub taken_if : {B K : Type 0} (woken : B → K → Type 0) (compared : B → B → Bool → Type 0) (awaiter : B) (i : ℕ) (held : List (ℕ × TaskPlace F T A)) (b : Bool) (p q : Party F T A) → StandsWith (notifies b (OfClaim i)) held p → b ≡ true
      → Takes woken compared awaiter p q → (path : List Deed) × TakePathIf woken compared awaiter b path × DidWith path (TookOutput (poll_number (position p))) (places_of p) p q
  taken_if woken compared awaiter i held b p q s e t = let s' = notifies_so i held b p s e in (
    t.0,
    subst (λ (b : Bool). TakePathIf woken compared awaiter b t.0) (sym e) t.1,
    goes_from p q t.0 (Notifier (OfClaim i)) held (places_of p) (λ x. TookOutput (poll_number x)) s' (goes_by p q t.0 (Notifier (OfClaim i)) held (places_of p) (λ x. after_waking (way_of x)) s' t.2),
  )

  pub none_taken : {B K : Type 0} (woken : B → K → Type 0) (compared : B → B → Bool → Type 0) (awaiter : B) (i : ℕ) (held : List (ℕ × TaskPlace F T A)) (b : Bool) (p : Party F T A) → StandsWith (notifies b (OfClaim i)) held p → b ≡ false
      → (path : List Deed) × TakePathIf woken compared awaiter b path × DidWith path (TookOutput (poll_number (position p))) (places_of p) p p
  none_taken woken compared awaiter i held b p s e = let s' = subst (λ (b : Bool). StandsWith (notifies b (OfClaim i)) held p) e s in let path : List Deed = [] in (
    path,
    subst (λ (b : Bool). TakePathIf woken compared awaiter b path) (sym e) (let x : path ≡ [] = refl in x),
    goes_from p p path (TookOutput i) held (places_of p) (λ x. TookOutput (poll_number x)) s' (subst (λ l. DidWith path (TookOutput i) l p p) (sym (held_is p (TookOutput i) held s')) (record { cell = refl; is = s' })),
  )

  -- the output is handed out, after these deeds
  pub handed_out : (taken : List Deed) (p q r : Party F T A) → DidWith taken (TookOutput (poll_number (position p))) (places_of p) p q → Did (act HandOutOutput ∷ act EndCall ∷ []) (ends (position q)) q r
      → Did (taken ++ (act HandOutOutput ∷ act EndCall ∷ [])) (ends (position p)) p r
  handed_out taken p q r g o = then_goes p q r taken (act HandOutOutput ∷ act EndCall ∷ []) (TookOutput (poll_number (position p))) (places_of p) [] ends g o

  -- a look that has claimed the output stands to take the awaiter
  pub has_claimed : {values : Values F T} (w : State) (path : List Deed) (p q : Party F T A) → ClaimsOutput values w path p q → (i : ℕ) × (z : Slot F T) × StandsWith (notifies w.awaiter (OfClaim i)) (work_first z []) q × IsOutput values z
  has_claimed w path p q c = let n : ℕ = poll_number (position p) in (n, c.output, stands p q path (notifies w.awaiter (OfClaim n)) (work_first c.output []) c.did, c.is_output)

  -- a look that has claimed the output goes on to the end of its poll
  pub claimed_out : {values : Values F T} (w : State) (path rest : List Deed) (p q r : Party F T A) → ClaimsOutput values w path p q → Did rest (ends (position q)) q r → Did (path ++ rest) (ends (position p)) p r
  claimed_out w path rest p q r c o = let n : ℕ = poll_number (position p) in
      subst (λ k. Did (path ++ rest) (as_task k) p r) (claimed_number w.awaiter n) (then_goes p q r path rest (notifies w.awaiter (OfClaim n)) (work_first c.output []) [] ends c.did o)
