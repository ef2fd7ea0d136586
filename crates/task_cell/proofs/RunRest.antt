-- What the calls of a run and of a Runnable's drop come to, step after step.
use Rattle.task_steps.specs.Values.{Values}
use Rattle.task_steps.specs.declared.kept.StoredAwaiter.{StoredAwaiter}
use Rattle.task_cell.proofs.Vocabulary.{◌≡◌, ℕ, Bool, true, false, List, [], ◌∷◌, ◌++◌, Option, Some, None, refl, sym, ap, ◌∙◌, subst, State, Rest, Ended, NotifyingCall, OfRun, OfDrop, OfCancel}
use Rattle.task_cell.proofs.Vocabulary.{DroppedRunnable, Position, At, CallEnding, Notifier, GivingUp, AwaiterInHand, FutureGone, EndCall, WakeAwaiter, DropFuture, Unschedule, Answer, Ran, Nothing}
use Rattle.task_cell.proofs.Vocabulary.{after_taking, after_waking, notifies, Slot, Empty, Deed, Party, IsFuture, position, places_of, StandsWith, Stands, DidWith, Did, Notifies, misses}
use Rattle.task_cell.proofs.Vocabulary.{finds_none, takes_awaiter, row, act, closing_way, way_of, rest_of, none_there, taken, nobody, woken, rests, DiscardStart, closed_run, Releases, TakesDue}
use Rattle.task_cell.proofs.Vocabulary.{takes_none, takes_one, HasTaken, has_none, has_one, Wakes, Rests, Closes, Discards, is_some, after_giving_up, NotifyPath, TaskPlace, work_first}
use Rattle.task_laws.specs.declared.positions.WithoutPoll.{WithoutPoll}
use Rattle.task_cell.specs.RunPaths.{missed, discards}
use Rattle.task_cell.proofs.Moved as moved

module _ {F T A : Type 0} where
  pub at_way : (way : NotifyingCall) (hand : Option ℕ) (path : List Deed) (p q : Party F T A) → Stands (Notifier way) p → DidWith path (after_taking hand (way_of (position p))) (places_of p) p q → Did path (after_taking hand way) p q
  at_way way hand path p q s g = subst (λ (z : NotifyingCall × List (ℕ × TaskPlace F T A)). DidWith path (after_taking hand z.0) z.1 p q)
      (λ i. (ap way_of (moved.position_is p (Notifier way) [] s) i, moved.held_is p (Notifier way) [] s i)) g

  pub took_due : (way : NotifyingCall) (p q : Party F T A) (r : Option (StoredAwaiter A)) → Stands (Notifier way) p → Notifies p q r
      → TakesDue way true p q r
  took_due way p q r s (misses w f g) = takes_none _ (missed w f) (at_way way None _ p q s g)
  took_due way p q r s (finds_none w v f g) = takes_none _ (none_there w v f) (at_way way None _ p q s g)
  took_due way p q r s (takes_awaiter w v i a f by g) = takes_one i a _ by (taken w v f) (at_way way (Some i) _ p q s g)

  -- the path of what was taken, and whether an awaiter is in hand after it
  pub due_path : (way : NotifyingCall) (due : Bool) (p q : Party F T A) (r : Option (StoredAwaiter A)) → TakesDue way due p q r
      → (hand : Option ℕ) × (path : List Deed) × NotifyPath due (is_some r) path × Did path (after_taking hand way) p q
  due_path way due p q r (takes_none path n g) = (None, path, n, g)
  due_path way due p q r (takes_one i a path by n g) = (Some i, path, n, g)

  pub due_cell : (way : NotifyingCall) (due : Bool) (p q : Party F T A) (r : Option (StoredAwaiter A)) → TakesDue way due p q r → q.seat.block ≡ p.seat.block
  due_cell way due p q r d = (due_path way due p q r d).3.cell

  -- an awaiter in hand was woken, by what the party has
  pub wakes_has : (Woken : Type 0) (way : NotifyingCall) (a : StoredAwaiter A) (r : Option (StoredAwaiter A)) (p q : Party F T A) → HasTaken way p r → r ≡ Some a → Woken
      → DidWith (act WakeAwaiter ∷ []) (after_waking (way_of (position p))) (places_of p) p q → Wakes Woken way r p q
  wakes_has Woken way a r p q (has_none s) e fact g = absurd (cc)
  wakes_has Woken way a r p q (has_one i b by s) e fact g = (
    act WakeAwaiter ∷ [],
    woken fact,
    subst (λ (z : NotifyingCall × List (ℕ × TaskPlace F T A)). DidWith (act WakeAwaiter ∷ []) (after_waking z.0) z.1 p q)
        (λ j. (ap way_of (moved.position_is p (AwaiterInHand i way) [] s) j, moved.held_is p (AwaiterInHand i way) [] s j)) g,
  )

  pub wakes_none : (Woken : Type 0) (way : NotifyingCall) (r : Option (StoredAwaiter A)) (p : Party F T A) → HasTaken way p r → r ≡ None
      → Wakes Woken way r p p
  wakes_none Woken way r p (has_none s) e = ([], nobody, record { cell = refl; is = s })
  wakes_none Woken way r p (has_one i b by s) e = absurd (cc)

  pub has_hand : (way : NotifyingCall) (a : StoredAwaiter A) (r : Option (StoredAwaiter A)) (p : Party F T A) → HasTaken way p r → r ≡ Some a → (i : ℕ) × Stands (AwaiterInHand i way) p
  has_hand way a r p (has_none s) e = absurd (cc)
  has_hand way a r p (has_one i b by s) e = (i, s)

  pub ended_call : (answer : Answer) (r : Rest) (p q : Party F T A) → Stands (CallEnding answer r) p → Did (act EndCall ∷ []) (rest_of (position p)) p q → Did (act EndCall ∷ []) (At r) p q
  ended_call answer r p q s g = subst (λ (at : Position). Did (act EndCall ∷ []) at p q) (ap rest_of (moved.position_is p (CallEnding answer r) [] s)) g

  -- in a run, what was taken is woken after the reference was given up
  pub run_gives_up : (due : Bool) (p q : Party F T A) (r : Option (StoredAwaiter A)) → TakesDue OfRun due p q r → (hand : Option ℕ) × Stands (GivingUp hand (Ran false)) q
  run_gives_up due p q r d = let n = due_path OfRun due p q r d in (n.0, moved.stands p q n.1 (GivingUp n.0 (Ran false)) [] n.3)

  abbrev pub Released : Party F T A → Party F T A → Type 0
  Released q r = (hand : Option ℕ) (answer : Answer) → Stands (GivingUp hand answer) q → Releases hand answer q r

  pub run_has : (due : Bool) (p q q' : Party F T A) (r : Option (StoredAwaiter A)) → TakesDue OfRun due p q r → Released q q' → HasTaken OfRun q' r
  run_has due p q q' r (takes_none path n g) rel = let x = rel None (Ran false) (moved.stands p q path (GivingUp None (Ran false)) [] g) in has_none (moved.stands q q' x.0 (CallEnding (Ran false) Ended) [] x.2)
  run_has due p q q' r (takes_one i a path by n g) rel = let x = rel (Some i) (Ran false) (moved.stands p q path (GivingUp (Some i) (Ran false)) [] g) in has_one i a by (moved.stands q q' x.0 (AwaiterInHand i OfRun) [] x.2)

  pub rested : (Woken : Type 0) (due : Bool) (p q q' s t : Party F T A) (r : Option (StoredAwaiter A)) → TakesDue OfRun due p q r → Released q q' → ((way : NotifyingCall) → HasTaken way q' r → Wakes Woken way r q' s)
      → (Stands (CallEnding (Ran false) Ended) s → Did (act EndCall ∷ []) (At Ended) s t) → Rests Woken due p t
  rested Woken due p q q' s t r d rel wake ends = let n = due_path OfRun due p q r d in let x = rel n.0 (Ran false) (moved.stands p q n.1 (GivingUp n.0 (Ran false)) [] n.3) in
      let k = wake OfRun (run_has due p q q' r d rel) in let z = ends (moved.stands q' s k.0 (CallEnding (Ran false) Ended) [] k.2) in (
        n.1 ++ (x.0 ++ (k.0 ++ act EndCall ∷ [])),
        rests due (is_some r) n.1 x.0 k.0 n.2 x.1 k.1,
        moved.did_then p q t n.1 (x.0 ++ (k.0 ++ act EndCall ∷ [])) (GivingUp n.0 (Ran false)) (At Ended) [] [] n.3
            (moved.did_then q q' t x.0 (k.0 ++ act EndCall ∷ []) (after_giving_up n.0 (Ran false)) (At Ended) [] [] x.2 (moved.did_then q' s t k.0 (act EndCall ∷ []) (CallEnding (Ran false) Ended) (At Ended) [] [] k.2 z)),
      )

  -- where the awaiter is in hand as soon as it was taken
  pub has_next : (way : NotifyingCall) (due : Bool) (p q : Party F T A) (r : Option (StoredAwaiter A)) → after_taking None way ≡ after_waking way → ((i : ℕ) → after_taking (Some i) way ≡ AwaiterInHand i way) → TakesDue way due p q r → HasTaken way q r
  has_next way due p q r none one (takes_none path n g) = has_none (subst (λ at. Stands at q) none (moved.stands p q path (after_taking None way) [] g))
  has_next way due p q r none one (takes_one i a path by n g) = has_one i a by (subst (λ at. Stands at q) (one i) (moved.stands p q path (after_taking (Some i) way) [] g))

  pub cancel_has : (n : ℕ) (due : Bool) (p q : Party F T A) (r : Option (StoredAwaiter A)) → TakesDue (OfCancel n) due p q r → HasTaken (OfCancel n) q r
  cancel_has n due p q r d = has_next (OfCancel n) due p q r refl (λ i. refl) d

  discard_rest : (Woken : Type 0) (d : Deed) (w : State) (p o q s t u : Party F T A) (r : Option (StoredAwaiter A)) → DiscardStart d → Did (d ∷ act DropFuture ∷ row Unschedule w ∷ []) (notifies w.awaiter OfDrop) p o → TakesDue OfDrop w.awaiter o q r
      → Wakes Woken OfDrop r q s → Releases None Nothing s t → Did (act EndCall ∷ []) (At Ended) t u → Discards Woken p u
  discard_rest Woken d w p o q s t u r start f took k x z = let n = due_path OfDrop w.awaiter o q r took in (
    d ∷ act DropFuture ∷ row Unschedule w ∷ (n.1 ++ (k.0 ++ (x.0 ++ act EndCall ∷ []))),
    discards d w (is_some r) n.1 k.0 x.0 start n.2 k.1 x.1,
    moved.did_then p o u (d ∷ act DropFuture ∷ row Unschedule w ∷ []) (n.1 ++ (k.0 ++ (x.0 ++ act EndCall ∷ []))) (notifies w.awaiter OfDrop) (At Ended) [] [] f
        (moved.did_then o q u n.1 (k.0 ++ (x.0 ++ act EndCall ∷ [])) (after_taking n.0 OfDrop) (At Ended) [] [] n.3
        (moved.did_then q s u k.0 (x.0 ++ act EndCall ∷ []) (GivingUp None Nothing) (At Ended) [] [] k.2 (moved.did_then s t u x.0 (act EndCall ∷ []) (CallEnding Nothing Ended) (At Ended) [] [] x.2 z))),
  )

  -- the future was taken out to be dropped, and SCHEDULED cleared
  pub unscheduled : (closer : WithoutPoll) (w : State) (held : List (ℕ × TaskPlace F T A)) (p q r : Party F T A) → DidWith [] (FutureGone closer) held p q
      → Did (row Unschedule w ∷ []) (notifies w.awaiter (closing_way (position q))) q r → Did (row Unschedule w ∷ []) (notifies w.awaiter (closing_way (FutureGone closer))) p r
  unscheduled closer w held p q r g h = let way = closing_way (FutureGone closer) in moved.did_then p q r [] (row Unschedule w ∷ []) (FutureGone closer) (notifies w.awaiter way) held [] g
      (subst (λ (z : NotifyingCall). Did (row Unschedule w ∷ []) (notifies w.awaiter z) q r)
      (ap closing_way (moved.position_is q (FutureGone closer) held (moved.stands p q [] (FutureGone closer) held g))) h)

  -- a Runnable's drop from p, step after step: to a with the future taken over, to b with it taken out, to o with SCHEDULED cleared
  module _ (values : Values F T) (p a b : Party F T A) (start : (d : Deed) × (y : Slot F T) × DiscardStart d × DidWith (d ∷ act DropFuture ∷ []) (FutureGone DroppedRunnable) (work_first y []) p a × IsFuture values y)
      (take : (at : Position) (y : Slot F T) (held : List (ℕ × TaskPlace F T A)) → StandsWith at (work_first y held) a → DidWith [] at (work_first Empty held) a b) where
    pub drop_clears : DidWith [] (FutureGone DroppedRunnable) (work_first Empty []) a b
    drop_clears = take (FutureGone DroppedRunnable) start.1 [] (moved.stands p a (start.0 ∷ act DropFuture ∷ []) (FutureGone DroppedRunnable) (work_first start.1 []) start.3)

    module _ (o : Party F T A) (w : State) (unschedule : Did (row Unschedule w ∷ []) (notifies w.awaiter (closing_way (position b))) b o) (due : Bool) (is : due ≡ w.awaiter) where
      pub drop_closes : Did (start.0 ∷ act DropFuture ∷ row Unschedule w ∷ []) (notifies w.awaiter OfDrop) p o
      drop_closes = moved.did_then p a o (start.0 ∷ act DropFuture ∷ []) (row Unschedule w ∷ []) (FutureGone DroppedRunnable) (notifies w.awaiter OfDrop) (work_first start.1 []) [] start.3
          (unscheduled DroppedRunnable w (work_first Empty []) a b o drop_clears unschedule)

      pub drop_notifies : Stands (notifies due OfDrop) o
      drop_notifies = subst (λ h. Stands (notifies h OfDrop) o) (sym is) (moved.stands p o (start.0 ∷ act DropFuture ∷ row Unschedule w ∷ []) (notifies w.awaiter OfDrop) [] drop_closes)

      -- to q by the awaiter that was taken
      module _ (q : Party F T A) (r : Option (StoredAwaiter A)) (notice : (way : NotifyingCall) → Stands (notifies due way) o → TakesDue way due o q r) where
        pub drop_takes : TakesDue OfDrop w.awaiter o q r
        drop_takes = subst (λ h. TakesDue OfDrop h o q r) is (notice OfDrop drop_notifies)

        pub drop_takes_cell : q.seat.block ≡ p.seat.block
        drop_takes_cell = due_cell OfDrop w.awaiter o q r drop_takes ∙ drop_closes.cell

        pub drop_has : HasTaken OfDrop q r
        drop_has = has_next OfDrop w.awaiter o q r refl (λ i. refl) drop_takes

        -- to s by the wake of that awaiter
        module _ (Woken : Type 0) (s : Party F T A) (wake : (way : NotifyingCall) → HasTaken way q r → Wakes Woken way r q s) where
          pub drop_wakes : Wakes Woken OfDrop r q s
          drop_wakes = wake OfDrop drop_has

          pub drop_gives_up : Stands (GivingUp None Nothing) s
          drop_gives_up = moved.stands q s drop_wakes.0 (GivingUp None Nothing) [] drop_wakes.2

          -- to t by the reference given up
          module _ (t : Party F T A) (release : Released s t) where
            pub drop_releases : Releases None Nothing s t
            drop_releases = release None Nothing drop_gives_up

            pub drop_leaves : Stands (CallEnding Nothing Ended) t
            drop_leaves = moved.stands s t drop_releases.0 (CallEnding Nothing Ended) [] drop_releases.2

            pub drop_ends : (u : Party F T A) → Did (act EndCall ∷ []) (rest_of (position t)) t u → Discards Woken p u
            drop_ends u e = discard_rest Woken start.0 w p o q s t u r start.2 drop_closes drop_takes drop_wakes drop_releases (ended_call Nothing Ended t u drop_leaves e)

  pub close_rest : (Woken : Type 0) (w : State) (p q r : Party F T A) → Did (row Unschedule w ∷ []) (notifies w.awaiter OfRun) p q → Rests Woken w.awaiter q r → Closes Woken p r
  close_rest Woken w p q r g x = (row Unschedule w ∷ x.0, closed_run w x.0 x.1, moved.did_then p q r (row Unschedule w ∷ []) x.0 (notifies w.awaiter OfRun) (At Ended) [] [] g x.2)
