-- What the steps of a lent waker, and of a waker's drop, come to for the party that made them.
use Rattle.task_steps.specs.Values.{Values}
use Rattle.task_cell.proofs.Vocabulary.{◌≡◌, ℕ, Bool, true, false, List, [], ◌∷◌, Option, Some, None, IfSome, is_some, refl, sym, ap, ◌∙◌, subst, nat_lt, if◌then◌else◌, Me, State, is_open}
use Rattle.task_cell.proofs.Vocabulary.{Slots, is_held, Nothing, Waker, Lent, Ended, ThenEnds, Position, At, Deliverer, Emptier, OrphanHolder, Act, GainReference, FindLimit}
use Rattle.task_cell.proofs.Vocabulary.{DropWaker, DropLastWaker, OrphanTask, CloseOrphan, WakeOver, WakeScheduled, WakeRunning, WakeIdle, EndCall, Deed, Member, View, Party, Shared}
use Rattle.task_cell.proofs.Vocabulary.{Last, member, view, fresh, head_of, acted, Carried, Makes, deeds, limit_of, IsNew, Sees, Stands, Did, row, act, after, as_waker, as_deliverer, MayTry, HasChanged}
use Rattle.task_cell.proofs.Vocabulary.{HasEnded, others_left, at_limit, to_gain, to_wake, observed, state_of, step}
use Rattle.task_core.specs.Word.{HasRoom}
use Rattle.task_steps.specs.WakerScripts.{dropping_as, is_over, waking_task, brings_runnable}
use Rattle.task_steps.specs.declared.found.Woken.{Woken}
use Rattle.task_steps.specs.declared.found.Woken.TheVariants.{Scheduled, Running, Idle}
use Rattle.task_cell.proofs.Vocabulary.{dropping_waker, closing_orphan, is_gained, finds_limit, is_scheduled, is_running, Gains, gains_none, gains_one, WakesTask}
use Rattle.task_cell.proofs.Vocabulary.{makes_none, makes_one, DropsWaker, dropped_by, gains, not_true, TaskPlace, awaiter_first}
use Rattle.task_core.specs.Rows.{found}
use Rattle.task_steps.proofs.WakerOwed.{scheduled_fits}
use Rattle.task_steps.proofs.Seen.{right_true}
use Rattle.task_steps.specs.declared.found.Dropped.TheVariants.{Orphaned}
use Rattle.task_steps.specs.Beside.{without_newest, newest}
use Rattle.task_cell.specs.WakerPaths.{is_idle, GainPath, TaskWakePath}
use Rattle.task_steps.specs.Seats.{is_spent}
use Rattle.counted_block.specs.Blocks.{BlockId}
use Rattle.task_cell.specs.Calls.{second}
use Rattle.task_steps.specs.Standing.{as_waker}
use Rattle.task_cell.specs.WakerPaths as paths
use mathlib.Core.Option as maybe
use Rattle.task_steps.specs.Shares.{MayBring}
use Rattle.task_steps.proofs.Handles.{gains_handle, wakes_task}
use Rattle.task_cell.proofs.Attempts.{ended, may_bring_at, seeing_first, seeing_next, set_or_clear}
use Rattle.task_steps.specs.Attempts.{Decides, HasMissed, looks_of}
use Rattle.std.proofs.Common.{arith, not, ◌&&◌, ◌||◌}
use Rattle.task_steps.proofs.WakerOwed as owed
use Rattle.task_cell.proofs.Carried.{keeps_places}
use Rattle.task_cell.proofs.Moved.{moved, did, stands}

-- a word with a handle is one on which the wake is made, or which ends it
pub wake_decides : (limit : ℕ) → Decides limit to_wake
wake_decides limit w held = ap (λ b. (b && is_open w) || not (is_open w)) held ∙ set_or_clear (is_open w)

-- a word with a handle is one on which a reference is gained, or which is at the limit
pub gain_decides : (limit : ℕ) → Decides limit to_gain
gain_decides limit w held = ap (λ b. (b && nat_lt w.references limit) || not (nat_lt w.references limit)) held ∙ set_or_clear (nat_lt w.references limit)

module _ {F T A : Type 0} where
  -- the seat of a lent waker after acts by which it comes back, with what they added
  abbrev Beside : List Deed → List Member → Party F T A → Party F T A → Type 0
  Beside path more p q = q.seat.me ≡ (view (limit_of p) (member (At Lent) (after path (deeds p)) ∷ more), [])

  back : {values : Values F T} (w : State) (acts : List Act) (path : List Deed) (more : List Member) (p q : Party F T A) → Stands (At Lent) p → ((slots : Slots) (l : ℕ) (ds : List Deed) → acted w slots acts (view l (member (At Lent) ds ∷ [])) ≡ view l (member (At Lent) (after path ds) ∷ more))
      → Makes values acts w p.seat.me q.seat.me → Beside path more p q
  back {values = values} w acts path more p q s lead m = let x = moved acts w (At Lent) [] p q s m in let viewed = x.viewed ∙ lead x.slots (limit_of p) (deeds p) in
      let carried = subst (λ (at : Position). Carried values (At Lent) at [] q.seat.me.1) (ap (λ (v : View). (head_of v.members).at) (lead x.slots (limit_of p) (deeds p))) x.carried in
      (λ i. (viewed i, keeps_places values (At Lent) (At Lent) [] q.seat.me.1 refl refl carried i))

  -- a party that has done nothing, alone on its seat
  pub fresh_stands : (at : Position) (l : ℕ) (p : Party F T A) → p.seat.me ≡ (view l (fresh at ∷ []), []) → Stands at p
  fresh_stands at l p is = is ∙ ap (λ (z : ℕ × List Deed). (view z.0 (member at z.1 ∷ []), []))
      (λ i. (sym (ap (λ (x : Me (TaskPlace F T A) View). x.0.limit) is) i, sym (ap (λ (x : Me (TaskPlace F T A) View). (head_of x.0.members).deeds) is) i))

  -- a party of this cell that was lent for a call, and has made none
  pub lent_stands : (block : BlockId) (limit : ℕ) (p : Party F T A) → (p.seat.block ≡ block) × (p.seat.me ≡ (view limit (fresh (At Lent) ∷ []), [])) → Stands (At Lent) p
  lent_stands block limit p m = fresh_stands (At Lent) limit p m.1

  -- the party of a call by reference may be let go after the call
  abbrev MayGo : Party F T A → Type 0
  MayGo q = Stands (At Lent) q × (is_spent q.seat.me.0 ≡ true)

  is_spent_after : (first last : Deed) (p q : Party F T A) → Did (first ∷ last ∷ []) (At Lent) p q → MayGo q
  is_spent_after first last p q g = (stands p q (first ∷ last ∷ []) (At Lent) [] g, ap (λ (x : Me (TaskPlace F T A) View). is_spent x.0) g.is)

  spent_by_row : (woken : Bool) (path : List Deed) (p q : Party F T A) → TaskWakePath woken path → Did path (At Lent) p q → MayGo q
  spent_by_row _ _ p q (paths.is_over w f) g = is_spent_after (row WakeOver w) (act EndCall) p q g
  spent_by_row _ _ p q (is_scheduled w f) g = is_spent_after (row WakeScheduled w) (act EndCall) p q g
  spent_by_row _ _ p q (is_running w f) g = is_spent_after (row WakeRunning w) (act EndCall) p q g
  spent_by_row _ _ p q (is_idle w f) g = is_spent_after (row WakeIdle w) (act EndCall) p q g

  pub spent_by_wake : (p q : Party F T A) (made : Option (Party F T A)) → WakesTask p q made → MayGo q
  spent_by_wake p q None (makes_none path w g) = spent_by_row false path p q w g
  spent_by_wake p q (Some d) (makes_one path x w g n) = spent_by_row true path p q w g

  spent_by_count : (limit : ℕ) (gained : Bool) (path : List Deed) (p q : Party F T A) → GainPath limit gained path → Did path (At Lent) p q → MayGo q
  spent_by_count limit _ _ p q (is_gained w room) g = is_spent_after (row GainReference w) (act EndCall) p q g
  spent_by_count limit _ _ p q (finds_limit w room) g = is_spent_after (row FindLimit w) (act EndCall) p q g

  pub spent_by_gain : (limit : ℕ) (p q : Party F T A) (made : Option (Party F T A)) → Gains limit p q made → MayGo q
  spent_by_gain limit p q None (gains_none path w g) = spent_by_count limit false path p q w g
  spent_by_gain limit p q (Some d) (gains_one path y w g n) = spent_by_count limit true path p q w g

  -- the deliverer that a wake makes
  pub wake_gives : {X : Type 0} (limit : ℕ) (block : BlockId) (p q : Party F T A) (made : X × Party F T A) → p.seat.block ≡ block → limit_of p ≡ limit → WakesTask p q (second (Some made)) → (made.1.seat.block ≡ block) × (limit_of made.1 ≡ limit) × Stands as_deliverer made.1
  wake_gives limit block p q d cell is (makes_one path x w g n) = (n.cell ∙ cell, ap (λ (m : Me (TaskPlace F T A) View). m.0.limit) n.is ∙ is, fresh_stands as_deliverer (limit_of p) d.1 n.is)

  -- a party of this cell that was lent for a call has done this in it, and nothing else
  abbrev Made : BlockId → ℕ → List Deed → Party F T A → Type 0
  Made block limit path p = (p.seat.block ≡ block) × (p.seat.me ≡ (view limit (member (At Lent) (after path []) ∷ []), []))

  did_from_none : (block : BlockId) (limit : ℕ) (path : List Deed) (p q r : Party F T A) → Made block limit [] p → r ≡ q → Did path (At Lent) p q → Made block limit path r
  did_from_none block limit path p q r m e g = subst (Made block limit path) (sym e)
      (g.cell ∙ m.0, g.is ∙ ap (λ (x : Me (TaskPlace F T A) View). (view x.0.limit (member (At Lent) (after path (head_of x.0.members).deeds) ∷ []), [])) m.1)

  -- what the record of a call by reference says
  pub wake_made : (block : BlockId) (limit : ℕ) (p q r : Party F T A) (made : Option (Party F T A)) → Made block limit [] p → r ≡ q → WakesTask p q made → (path : List Deed) × TaskWakePath (is_some made) path × Made block limit path r
  wake_made block limit p q r None m e (makes_none path w g) = (path, w, did_from_none block limit path p q r m e g)
  wake_made block limit p q r (Some d) m e (makes_one path deliverer w g n) = (path, w, did_from_none block limit path p q r m e g)

  pub gain_made : {X : Type 0} (block : BlockId) (limit : ℕ) (p q r : Party F T A) (made : Option (X × Party F T A)) → Made block limit [] p → r ≡ q → Gains limit p q (second made)
      → (path : List Deed) × GainPath limit (is_some made) path × Made block limit path r
  gain_made block limit p q r None m e (gains_none path w g) = (path, w, did_from_none block limit path p q r m e g)
  gain_made block limit p q r (Some d) m e (gains_one path waker w g n) = (path, w, did_from_none block limit path p q r m e g)

  -- a party has the same limit when it has seen a word
  pub limit_before : (w : State) (p q : Party F T A) → Sees w p q → limit_of p ≡ limit_of q
  limit_before w p q s = sym (ap (λ (m : Me (TaskPlace F T A) View). m.0.limit) s.seen.is)

  -- what a gain by reference makes
  pub gain_gives : {X : Type 0} (limit : ℕ) (block : BlockId) (p q : Party F T A) (made : Option (X × Party F T A)) → p.seat.block ≡ block → limit_of p ≡ limit → Gains limit p q (second made)
      → IfSome made (λ d. (d.1.seat.block ≡ block) × (d.1.seat.me ≡ (view limit (fresh as_waker ∷ []), [])))
  gain_gives limit block p q None cell is (gains_none path w g) = tt
  gain_gives limit block p q (Some d) cell is (gains_one path x w g n) = (n.cell ∙ cell, n.is ∙ ap (λ l. (view l (fresh as_waker ∷ []), [])) is)

  -- the seat after the row of a gain, and what it comes to when the waker has left it
  pub beside_waker : {values : Values F T} (limit : ℕ) (r : Unit {0}) (p q : Party F T A) → Stands (At Lent) p → (c : HasChanged values limit to_gain r p.seat.me q.seat.me) → Beside (row GainReference c.word ∷ act EndCall ∷ []) (fresh (At Waker) ∷ []) p q
  beside_waker limit r p q s x = let w = x.word in back w (GainReference ∷ EndCall ∷ []) (row GainReference w ∷ act EndCall ∷ []) (fresh (At Waker) ∷ []) p q s (λ slots l ds. refl) x.made

  leaves_newest : (path : List Deed) (n : Member) (p q t : Party F T A) → Beside path (n ∷ []) p q → q.seat.block ≡ p.seat.block → t.seat.block ≡ q.seat.block → t.seat.me ≡ (without_newest q.seat.me.0, q.seat.me.1) → Did path (At Lent) p t
  leaves_newest path n p q t b cell there is = record { cell = there ∙ cell; is = is ∙ ap (λ (x : Me (TaskPlace F T A) View). (without_newest x.0, x.1)) b }

  is_newest : (path : List Deed) (at : Position) (p q x : Party F T A) → Beside path (fresh at ∷ []) p q → q.seat.block ≡ p.seat.block → x.seat.block ≡ q.seat.block → x.seat.me ≡ (newest q.seat.me.0, []) → IsNew at p x
  is_newest path at p q x b cell there is = record { cell = there ∙ cell; is = is ∙ ap (λ (y : Me (TaskPlace F T A) View). (newest y.0, [])) b }

  pub gains_waker : {values : Values F T} (limit : ℕ) (r : Unit {0}) (p q t x : Party F T A) → Stands (At Lent) p → q.seat.block ≡ p.seat.block → HasChanged values limit to_gain r p.seat.me q.seat.me → t.seat.block ≡ q.seat.block → t.seat.me ≡ (without_newest q.seat.me.0, q.seat.me.1)
      → x.seat.block ≡ q.seat.block → x.seat.me ≡ (newest q.seat.me.0, []) → Gains limit p t (Some x)
  gains_waker limit r p q t x s cell c there is there' is' = let w = c.word in let path : List Deed = row GainReference w ∷ act EndCall ∷ [] in let b = beside_waker limit r p q s c in
      gains_one path x (is_gained w (right_true (is_held w) _ c.applied)) (leaves_newest path (fresh (At Waker)) p q t b cell there is) (is_newest path (At Waker) p q x b cell there' is')

  pub gains_nothing : {values : Values F T} (limit : ℕ) (w : State) (p q : Party F T A) → Stands (At Lent) p → q.seat.block ≡ p.seat.block → HasEnded values limit to_gain w p.seat.me q.seat.me → Gains limit p q None
  gains_nothing limit w p q s cell x = let path : List Deed = row FindLimit w ∷ act EndCall ∷ [] in
      gains_none path (finds_limit w (not_true (nat_lt w.references limit) x.at_end)) (record { cell = cell; is = back w (FindLimit ∷ EndCall ∷ []) path [] p q s (λ slots l ds. refl) x.made })

  -- a wake of a task that is over
  pub wakes_over : {values : Values F T} (limit : ℕ) (w : State) (p q : Party F T A) → Stands (At Lent) p → q.seat.block ≡ p.seat.block → HasEnded values limit to_wake w p.seat.me q.seat.me → WakesTask p q None
  wakes_over limit w p q s cell x = let path : List Deed = row WakeOver w ∷ act EndCall ∷ [] in
      makes_none path (paths.is_over w x.at_end) (record { cell = cell; is = back w (WakeOver ∷ EndCall ∷ []) path [] p q s (λ slots l ds. refl) x.made })

  -- a wake of a task that is scheduled, or runs
  pub wakes_busy : {values : Values F T} (limit : ℕ) (r : Woken) (p q : Party F T A) → Stands (At Lent) p → q.seat.block ≡ p.seat.block → HasChanged values limit to_wake r p.seat.me q.seat.me → brings_runnable r ≡ false → WakesTask p q None
  wakes_busy {values = values} limit r p q s cell x busy = by (found 0 WakeIdle w) (found 0 WakeRunning w) refl refl (ap brings_runnable (sym x.is) ∙ busy) x.made
    where
      w : State
      w = x.word

      by : (a b : Bool) → found 0 WakeIdle w ≡ a → found 0 WakeRunning w ≡ b → let r : Woken = if a then Idle else (if b then Running else Scheduled) in brings_runnable r ≡ false → Makes values (waking_task r) w p.seat.me q.seat.me → WakesTask p q None
      by true b idle too none m = absurd (cc)
      by false true unfit fit none m = let path : List Deed = row WakeRunning w ∷ act EndCall ∷ [] in
          makes_none path (is_running w fit) (record { cell = cell; is = back w (WakeRunning ∷ EndCall ∷ []) path [] p q s (λ slots l ds. refl) m })
      by false false busy unfit none m = let path : List Deed = row WakeScheduled w ∷ act EndCall ∷ [] in
          makes_none path (is_scheduled w (scheduled_fits w (right_true (is_held w) (is_open w) x.applied) busy unfit)) (record { cell = cell; is = back w (WakeScheduled ∷ EndCall ∷ []) path [] p q s (λ slots l ds. refl) m })

  -- a wake of a task that was idle: the seat after the row, and what it comes to when the deliverer has left it
  pub beside_deliverer : {values : Values F T} (limit : ℕ) (r : Woken) (p q : Party F T A) → Stands (At Lent) p → (x : HasChanged values limit to_wake r p.seat.me q.seat.me) → brings_runnable r ≡ true
      → (found 0 WakeIdle x.word ≡ true) × Beside (row WakeIdle x.word ∷ act EndCall ∷ []) (fresh as_deliverer ∷ []) p q
  beside_deliverer {values = values} limit r p q s x idle = by (found 0 WakeIdle w) (found 0 WakeRunning w) refl (ap brings_runnable (sym x.is) ∙ idle) x.made
    where
      w : State
      w = x.word

      by : (a b : Bool) → found 0 WakeIdle w ≡ a → let r : Woken = if a then Idle else (if b then Running else Scheduled) in brings_runnable r ≡ true → Makes values (waking_task r) w p.seat.me q.seat.me
          → (found 0 WakeIdle w ≡ true) × Beside (row WakeIdle w ∷ act EndCall ∷ []) (fresh as_deliverer ∷ []) p q
      by true b fit some m = (fit, back w (WakeIdle ∷ EndCall ∷ []) (row WakeIdle w ∷ act EndCall ∷ []) (fresh as_deliverer ∷ []) p q s (λ slots l ds. refl) m)
      by false true unfit some m = absurd (cc)
      by false false unfit some m = absurd (cc)

  pub wakes_idle : {values : Values F T} (limit : ℕ) (r : Woken) (p q t d : Party F T A) → Stands (At Lent) p → q.seat.block ≡ p.seat.block → HasChanged values limit to_wake r p.seat.me q.seat.me → brings_runnable r ≡ true
      → t.seat.block ≡ q.seat.block → t.seat.me ≡ (without_newest q.seat.me.0, q.seat.me.1) → d.seat.block ≡ q.seat.block → d.seat.me ≡ (newest q.seat.me.0, []) → WakesTask p t (Some d)
  wakes_idle limit r p q t d s cell x idle there is there' is' = let path : List Deed = row WakeIdle x.word ∷ act EndCall ∷ [] in let b = beside_deliverer limit r p q s x idle in
      makes_one path d (is_idle x.word b.0) (leaves_newest path (fresh as_deliverer) p q t b.1 cell there is) (is_newest path as_deliverer p q d b.1 cell there' is')

  -- a party of this seat that is lent, and has not looked yet
  abbrev pub unmoved : ℕ → Party F T A → Party F T A
  unmoved limit q = record { seat = record (q.seat) { me = (view limit (fresh (At Lent) ∷ []), []) } }

  -- the party has seen the word on which it is to try a wake
  pub looks_open : {values : Values F T} (limit n : ℕ) (w : State) (q : Party F T A) → w ≡ state_of n → is_over limit w ≡ false → observed values to_wake (step 2 0 0 0 maybe.none) (unmoved limit q).seat.me n q.seat.me → Sees w (unmoved limit q) q
  looks_open limit n w q is shows e = let me = (unmoved limit q).seat.me in record {
    cell = refl;
    number = refl;
    room = subst HasRoom (sym is) e.2.room;
    seen = seeing_next n w w me me q.seat.me (seeing_first w me None tt refl) is (e.1 (ap (is_over limit) (sym is) ∙ shows));
  }

  -- the party has seen one word
  pub looks_once : {values : Values F T} (limit n : ℕ) (w : State) (q : Party F T A) → w ≡ state_of n → is_over limit w ≡ false → observed values to_wake (step 2 0 0 0 maybe.none) (unmoved limit q).seat.me n q.seat.me → HasMissed 0 q.seat.me
  looks_once limit n w q is shows e = let one = ap (λ (m : Me (TaskPlace F T A) View). looks_of (head_of m.0.members).tries) (e.1 (ap (is_over limit) (sym is) ∙ shows)) in omega (arith, one)

  -- the party has seen that the task is over, and has made the wake
  pub looks_over : {values : Values F T} (limit n : ℕ) (w : State) (q : Party F T A) → w ≡ state_of n → is_over limit w ≡ true → observed values to_wake (step 2 0 0 0 maybe.none) (unmoved limit q).seat.me n q.seat.me → WakesTask (unmoved limit q) q None
  looks_over limit n w q is over e = let me = (unmoved limit q).seat.me in
      wakes_over limit w (unmoved limit q) q refl refl (ended limit n to_wake w w me me q.seat.me (seeing_first w me None tt refl) is over (e.0 (ap (is_over limit) (sym is) ∙ over)) e.2)

  -- the row of a waker's drop
  pub drops : {values : Values F T} (w : State) (p q : Party F T A) → Stands as_waker p → q.seat.block ≡ p.seat.block → Makes values (dropping_waker w) w p.seat.me q.seat.me → DropsWaker p q (dropped_by w)
  drops {values = values} w p q s cell m = made (others_left w) (is_open w) refl refl m
    where
      made : (b o : Bool) → others_left w ≡ b → is_open w ≡ o → Makes values (dropping_as (if b then Shared else (if o then Orphaned else Last))) w p.seat.me q.seat.me
          → DropsWaker p q (if b then Shared else (if o then Orphaned else Last))
      made true o shared now m = let x = moved (DropWaker ∷ EndCall ∷ []) w (At Waker) [] p q s m in
          (w, shared, did p q (row DropWaker w ∷ act EndCall ∷ []) (At Ended) [] cell x.viewed x.carried)
      made false true shared now m = let x = moved (OrphanTask ∷ []) w (At Waker) [] p q s m in
          (w, shared, now, did p q (row OrphanTask w ∷ []) OrphanHolder [] cell x.viewed x.carried)
      made false false shared now m = let x = moved (DropLastWaker ∷ []) w (At Waker) [] p q s m in let y = x.carried in
          (w, y.0, shared, now, did p q (row DropLastWaker w ∷ []) (Emptier None Nothing) (awaiter_first y.0 []) cell x.viewed y.2)

  -- the last waker has closed the task
  pub closes_orphan : {values : Values F T} (w : State) (p q : Party F T A) → Stands OrphanHolder p → q.seat.block ≡ p.seat.block → Makes values (closing_orphan w) w p.seat.me q.seat.me → (v : State) × Did (row CloseOrphan v ∷ []) (Deliverer false (ThenEnds Nothing)) p q
  closes_orphan w p q s cell m = let x = moved (CloseOrphan ∷ []) w OrphanHolder [] p q s m in (w, did p q (row CloseOrphan w ∷ []) (Deliverer false (ThenEnds Nothing)) [] cell x.viewed x.carried)

module _ (F T A : Type 0) (values : Values F T) (limit : ℕ) where
  -- the rule allows a lent waker to gain a reference, and to wake
  pub may_gain : (p : Party F T A) → Stands (At Lent) p → limit_of p ≡ limit → MayTry values limit 2 p.seat.id p.seat.me to_gain × MayBring values limit p.seat.id p.seat.me to_gain
  may_gain p s is = may_bring_at limit p (At Lent) [] s to_gain (λ w. ap (λ l. at_limit l w) is) (owed.gains F T A values limit Lent (deeds p) [] [] refl) (gains_handle limit Lent (deeds p) [] F T A values) (owed.finds_limit F T A values limit Lent (deeds p) [] [] refl)

  pub may_wake : (p : Party F T A) → Stands (At Lent) p → MayTry values limit 2 p.seat.id p.seat.me to_wake × MayBring values limit p.seat.id p.seat.me to_wake
  may_wake p s = may_bring_at limit p (At Lent) [] s to_wake (λ w. refl) (owed.wakes F T A values limit Lent (deeds p) [] [] refl) (wakes_task limit Lent (deeds p) [] F T A values) (owed.finds_over F T A values limit Lent (deeds p) [] [] refl)
