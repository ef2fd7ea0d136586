-- The induction over a whole run.
use Rattle.std.proofs.Common.{◌≡◌, ℕ, ◌+◌, ◌≤◌, Bool, true, false, not, ◌&&◌, ◌||◌, ◌⊎◌, cond, List, [], ◌∷◌, ◌++◌, Option, Some, None, refl, sym, ap, ◌∙◌, subst, append_assoc, arith}
use Rattle.std.specs.Prelude.{slice_get, slice_set, nat_lt, nat_eq}
use Rattle.std.proofs.lemmas.Bool.Decides.{nat_tests}
use Rattle.task_laws.proofs.Vocabulary.{State, bit, Event, Nothing, CallEnds, is_event, Rest, Ended, Position, At, CallEnding, Deliverer, ThenEnds, AwaiterInHand, OfPoll, Act, WakeIdle, EndCall, Slots, Outcome, rule, Machine, scene, begins, after, moves, is_done, AbstractCell, Frame}
use Rattle.task_laws.proofs.Vocabulary.{SegmentEnd, Abstract, Move, Begin, Go, begin, go, follow, then_moved, all_moved, one_if, is_home, awaiter_of, opened, is_deliverer, innermost, move_of, call_of, says_yes, frames, frame_at, seen, is_at_rest, is_foreign, asks_foreign, how_often}
use Rattle.task_laws.proofs.Vocabulary.{count}
use Rattle.task_laws.proofs.Census.{Census, weigh, census, plus}
use Rattle.task_laws.proofs.Awaiting.{Awaiting, await, awaiting, fits}
use Rattle.task_laws.proofs.Handshake.{HandshakeHolds}
use Rattle.task_laws.proofs.Invariant.{Holds}
use Rattle.task_laws.proofs.Runs.{Invariant, Stays, others, split, put_born, split_awaiting, moves_stays}
use Rattle.task_laws.proofs.Ahead.{Same, before, ahead, prepend, lands, Landed, cell_at, phase_at, holders, queues, landed}
use Rattle.task_laws.proofs.Calm.{Calm, Counted, Placed, placed, kept_calm, StaysCalm, stands, goes_one_way, registers, is_registered, takes_slot, has_emptied, is_storing, is_notifier, drops_old, is_refused, has_seen, drops_output, has_stored}
use Rattle.task_laws.proofs.CallRows.{tracked}
use Rattle.task_laws.proofs.Cuts.{goes_on_from, get_put, get_other, get_append, carried}

-- the open calls: each where it may stand, and each another party's
abbrev pub IsAnother : ℕ → List ℕ → Type 0
IsAnother i [] = Unit {0}
IsAnother i (j ∷ stack) = (nat_eq i j ≡ false) × IsAnother i stack

abbrev pub OpenCallsStand : Bool → List Position → List ℕ → Type 0
OpenCallsStand done ps [] = Unit {0}
OpenCallsStand done ps (j ∷ stack) = (stands done (slice_get ps j) ≡ true) × IsAnother j stack × OpenCallsStand done ps stack

pub stands_somewhere : (done : Bool) (o : Option Position) → stands done o ≡ true → (x : Position) × (o ≡ Some x)
stands_somewhere done None e = cc
stands_somewhere done (Some x) e = (x, refl)

other_stays : (ps born : List Position) (i j : ℕ) (q : Position) (done : Bool) → nat_eq i j ≡ false → stands done (slice_get ps j) ≡ true → slice_get (slice_set ps i q ++ born) j ≡ slice_get ps j
other_stays ps born i j q done n e = let x = stands_somewhere done (slice_get ps j) e in get_append (slice_set ps i q) born j x.0 (get_other ps i j q n ∙ x.1) ∙ sym x.1

stands_later : (a b : Bool) (o : Option Position) → (a ≡ true → b ≡ true) → stands a o ≡ true → stands b o ≡ true
stands_later a b o k e = grind arith

pub open_calls_stand : (a b : Bool) (ps born : List Position) (i : ℕ) (q : Position) (stack : List ℕ) → (a ≡ true → b ≡ true) → IsAnother i stack → OpenCallsStand a ps stack → OpenCallsStand b (slice_set ps i q ++ born) stack
open_calls_stand a b ps born i q [] k f g = tt
open_calls_stand a b ps born i q (j ∷ stack) k f g =
    (rw (other_stays ps born i j q a f.0 g.0) (stands_later a b (slice_get ps j) k g.0), g.1, open_calls_stand a b ps born i q stack k f.1 g.2)

pub frames_stay : (a : Bool) (ps born : List Position) (i : ℕ) (q : Position) (stack : List ℕ) → IsAnother i stack → OpenCallsStand a ps stack → frames (slice_set ps i q ++ born) stack ≡ frames ps stack
frames_stay a ps born i q [] f g = refl
frames_stay a ps born i q (j ∷ stack) f g =
    ap (λ (o : Option Position). frame_at o ∷ frames (slice_set ps i q ++ born) stack) (other_stays ps born i j q a f.0 g.0)
    ∙ ap (λ (fs : List Frame). frame_at (slice_get ps j) ∷ fs) (frames_stay a ps born i q stack f.1 g.2)

pub same_number : (x y : ℕ) → nat_eq x y ≡ true → x ≡ y
same_number x y e = grind (arith, nat_tests)

-- a party at rest has no call that is open
apart : (done : Bool) (ps : List Position) (i j : ℕ) (r : Rest) → slice_get ps i ≡ Some (At r) → stands done (slice_get ps j) ≡ true → nat_eq i j ≡ false
apart done ps i j r e s = decide (nat_eq i j) refl
  where
    decide : (b : Bool) → nat_eq i j ≡ b → nat_eq i j ≡ false
    decide false f = f
    decide true f = let g = rw (sym (same_number i j f)) at s in let h = rw e at g in cc

pub fresh_at_rest : (done : Bool) (ps : List Position) (i : ℕ) (r : Rest) (stack : List ℕ) → slice_get ps i ≡ Some (At r) → OpenCallsStand done ps stack → IsAnother i stack
fresh_at_rest done ps i r [] e g = tt
fresh_at_rest done ps i r (j ∷ stack) e g = (apart done ps i j r e g.0, fresh_at_rest done ps i r stack e g.2)

abbrev pub cell_of : Machine → AbstractCell
cell_of m = cell_at m.word m.slots (census m.parties)

-- at a cut
pub record AtCut (limit : ℕ) (m : Machine) (stack : List ℕ) (moves : List Move) : Type 0 where
  pub good : OpenCallsStand m.word.completed m.parties stack
  pub calm : Calm m.word m.slots true (At Ended)
  pub agreed : all_moved limit moves ≡ Some (record { cell = cell_of m; frames = frames m.parties stack; told = seen m.trace })

-- in the middle of a segment of party i
pub record Within (limit : ℕ) (m : Machine) (i : ℕ) (p : Position) (stack : List ℕ) (moves : List Move) : Type 0 where
  pub stands_at : slice_get m.parties i ≡ Some p
  pub one_way : goes_one_way p ≡ true
  pub fresh : IsAnother i stack
  pub good : OpenCallsStand m.word.completed m.parties stack
  pub calm : Calm m.word m.slots false p
  pub agreed : all_moved limit moves ≡ Some (follow (ahead (cell_of m) m.slots p) (frames m.parties stack) (seen m.trace))

-- what is so after a step to q of party i, with the calls below it on the stack
abbrev pub Goes : ℕ → Machine → ℕ → Act → Position → List ℕ → List Move → Type 0
Goes limit m i act q stack moves =
    cond (is_at_rest q) (AtCut limit m stack moves)
    (cond (is_foreign act || asks_foreign q) (AtCut limit m (i ∷ stack) moves) (Within limit m i q stack moves))

-- calm at a cut, whoever stands where
cut_calm : (w : State) (slots : Slots) (q : Position) → takes_slot q ≡ false → has_emptied q ≡ false → has_stored q ≡ false → Calm w slots true q → Calm w slots true (At Ended)
cut_calm w slots q e f g k = record {
  notifying = λ a. k.notifying e;
  taking = λ a. cc;
  registering = k.registering;
  owing = λ a. k.owing refl;
  unowed = λ a. cc;
  stored = λ a. k.stored f;
  emptied = λ a. cc;
  forgotten = λ a b. k.forgotten a (only_left (not w.registering) (is_storing q) b);
  wanted = λ a. cc;
  never = refl;
  saw = λ a. cc;
  finished = λ a. cc;
  output = λ a. k.output g;
}
  where
    only_left : (a b : Bool) → (a || false) ≡ true → (a || b) ≡ true
    only_left a b e = grind arith

rest_flags : (q : Position) → is_at_rest q ≡ true → (takes_slot q ≡ false) × (has_emptied q ≡ false) × (has_stored q ≡ false)
rest_flags q e = grind arith

mark_flags : (done : Bool) (q : Position) → stands done (Some q) ≡ true → (takes_slot q ≡ false) × (has_emptied q ≡ false) × (has_stored q ≡ false)
mark_flags done q e = grind arith

-- the segment has ended, at rest or at a cut, or goes on
abbrev LandsAt : Bool → Bool → Bool → AbstractCell → Slots → Position → SegmentEnd
LandsAt r u w c slots q = cond r (record { cell = c; told = []; frame = None }) (cond u (ahead c slots (Deliverer false (ThenEnds Nothing))) (landed c slots w q))

abbrev GoesAt : Bool → Bool → ℕ → Machine → ℕ → Position → List ℕ → List Move → Type 0
GoesAt r w limit m i q stack moves = cond r (AtCut limit m stack moves) (cond w (AtCut limit m (i ∷ stack) moves) (Within limit m i q stack moves))

finish : (limit : ℕ) (m : Machine) (i : ℕ) (q : Position) (stack : List ℕ) (moves : List Move) (r u w : Bool) → u ≡ false → is_at_rest q ≡ r → slice_get m.parties i ≡ Some q → IsAnother i stack → OpenCallsStand m.word.completed m.parties stack
    → Calm m.word m.slots (r || w) q → (r || cond w (stands m.word.completed (Some q)) (goes_one_way q)) ≡ true
    → all_moved limit moves ≡ Some (follow (LandsAt r u w (cell_of m) m.slots q) (frames m.parties stack) (seen m.trace)) → GoesAt r w limit m i q stack moves
finish limit m i q stack moves true u w e f g fresh good k l a = record { good = good; calm = (let x = rest_flags q f in cut_calm m.word m.slots q x.0 x.1 x.2 k); agreed = a }
finish limit m i q stack moves false false true e f g fresh good k l a = record {
  good = (rw g l, fresh, good);
  calm = (let x = mark_flags m.word.completed q l in cut_calm m.word m.slots q x.0 x.1 x.2 k);
  agreed = rw g a;
}
finish limit m i q stack moves false false false e f g fresh good k l a = record { stands_at = g; one_way = l; fresh = fresh; good = good; calm = k; agreed = a }
finish limit m i q stack moves false true w e f g fresh good k l a = cc

abbrev pub moved_on : Machine → ℕ → Position → Outcome → Machine
moved_on m i p o = record { limit = m.limit; word = o.word; slots = o.slots; parties = slice_set m.parties i o.next ++ o.born; trace = o.told ++ (begins p ++ m.trace) }

-- One step of party i from p, before which the moves have made what the segment leaves.
outcome_stands : (limit : ℕ) (m : Machine) (i : ℕ) (p : Position) (act : Act) (stack : List ℕ) (moves : List Move) (o : Outcome) → slice_get m.parties i ≡ Some p → queues act ≡ false → IsAnother i stack → OpenCallsStand m.word.completed m.parties stack
    → all_moved limit moves ≡ Some (follow (before m.limit (cell_of m) m.slots p act) (frames m.parties stack) (seen m.trace))
    → Landed (scene m) (census (others m.parties i)) p act (Some o) → StaysCalm act (Some o) → (m.word.completed ≡ true → o.word.completed ≡ true)
    → Goes limit (moved_on m i p o) i act o.next stack moves
outcome_stands limit m i p act stack moves o e u fresh good a landed calm done =
    let rest = census (others m.parties i) in
    let was : cell_of m ≡ cell_at m.word m.slots (plus (weigh p) rest) = ap (cell_at m.word m.slots) (split m.parties i p e) in
    let new : census (slice_set m.parties i o.next ++ o.born) ≡ plus (census (o.next ∷ o.born)) rest = put_born m.parties i p o.next o.born e in
    let now : cell_at o.word o.slots (census (slice_set m.parties i o.next ++ o.born)) ≡ cell_at o.word o.slots (plus (census (o.next ∷ o.born)) rest) = ap (cell_at o.word o.slots) new in
    let same : Same (before m.limit (cell_of m) m.slots p act) (prepend (seen o.told) (lands (cell_at o.word o.slots (census (slice_set m.parties i o.next ++ o.born))) o.slots act o.next)) =
    subst (λ (c : AbstractCell). Same (before m.limit c m.slots p act) (prepend (seen o.told) (lands (cell_at o.word o.slots (census (slice_set m.parties i o.next ++ o.born))) o.slots act o.next))) (sym was)
    (subst (λ (c : AbstractCell). Same (before m.limit (cell_at m.word m.slots (plus (weigh p) rest)) m.slots p act) (prepend (seen o.told) (lands c o.slots act o.next))) (sym now) landed) in
    let told = carried (lands (cell_at o.word o.slots (census (slice_set m.parties i o.next ++ o.born))) o.slots act o.next) (before m.limit (cell_of m) m.slots p act) (frames m.parties stack) p o.told m.trace same in
    let kept = frames_stay m.word.completed m.parties o.born i o.next stack fresh good in
    finish limit (moved_on m i p o) i o.next stack moves (is_at_rest o.next) (queues act) (is_foreign act || asks_foreign o.next) u refl (get_append (slice_set m.parties i o.next) o.born i o.next (get_put m.parties i p o.next e)) fresh
    (open_calls_stand m.word.completed o.word.completed m.parties o.born i o.next stack done fresh good) calm.0 calm.1
    (a ∙ ap Some (told ∙ ap (λ (fs : List Frame). follow (lands (cell_at o.word o.slots (census (slice_set m.parties i o.next ++ o.born))) o.slots act o.next) fs (seen (o.told ++ (begins p ++ m.trace)))) (sym kept)))

-- what the counts say of the acting party
registers_one : (p : Position) → (await 0 p).registering ≡ bit (registers p)
registers_one p = grind arith

registered_one : (p : Position) → bit (is_registered p) ≤ (await 0 p).registered
registered_one p = grind arith

counts : (w : State) (slots : Slots) (p : Position) (polls : ℕ) (c rest : Census) (b other : Awaiting) → (weigh p).tasks + rest.tasks ≡ bit w.task → (await 0 p).registering + other.registering ≡ bit w.registering
    → ((await 0 p).registered + other.registered ≡ 0) ⊎ (slots.awaiter ≡ Some polls) → other.task_takers + other.registering ≤ rest.tasks → (await 0 p).registering ≡ bit (registers p) → bit (is_registered p) ≤ (await 0 p).registered → Counted w slots p
counts w slots p polls c rest b other e1 e2 e3 e4 e5 e6 = record {
  own = λ x y. owned (is_registered p) ((await 0 p).registered) other.registered slots.awaiter polls e3 e6 x y;
  at_work = λ x. set (registers p) w.registering (await 0 p).registering other.registering e2 e5 x;
  calm_task = λ x y. clear (registers p) w.registering w.task (await 0 p).registering other.registering (weigh p).tasks rest.tasks other.task_takers e1 e2 e4 e5 x y;
  has_task = λ x. exists w.task (weigh p).tasks rest.tasks e1 x;
}
  where
    owned : (r : Bool) (a b : ℕ) (o : Option ℕ) (n : ℕ) → (a + b ≡ 0) ⊎ (o ≡ Some n) → bit r ≤ a → r ≡ true → o ≡ None → ⊥
    owned r a b o n e f x y = grind (arith, nat_tests)

    set : (r g : Bool) (a b : ℕ) → a + b ≡ bit g → a ≡ bit r → r ≡ true → g ≡ true
    set r g a b e f x = grind (arith, nat_tests)

    clear : (r g t : Bool) (a b x y z : ℕ) → x + y ≡ bit t → a + b ≡ bit g → z + b ≤ y → a ≡ bit r → r ≡ false → x ≡ 1 → g ≡ false
    clear r g t a b x y z e1 e2 e3 e4 e5 e6 = grind (arith, nat_tests)

    exists : (t : Bool) (x y : ℕ) → x + y ≡ bit t → x ≡ 1 → t ≡ true
    exists t x y e f = grind (arith, nat_tests)

pub counted : (m : Machine) (i : ℕ) (p : Position) → slice_get m.parties i ≡ Some p → Invariant m → Counted m.word m.slots p
counted m i p e h =
    let task = ap (λ (c : Census). c.tasks) (split m.parties i p e) in
    let join_is = split_awaiting 0 m.parties i p e in
    let shakes = subst (HandshakeHolds 0 m.word m.slots m.trace) join_is (h.shakes 0) in
    let holds = subst (Holds m.limit m.word m.slots m.trace) (split m.parties i p e) h.holds in
    counts m.word m.slots p _ (census m.parties) (census (others m.parties i)) (awaiting 0 m.parties) (awaiting 0 (others m.parties i)) holds.task shakes.registering shakes.own (fits 0 (others m.parties i)).task_takers (registers_one p) (registered_one p)

-- who may go on at a cut
pub record Flags (done : Bool) (p : Position) : Type 0 where
  pub takes : takes_slot p ≡ false
  pub emptied : has_emptied p ≡ false
  pub storing : (is_storing p || drops_old p) ≡ false
  pub refused : is_refused p ≡ false
  pub seen : has_seen p ≡ false
  pub drops : drops_output p ≡ false
  pub notifier : is_notifier p ≡ true → (done ≡ true) ⊎ ((weigh p).tasks ≡ 1)

pub flags : (done : Bool) (p : Position) → (is_at_rest p || stands done (Some p)) ≡ true → Flags done p
flags done p e = grind arith

-- calm at a cut is calm of each party that may go on there
pub calm_at : (w : State) (slots : Slots) (p : Position) → Flags w.completed p → Calm w slots true (At Ended) → Counted w slots p → Calm w slots true p
calm_at w slots p f k c = record {
  notifying = λ a. k.notifying refl;
  taking = λ a. absurd_flag (takes_slot p) f.takes a;
  registering = k.registering;
  owing = λ a. k.owing refl;
  unowed = λ a. absurd_flag (is_storing p || drops_old p) f.storing a;
  stored = λ a. k.stored refl;
  emptied = λ a. absurd_flag (has_emptied p) f.emptied a;
  forgotten = λ a b. k.forgotten a (no_storing (not w.registering) (is_storing p) (drops_old p) f.storing b);
  wanted = λ a b. want w slots.awaiter (wants p f.notifier c.has_task a) b (k.owing refl) (k.forgotten b);
  never = f.refused;
  saw = λ a. absurd_flag (has_seen p) f.seen a;
  finished = λ a. absurd_flag (drops_output p) f.drops a;
  output = λ a. k.output refl;
}
  where
    absurd_flag : {A : Type 0} (b : Bool) → b ≡ false → b ≡ true → A
    absurd_flag b e f = cc

    no_storing : (g s d : Bool) → (s || d) ≡ false → (g || s) ≡ true → (g || false) ≡ true
    no_storing g s d e f = grind arith

    wants : (p : Position) → (is_notifier p ≡ true → (w.completed ≡ true) ⊎ ((weigh p).tasks ≡ 1)) → ((weigh p).tasks ≡ 1 → w.task ≡ true) → is_notifier p ≡ true → (w.completed ≡ true) ⊎ (w.task ≡ true)
    wants p n t a = grind arith

    want : (w : State) (o : Option ℕ) → (w.completed ≡ true) ⊎ (w.task ≡ true) → w.awaiter ≡ false → (w.registering ≡ true → w.awaiter ≡ true)
        → ((not w.registering || false) ≡ true → (o ≡ None) ⊎ ((w.task ≡ false) × (w.closed ≡ true) × (w.completed ≡ false) × (w.running ≡ false))) → o ≡ None
    want w o a b c d = grind arith

one_way_is : (limit : ℕ) (c : AbstractCell) (slots : Slots) (p : Position) (act : Act) → goes_one_way p ≡ true → ahead c slots p ≡ before limit c slots p act
one_way_is limit c slots (AwaiterInHand j (OfPoll i)) act e = cc
one_way_is limit c slots p act e = cc

-- a trace in two parts
pub count-append : (p : Event → Bool) (xs ys : List Event) → count p (xs ++ ys) ≡ count p xs + count p ys
count-append p [] ys = omega arith
count-append p (x ∷ xs) ys = omega (arith, count-append p xs ys)

-- what is completed stays so, as the trace tells it
completes_on : (before now : Bool) (events : List Event) (trace : List Event) → how_often Event.Completes trace ≡ bit before → how_often Event.Completes (events ++ trace) ≡ bit now → before ≡ true → now ≡ true
completes_on before now events trace was is completed = at (how_often Event.Completes events) (how_often Event.Completes trace) was (sym (count-append (is_event Event.Completes) events trace) ∙ is) completed
  where
    at : (a b : ℕ) → b ≡ bit before → a + b ≡ bit now → before ≡ true → now ≡ true
    at a b e f g = grind (arith, nat_tests)

pub stays_completed : (m : Machine) (i : ℕ) (p : Position) (o : Outcome) → Invariant m → Invariant (moved_on m i p o) → m.word.completed ≡ true → o.word.completed ≡ true
stays_completed m i p o was is = completes_on m.word.completed o.word.completed (o.told ++ begins p) m.trace was.holds.completes (ap (how_often Event.Completes) (append_assoc o.told (begins p) m.trace) ∙ is.holds.completes)

-- what the counting invariant says of the acting party
placed_here : (m : Machine) (i : ℕ) (p : Position) → slice_get m.parties i ≡ Some p → Invariant m → Placed (scene m) (plus (weigh p) (census (others m.parties i))) p
placed_here m i p e h = placed (scene m) m.trace (census (others m.parties i)) p (subst (Holds m.limit m.word m.slots m.trace) (split m.parties i p e) h.holds)

pub tracked_here : (m : Machine) (i : ℕ) (p : Position) (act : Act) (cut : Bool) → slice_get m.parties i ≡ Some p → Invariant m → Calm m.word m.slots cut p → Landed (scene m) (census (others m.parties i)) p act (rule (scene m) act p)
tracked_here m i p act cut e h k = tracked act p (scene m) (census (others m.parties i)) cut (placed_here m i p e h) k (counted m i p e h)

pub calm_here : (m : Machine) (i : ℕ) (p : Position) (act : Act) (cut : Bool) → slice_get m.parties i ≡ Some p → Invariant m → Calm m.word m.slots cut p → StaysCalm act (rule (scene m) act p)
calm_here m i p act cut e h k = kept_calm act p (scene m) (census (others m.parties i)) cut (placed_here m i p e h) k (counted m i p e h)

-- the step of a party, by what the moves have made
abbrev pub GoesAfter : ℕ → Machine → ℕ → Position → Act → List ℕ → List Move → Option Outcome → Type 0
GoesAfter limit m i p act stack moves None = Unit {0}
GoesAfter limit m i p act stack moves (Some o) = Goes limit (moved_on m i p o) i act o.next stack moves

outcome_stands_after : (limit : ℕ) (m : Machine) (i : ℕ) (p : Position) (act : Act) (stack : List ℕ) (moves : List Move) (o : Option Outcome) → slice_get m.parties i ≡ Some p → queues act ≡ false → IsAnother i stack → OpenCallsStand m.word.completed m.parties stack → Invariant m
    → all_moved limit moves ≡ Some (follow (before m.limit (cell_of m) m.slots p act) (frames m.parties stack) (seen m.trace))
    → Landed (scene m) (census (others m.parties i)) p act o → StaysCalm act o → Stays (after m i p o) → GoesAfter limit m i p act stack moves o
outcome_stands_after limit m i p act stack moves None e u f g h a l c stays = tt
outcome_stands_after limit m i p act stack moves (Some o) e u f g h a l c stays = outcome_stands limit m i p act stack moves o e u f g a l c (stays_completed m i p o h stays)

step_goes : (limit : ℕ) (m : Machine) (i : ℕ) (p : Position) (act : Act) (stack : List ℕ) (moves : List Move) (cut : Bool) → slice_get m.parties i ≡ Some p → queues act ≡ false → Invariant m → Calm m.word m.slots cut p → IsAnother i stack → OpenCallsStand m.word.completed m.parties stack
    → all_moved limit moves ≡ Some (follow (before m.limit (cell_of m) m.slots p act) (frames m.parties stack) (seen m.trace)) → GoesAfter limit m i p act stack moves (rule (scene m) act p)
step_goes limit m i p act stack moves cut e u h k f g a =
    outcome_stands_after limit m i p act stack moves (rule (scene m) act p) e u f g h a (tracked_here m i p act cut e h k) (calm_here m i p act cut e h k) (moves_stays m i act (Some p) e h)

-- a call begins
pub begins_here : (limit : ℕ) (m : Machine) (i : ℕ) (r : Rest) (act : Act) (stack : List ℕ) (moves : List Move) → m.limit ≡ limit → slice_get m.parties i ≡ Some (At r) → queues act ≡ false → Invariant m → AtCut limit m stack moves
    → GoesAfter limit m i (At r) act stack (Begin (call_of r act) ∷ moves) (rule (scene m) act (At r))
begins_here limit m i r act stack moves l e u h c =
    step_goes limit m i (At r) act stack (Begin (call_of r act) ∷ moves) true e u h (calm_at m.word m.slots (At r) (flags m.word.completed (At r) refl) c.calm (counted m i (At r) e h))
    (fresh_at_rest m.word.completed m.parties i r stack e c.good) c.good
    (ap (λ (x : Option Abstract). then_moved limit x (Begin (call_of r act))) c.agreed ∙ ap (λ (n : ℕ). Some (follow (begin n (cell_of m) (call_of r act)) (frames m.parties stack) (seen m.trace))) (sym l))

-- the innermost call goes on from a cut
pub goes_on_here : (limit : ℕ) (m : Machine) (i : ℕ) (p : Position) (act : Act) (stack : List ℕ) (moves : List Move) → slice_get m.parties i ≡ Some p → queues act ≡ false → Invariant m → AtCut limit m (i ∷ stack) moves
    → GoesAfter limit m i p act stack (Go (says_yes act) ∷ moves) (rule (scene m) act p)
goes_on_here limit m i p act stack moves e u h c =
    let s : stands m.word.completed (Some p) ≡ true = rw e at c.good.0 in
    step_goes limit m i p act stack (Go (says_yes act) ∷ moves) true e u h (calm_at m.word m.slots p (flags m.word.completed p (rw s (or_right (is_at_rest p)))) c.calm (counted m i p e h)) c.good.1 c.good.2
    (ap (λ (x : Option Abstract). then_moved limit x (Go (says_yes act))) c.agreed
    ∙ (ap (λ (o : Option Position). Some (follow (go (cell_of m) (frame_at o) (says_yes act)) (frames m.parties stack) (seen m.trace))) e
    ∙ ap (λ (x : SegmentEnd). Some (follow x (frames m.parties stack) (seen m.trace))) (goes_on_from m.limit (cell_of m) m.slots m.word.completed p act s)))
  where
    or_right : (b : Bool) → (b || true) ≡ true
    or_right b = grind arith

-- the innermost call goes on within its segment
pub goes_within : (limit : ℕ) (m : Machine) (i : ℕ) (p : Position) (act : Act) (stack : List ℕ) (moves : List Move) → queues act ≡ false → Invariant m → Within limit m i p stack moves → GoesAfter limit m i p act stack moves (rule (scene m) act p)
goes_within limit m i p act stack moves u h c =
    step_goes limit m i p act stack moves false c.stands_at u h c.calm c.fresh c.good
    (c.agreed ∙ ap (λ (x : SegmentEnd). Some (follow x (frames m.parties stack) (seen m.trace))) (one_way_is m.limit (cell_of m) m.slots p act c.one_way))

pub no_deliverer : (done : Bool) (o : Option Position) → stands done o ≡ true → not (is_deliverer o) ≡ true
no_deliverer done o e = grind arith

pub innermost_is_no_deliverer : (done : Bool) (m : Machine) (stack : List ℕ) → OpenCallsStand done m.parties stack → not (is_deliverer (innermost m stack)) ≡ true
innermost_is_no_deliverer done m [] g = refl
innermost_is_no_deliverer done m (j ∷ stack) g = no_deliverer done (slice_get m.parties j) g.0

pub opened_rest : (i : ℕ) (r : Rest) (act : Act) (born : ℕ) (stack : List ℕ) → queues act ≡ false → opened i (At r) act born stack ≡ i ∷ stack
opened_rest i r WakeIdle born stack e = cc
opened_rest i r act born stack e = refl

pub opened_mid : (i : ℕ) (p : Position) (act : Act) (born : ℕ) (stack : List ℕ) → is_at_rest p ≡ false → opened i p act born stack ≡ stack
opened_mid i (At r) act born stack e = cc
opened_mid i p act born stack e = refl

pub move_mid : (p : Position) (act : Act) → is_at_rest p ≡ false → move_of p act ≡ Go (says_yes act)
move_mid (At r) act e = cc
move_mid p act e = refl

-- A WAKE THAT QUEUES: its deliverer n stands below the waker i, which has only to end
pub record Handing (limit : ℕ) (m : Machine) (i : ℕ) (r : Rest) (n : ℕ) (stack : List ℕ) (moves : List Move) : Type 0 where
  pub waker : slice_get m.parties i ≡ Some (CallEnding Nothing r)
  pub deliverer : slice_get m.parties n ≡ Some (Deliverer false (ThenEnds Nothing))
  pub apart : nat_eq i n ≡ false
  pub fresh : IsAnother i stack
  pub fresh_deliverer : IsAnother n stack
  pub good : OpenCallsStand m.word.completed m.parties stack
  pub calm : Calm m.word m.slots false (Deliverer false (ThenEnds Nothing))
  pub agreed : all_moved limit moves ≡ Some (follow (ahead (cell_of m) m.slots (Deliverer false (ThenEnds Nothing))) (frames m.parties stack) (seen m.trace))

abbrev pub ended : Machine → ℕ → Rest → Machine
ended m i r = record { limit = m.limit; word = m.word; slots = m.slots; parties = slice_set m.parties i (At r) ++ []; trace = CallEnds Nothing ∷ m.trace }

end_weighs : (r : Rest) (rest : Census) → (plus (weigh (CallEnding Nothing r)) rest).wakers ≡ (plus (census (At r ∷ [])) rest).wakers
end_weighs r rest = grind arith

end_holds : (r : Rest) (rest : Census) → holders (plus (weigh (CallEnding Nothing r)) rest) ≡ holders (plus (census (At r ∷ [])) rest)
end_holds r rest = grind arith

end_cell : (w : State) (slots : Slots) (a b : Census) → a.wakers ≡ b.wakers → holders a ≡ holders b → cell_at w slots a ≡ cell_at w slots b
end_cell w slots a b e f = λ i. record {
  task = record { phase = phase_at w; closed = w.closed; has_task = w.task; wakers = e i; future = one_if (is_home (phase_at w)); output = one_if (is_done (phase_at w) && not w.closed); awaiter = awaiter_of w slots.awaiter };
  held = nat_lt 0 (f i);
  storing = w.registering;
  owed = w.registering && w.notifying;
}

-- the waker ends, and its deliverer goes on
pub hands : (limit : ℕ) (m : Machine) (i : ℕ) (r : Rest) (n : ℕ) (stack : List ℕ) (moves : List Move) → Handing limit m i r n stack moves → Within limit (ended m i r) n (Deliverer false (ThenEnds Nothing)) stack moves
hands limit m i r n stack moves h =
    let rest = census (others m.parties i) in
    let cell : cell_of m ≡ cell_of (ended m i r) = ap (cell_at m.word m.slots) (split m.parties i (CallEnding Nothing r) h.waker) ∙ (end_cell m.word m.slots (plus (weigh (CallEnding Nothing r)) rest) (plus (census (At r ∷ [])) rest) (end_weighs r rest) (end_holds r rest)
    ∙ ap (cell_at m.word m.slots) (sym (put_born m.parties i (CallEnding Nothing r) (At r) [] h.waker))) in
    record {
      stands_at = get_append (slice_set m.parties i (At r)) [] n (Deliverer false (ThenEnds Nothing)) (get_other m.parties i n (At r) h.apart ∙ h.deliverer);
      one_way = refl;
      fresh = h.fresh_deliverer;
      good = open_calls_stand m.word.completed m.word.completed m.parties [] i (At r) stack (λ e. e) h.fresh h.good;
      calm = h.calm;
      agreed = h.agreed ∙ (ap (λ (c : AbstractCell). Some (follow (ahead c m.slots (Deliverer false (ThenEnds Nothing))) (frames m.parties stack) (seen m.trace))) cell
          ∙ ap (λ (fs : List Frame). Some (follow (ahead (cell_of (ended m i r)) m.slots (Deliverer false (ThenEnds Nothing))) fs (seen m.trace))) (sym (frames_stay m.word.completed m.parties [] i (At r) stack h.fresh h.good)));
    }

-- nothing else is allowed to it
pub only_ends : (limit : ℕ) (m : Machine) (i : ℕ) (r : Rest) (act : Act) (P : Option Machine → Type 0) → P None → P (Some (ended m i r)) → P (after m i (CallEnding Nothing r) (rule (scene m) act (CallEnding Nothing r)))
only_ends limit m i r EndCall P a b = b
only_ends limit m i r act P a b = a
