-- A wake that queues the task begins.
use Rattle.std.proofs.Common.{◌≡◌, ℕ, zero, suc, ◌<◌, Bool, true, false, not, ◌||◌, cond, List, [], ◌∷◌, ◌++◌, length, Option, Some, None, refl, sym, ap, ◌∙◌, subst, arith}
use Rattle.std.specs.Prelude.{slice_get, slice_set, nat_eq}
use Rattle.std.proofs.lemmas.Bool.Decides.{nat_tests}
use Rattle.std.proofs.lemmas.Option.{slice_get_within}
use Rattle.task_laws.proofs.Vocabulary.{State, is_open, Nothing, CallBegins, Made, ByWake, WakeStep, Rest, Runnable, Waker, Lent, Ended, Task, Position, At, CallEnding, Deliverer, ThenEnds, WakeIdle, found, written, Slots, Scene}
use Rattle.task_laws.proofs.Vocabulary.{Outcome, where_found, is_held, rule, Machine, scene, begins, AbstractCell, Frame, Abstract, Move, Begin, begin, follow, then_moved, all_moved, call_of, frames, seen}
use Rattle.task_laws.proofs.Census.{weigh, census, plus}
use Rattle.task_laws.proofs.Runs.{Invariant, others, split, put_born}
use Rattle.task_laws.proofs.Ahead.{Same, before, ahead, prepend, Landed, cell_at}
use Rattle.task_laws.proofs.Calm.{Calm, StaysCalm}
use Rattle.task_laws.proofs.Cuts.{get_put, get_append, carried}
use Rattle.task_laws.proofs.WholeRuns.{IsAnother, OpenCallsStand, AtCut, tracked_here, calm_here, Handing, cell_of, moved_on, calm_at, flags, counted, fresh_at_rest, open_calls_stand, frames_stay, stands_somewhere}

abbrev pub queued_by : Scene → Rest → Outcome
queued_by s r = record { word = written WakeIdle s.word; slots = s.slots; next = CallEnding Nothing r; born = Deliverer false (ThenEnds Nothing) ∷ []; told = CallBegins ∷ Made ByWake ∷ WakeStep ∷ [] }

pub queues_or_refused : (s : Scene) (r : Rest) (P : Option Outcome → Type 0) → P None → P (Some (queued_by s r)) → P (rule s WakeIdle (At r))
queues_or_refused s Runnable P a b = a
queues_or_refused s Ended P a b = a
queues_or_refused s (Task n) P a b = a
queues_or_refused s Waker P a b = at (found s.limit WakeIdle s.word)
  where
    at : (g : Bool) → P (cond g (Some (queued_by s Waker)) None)
    at true = b
    at false = a
queues_or_refused s Lent P a b = at (found s.limit WakeIdle s.word) (is_held s.word || not (is_open s.word))
  where
    at : (g l : Bool) → P (where_found g (cond l (Some (queued_by s Lent)) None))
    at true true = b
    at false true = a
    at g false = a

get_last : (ps : List Position) (i : ℕ) (q d : Position) → slice_get (slice_set ps i q ++ (d ∷ [])) (length ps) ≡ Some d
get_last [] i q d = refl
get_last (x ∷ ps) zero q d = last ps d
  where
    last : (ps : List Position) (d : Position) → slice_get (ps ++ (d ∷ [])) (length ps) ≡ Some d
    last [] d = refl
    last (x ∷ ps) d = last ps d
get_last (x ∷ ps) (suc i) q d = get_last ps i q d

below : (i n : ℕ) → i < n → nat_eq i n ≡ false
below i n l = grind (arith, nat_tests)

above : (i n : ℕ) → i < n → nat_eq n i ≡ false
above i n l = grind (arith, nat_tests)

fresh_born : (done : Bool) (ps : List Position) (stack : List ℕ) → OpenCallsStand done ps stack → IsAnother (length ps) stack
fresh_born done ps [] g = tt
fresh_born done ps (j ∷ stack) g =
    (let x = stands_somewhere done (slice_get ps j) g.0 in above j (length ps) (slice_get_within ps j x.0 x.1), fresh_born done ps stack g.2)

to_deliverer : (w : State) (slots : Slots) (r : Rest) → Calm w slots false (CallEnding Nothing r) → Calm w slots false (Deliverer false (ThenEnds Nothing))
to_deliverer w slots r k = record {
  notifying = k.notifying;
  taking = k.taking;
  registering = k.registering;
  owing = k.owing;
  unowed = k.unowed;
  stored = k.stored;
  emptied = k.emptied;
  forgotten = k.forgotten;
  wanted = k.wanted;
  never = k.never;
  saw = k.saw;
  finished = k.finished;
  output = k.output;
}

abbrev pub Queued : ℕ → Machine → ℕ → Rest → List ℕ → List Move → Option Outcome → Type 0
Queued limit m i r stack moves None = Unit {0}
Queued limit m i r stack moves (Some o) = Handing limit (moved_on m i (At r) o) i r (length m.parties) stack moves

queues_so : (limit : ℕ) (m : Machine) (i : ℕ) (r : Rest) (stack : List ℕ) (moves : List Move) → slice_get m.parties i ≡ Some (At r) → IsAnother i stack → OpenCallsStand m.word.completed m.parties stack
    → all_moved limit moves ≡ Some (follow (before m.limit (cell_of m) m.slots (At r) WakeIdle) (frames m.parties stack) (seen m.trace))
    → Landed (scene m) (census (others m.parties i)) (At r) WakeIdle (Some (queued_by (scene m) r)) → StaysCalm WakeIdle (Some (queued_by (scene m) r)) → (m.word.completed ≡ true → (queued_by (scene m) r).word.completed ≡ true)
    → Handing limit (moved_on m i (At r) (queued_by (scene m) r)) i r (length m.parties) stack moves
queues_so limit m i r stack moves e fresh good a landed calm done =
    let o = queued_by (scene m) r in
    let d = Deliverer false (ThenEnds Nothing) in
    let rest = census (others m.parties i) in
    let ps : List Position = slice_set m.parties i (CallEnding Nothing r) ++ (d ∷ []) in
    let was : cell_of m ≡ cell_at m.word m.slots (plus (weigh (At r)) rest) = ap (cell_at m.word m.slots) (split m.parties i (At r) e) in
    let now : cell_at o.word m.slots (census ps) ≡ cell_at o.word m.slots (plus (census (CallEnding Nothing r ∷ (d ∷ []))) rest) = ap (cell_at o.word m.slots) (put_born m.parties i (At r) (CallEnding Nothing r) (d ∷ []) e) in
    let same : Same (before m.limit (cell_of m) m.slots (At r) WakeIdle) (prepend (seen o.told) (ahead (cell_at o.word m.slots (census ps)) m.slots d)) =
    subst (λ (c : AbstractCell). Same (before m.limit c m.slots (At r) WakeIdle) (prepend (seen o.told) (ahead (cell_at o.word m.slots (census ps)) m.slots d))) (sym was)
    (subst (λ (c : AbstractCell). Same (before m.limit (cell_at m.word m.slots (plus (weigh (At r)) rest)) m.slots (At r) WakeIdle) (prepend (seen o.told) (ahead c m.slots d))) (sym now) landed) in
    let told = carried (ahead (cell_at o.word m.slots (census ps)) m.slots d) (before m.limit (cell_of m) m.slots (At r) WakeIdle) (frames m.parties stack) (At r) o.told m.trace same in
    let kept = frames_stay m.word.completed m.parties (d ∷ []) i (CallEnding Nothing r) stack fresh good in
    record {
      waker = get_append (slice_set m.parties i (CallEnding Nothing r)) (d ∷ []) i (CallEnding Nothing r) (get_put m.parties i (At r) (CallEnding Nothing r) e);
      deliverer = get_last m.parties i (CallEnding Nothing r) d;
      apart = below i (length m.parties) (slice_get_within m.parties i (At r) e);
      fresh = fresh;
      fresh_deliverer = fresh_born m.word.completed m.parties stack good;
      good = open_calls_stand m.word.completed o.word.completed m.parties (d ∷ []) i (CallEnding Nothing r) stack done fresh good;
      calm = to_deliverer o.word m.slots r calm.0;
      agreed = a ∙ ap Some (told ∙ ap (λ (fs : List Frame). follow (ahead (cell_at o.word m.slots (census ps)) m.slots d) fs (seen (o.told ++ (begins (At r) ++ m.trace)))) (sym kept));
    }

pub queue_begins : (limit : ℕ) (m : Machine) (i : ℕ) (r : Rest) (stack : List ℕ) (moves : List Move) → m.limit ≡ limit → slice_get m.parties i ≡ Some (At r) → Invariant m → AtCut limit m stack moves
    → Queued limit m i r stack (Begin (call_of r WakeIdle) ∷ moves) (rule (scene m) WakeIdle (At r))
queue_begins limit m i r stack moves l e h c =
    let k = calm_at m.word m.slots (At r) (flags m.word.completed (At r) refl) c.calm (counted m i (At r) e h) in
    queues_or_refused (scene m) r
    (λ (x : Option Outcome). Landed (scene m) (census (others m.parties i)) (At r) WakeIdle x → StaysCalm WakeIdle x → Queued limit m i r stack (Begin (call_of r WakeIdle) ∷ moves) x)
    (λ x y. tt)
    (λ x y. queues_so limit m i r stack (Begin (call_of r WakeIdle) ∷ moves) e (fresh_at_rest m.word.completed m.parties i r stack e c.good) c.good
    (ap (λ (x : Option Abstract). then_moved limit x (Begin (call_of r WakeIdle))) c.agreed ∙ ap (λ (n : ℕ). Some (follow (begin n (cell_of m) (call_of r WakeIdle)) (frames m.parties stack) (seen m.trace))) (sym l)) x y (λ d. d))
    (tracked_here m i (At r) WakeIdle true e h k)
    (calm_here m i (At r) WakeIdle true e h k)
