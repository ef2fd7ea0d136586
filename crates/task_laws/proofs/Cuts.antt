-- A whole run goes on: what its moves have made of the abstract task stays what the machine is read as.
use Rattle.std.proofs.Common.{◌≡◌, ℕ, zero, suc, Bool, true, false, List, [], ◌∷◌, ◌++◌, Some, None, refl, sym, ap, ◌∙◌, append_assoc, arith}
use Rattle.std.specs.Prelude.{slice_get, slice_set, nat_eq, if◌then◌else◌}
use Rattle.std.proofs.lemmas.Bool.Decides.{nat_tests}
use Rattle.task_laws.proofs.Vocabulary.{Event, HasOutput, Position, At, FutureGone, ClosedRun, GivingUp, Notifier, AwaiterInHand, Answering, OfRun, OfPoll, Act, Slots, begins, AbstractCell, Frame, SegmentEnd, go, follow, says_yes, frame_of, seen, is_seen}
use Rattle.task_laws.proofs.Ahead.{Same, before, prepend}
use Rattle.task_laws.proofs.Calm.{stands}

-- there the frame says what is left of the call
pub goes_on_from : (limit : ℕ) (c : AbstractCell) (slots : Slots) (done : Bool) (p : Position) (act : Act) → stands done (Some p) ≡ true → go c (frame_of p) (says_yes act) ≡ before limit c slots p act
goes_on_from limit c slots done (FutureGone ClosedRun) act e = cc
goes_on_from limit c slots done (Notifier OfRun) act e = cc
goes_on_from limit c slots done (GivingUp None answer) act e = cc
goes_on_from limit c slots done (AwaiterInHand j (OfPoll i)) act e = cc
goes_on_from limit c slots done (Answering i HasOutput) act e = cc
goes_on_from limit c slots done p act e = cc

-- the parties among each other
pub get_put : (ps : List Position) (i : ℕ) (p q : Position) → slice_get ps i ≡ Some p → slice_get (slice_set ps i q) i ≡ Some q
get_put [] i p q e = cc
get_put (x ∷ ps) zero p q e = refl
get_put (x ∷ ps) (suc i) p q e = get_put ps i p q e

pub get_other : (ps : List Position) (i j : ℕ) (q : Position) → nat_eq i j ≡ false → slice_get (slice_set ps i q) j ≡ slice_get ps j
get_other [] i j q e = refl
get_other (x ∷ ps) zero zero q e = cc
get_other (x ∷ ps) zero (suc j) q e = refl
get_other (x ∷ ps) (suc i) zero q e = refl
get_other (x ∷ ps) (suc i) (suc j) q e = get_other ps i j q (grind (arith, nat_tests))

pub get_append : (ps qs : List Position) (j : ℕ) (x : Position) → slice_get ps j ≡ Some x → slice_get (ps ++ qs) j ≡ Some x
get_append [] qs j x e = cc
get_append (y ∷ ps) qs zero x e = e
get_append (y ∷ ps) qs (suc j) x e = get_append ps qs j x e

-- part by part is the whole
pub same_is : (a b : SegmentEnd) → Same a b → a ≡ b
same_is a b s = λ i. record {
  cell = record {
    task = record { phase = s.phase i; closed = s.closed i; has_task = s.has_task i; wakers = s.wakers i; future = s.future i; output = s.output i; awaiter = s.awaiter i };
    held = s.held i;
    storing = s.storing i;
    owed = s.owed i;
  };
  told = s.told i;
  frame = s.frame i;
}

seen_append : (xs ys : List Event) → seen (xs ++ ys) ≡ seen xs ++ seen ys
seen_append [] ys = refl
seen_append (e ∷ xs) ys = at (is_seen e) (seen_append xs ys)
  where
    at : (b : Bool) → seen (xs ++ ys) ≡ seen xs ++ seen ys → (if b then e ∷ seen (xs ++ ys) else seen (xs ++ ys)) ≡ (if b then e ∷ seen xs else seen xs) ++ seen ys
    at true h = ap (λ l. e ∷ l) h
    at false h = h

seen_begins : (p : Position) (t : List Event) → seen (begins p ++ t) ≡ seen t
seen_begins (At r) t = refl
seen_begins p t = refl

-- A step: the segment before it, and the segment after it, leave the same.
pub carried : (l b : SegmentEnd) (fs : List Frame) (p : Position) (told t : List Event) → Same b (prepend (seen told) l) → follow b fs (seen t) ≡ follow l fs (seen (told ++ (begins p ++ t)))
carried l b fs p told t s =
    ap (λ (x : SegmentEnd). follow x fs (seen t)) (same_is b (prepend (seen told) l) s)
    ∙ ap (λ (x : List Event). record { cell = l.cell; frames = (follow l fs []).frames; told = x }) (append_assoc l.told (seen told) (seen t) ∙ ap (λ (x : List Event). l.told ++ x) (ap (λ (x : List Event). seen told ++ x) (sym (seen_begins p t)) ∙ sym (seen_append told (begins p ++ t))))
