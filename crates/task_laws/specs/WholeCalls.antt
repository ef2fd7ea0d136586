-- 15 of 16: a call that is made whole, with no call inside.
use Rattle.std.specs.Prelude.{◌≡◌, ℕ, ◌⊎◌, Bool, true, false, ◌&&◌, List, [], ◌∷◌, ◌++◌, Option, Some, None}
use Rattle.task_laws.specs.Machine.{Step}
use Rattle.task_laws.specs.Abstract.{Call, Frame, SegmentEnd, begin, go, follow, Move, Begin, Go}
use Rattle.task_laws.specs.Whole.{Whole, whole, whole_from, reading, read}

-- the call goes on to the next mark, or has ended
abbrev pub to_next : SegmentEnd → Option Frame → Bool → SegmentEnd
to_next l None answer = l
to_next l (Some f) answer = let next = go l.cell f answer in record next { told = next.told ++ l.told }

-- the call goes on with an answer of foreign code at each mark
abbrev pub alone : SegmentEnd → List Bool → SegmentEnd
alone l [] = l
alone l (answer ∷ answers) = alone (to_next l l.frame answer) answers

-- the moves of such a call, and whether it took all these answers
abbrev pub made : List Bool → List Move → List Move
made [] moves = moves
made (answer ∷ answers) moves = made answers (Go answer ∷ moves)

-- the call has not ended
abbrev pub is_some : Option Frame → Bool
is_some (Some f) = true
is_some None = false

-- whether the call asks for each of these answers
abbrev pub takes_all : SegmentEnd → List Bool → Bool
takes_all l [] = true
takes_all l (answer ∷ answers) = is_some l.frame && takes_all (to_next l l.frame answer) answers

-- a whole run, and what it goes on with: this call and no other, with these answers of foreign code
pub record MadeWhole (limit : ℕ) (steps more : List Step) (w v : Whole) (call : Call) (answers : List Bool) : Type 0 where
  pub before : whole limit steps ≡ Some w
  pub cut_before : w.cut ≡ true
  pub after : whole_from (Some w) more ≡ Some v
  pub cut_after : v.cut ≡ true
  pub moves : v.moves ≡ made answers (Begin call ∷ w.moves)
  -- where other calls are open below it, the last answers are the call's own
  pub its_own : (w.stack ≡ []) ⊎ (takes_all (begin limit (reading w.machine) call) answers ≡ true)

-- Wherever a whole run makes a call whole, with no call inside, it leads to the reading to which the abstract call leads.
abbrev pub WholeCallsAgree : Type 0
WholeCallsAgree = (limit : ℕ) (steps more : List Step) (w v : Whole) (call : Call) (answers : List Bool)
    → MadeWhole limit steps more w v call answers
    → read v ≡ follow (alone (begin limit (reading w.machine) call) answers) (read w).frames (read w).told
