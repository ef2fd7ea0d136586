-- An open task at rest without a waker, computed: its future kept none, and its Task is all that is left.
use Rattle.std.specs.Prelude.{◌≡◌, Bool, true, false, ◌&&◌, nat_eq, List, [], ◌∷◌, Option, Some, None, refl}
use Rattle.task_progress.proofs.Vocabulary.{is_open, number_of, StartRun, StartPoll, AnswerPending, EndIdle, EndCall, Machine, Step, run, how_many}
use Rattle.task_progress.proofs.Vocabulary.{is_waker}
use Rattle.task_progress.specs.StepsLeft.{total, in_call}
use Rattle.task_progress.specs.Ending.{alone}
use Rattle.task_progress.specs.AtRest.{is_runnable}

-- the first run, whose poll answers Pending
abbrev one_run : List Step
one_run = alone 0 (StartRun ∷ StartPoll ∷ AnswerPending ∷ EndIdle ∷ EndCall ∷ [])

abbrev has_none : Machine → Bool
has_none m = is_open m.word && nat_eq (total in_call m.parties) 0 && nat_eq (how_many is_runnable m.parties) 0 && nat_eq (how_many is_waker m.parties) 0

abbrev is_left : Option Machine → Bool
is_left None = false
is_left (Some m) = has_none m && nat_eq (number_of m.word) 0x010

open_without_waker : is_left (run 4 one_run) ≡ true
open_without_waker = refl
