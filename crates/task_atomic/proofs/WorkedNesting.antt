-- A future whose drop gives back a waker of its own task, in the run that answers Ready: the interleaving is a whole run where the drop was written down
-- before that call, and is none where it was written down after it.
use Rattle.std.proofs.Common.{◌≡◌, ℕ, true, false, List, [], ◌∷◌, Option, Some, None, refl}
use Rattle.task_core.specs.declared.acts.Act.{Act}
use Rattle.task_core.specs.declared.acts.Act.TheVariants.{GainReference, DropWaker, GiveUpReference, StartRun, Complete, Look, StartPoll, AnswerReady}
use Rattle.task_core.specs.declared.acts.Act.TheVariants.{DropFuture, StoreOutput, EndCall}
use Rattle.task_laws.specs.Abstract.{all_moved}
use Rattle.task_laws.specs.Whole.{Whole, whole, read}
use Rattle.task_steps.specs.Deeds.{act}
use Rattle.task_steps.specs.Rule.{Entry, steps_of}
use Rattle.task_atomic.specs.Nesting.{calls_nest}

-- one call after another, at this number of parties; the newest act stands first, and what a row found does not matter here
abbrev does : ℕ → ℕ → List Act → List Entry → List Entry
does parties k [] log = log
does parties k (a ∷ acts) log = record { party = k; deed = act a; parties = parties } ∷ does parties k acts log

-- the poll of a run, in which a waker is gained: party 4
abbrev polled : List Entry
polled = does 5 3 (EndCall ∷ []) (does 4 3 (GainReference ∷ []) (does 3 2 (Look ∷ []) (does 3 0 (StartPoll ∷ StartRun ∷ []) [])))

abbrev given_back : List Entry → List Entry
given_back log = does 5 4 (EndCall ∷ DropWaker ∷ []) log

abbrev noted_before : List Entry
noted_before = does 5 0 (EndCall ∷ GiveUpReference ∷ Complete ∷ StoreOutput ∷ []) (given_back (does 5 0 (DropFuture ∷ AnswerReady ∷ []) polled))

abbrev noted_after : List Entry
noted_after = does 5 0 (EndCall ∷ GiveUpReference ∷ Complete ∷ StoreOutput ∷ DropFuture ∷ []) (given_back (does 5 0 (AnswerReady ∷ []) polled))

abbrev Agrees : Option Whole → Type 0
Agrees None = ⊥
Agrees (Some w) = all_moved 1000 w.moves ≡ Some (read w)

before_nests : calls_nest noted_before ≡ true
before_nests = refl

before_is_whole : Agrees (whole 1000 (steps_of noted_before))
before_is_whole = refl

after_does_not_nest : calls_nest noted_after ≡ false
after_does_not_nest = refl

after_is_not_whole : whole 1000 (steps_of noted_after) ≡ None
after_is_not_whole = refl
