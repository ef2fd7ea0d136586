-- A call that is made whole leads where the abstract call leads.
use Rattle.std.proofs.Common.{◌≡◌, ℕ, ◌⊎◌, inl, inr, Bool, true, List, [], ◌∷◌, ◌++◌, Option, Some, None, refl, sym, ap, ◌∙◌, append_assoc}
use Rattle.task_laws.proofs.Vocabulary.{Event, Step, opening, step, AbstractCell, Frame, Abstract, Move, Begin, Go, begin, go, follow, put, then_moved, all_moved, Whole, whole_from, stepped, reading, frames, read, alone, made, takes_all}
use Rattle.task_laws.proofs.Vocabulary.{WholeCallsAgree}
use Rattle.std.specs.Prelude.{slice_get}
use Rattle.task_laws.proofs.Reading.{whole_runs_agree}

-- first one list of steps, then another
whole_append : (w : Option Whole) (steps more : List Step) → whole_from w (steps ++ more) ≡ whole_from (whole_from w steps) more
whole_append w [] more = refl
whole_append None (s ∷ steps) [] = refl
whole_append None (s ∷ steps) (s2 ∷ more) = refl
whole_append (Some w) (s ∷ steps) more = whole_append (stepped w s (slice_get w.machine.parties s.party) (step w.machine s)) steps more

-- the moves of a call, over those before it
goes_alone : (limit : ℕ) (below : List Frame) (earlier : List Event) (moves : List Move) (cell : AbstractCell) (told : List Event) (frame : Option Frame) (answers : List Bool)
    → all_moved limit moves ≡ Some (record { cell = cell; frames = put frame below; told = told ++ earlier }) → takes_all (record { cell = cell; told = told; frame = frame }) answers ≡ true
    → all_moved limit (made answers moves) ≡ Some (follow (alone (record { cell = cell; told = told; frame = frame }) answers) below earlier)
goes_alone limit below earlier moves cell told frame [] so_far takes = so_far
goes_alone limit below earlier moves cell told None (answer ∷ answers) so_far takes = cc
goes_alone limit below earlier moves cell told (Some f) (answer ∷ answers) so_far takes =
    let next = go cell f answer in
    goes_alone limit below earlier (Go answer ∷ moves) next.cell (next.told ++ told) next.frame answers
    (ap (λ (x : Option Abstract). then_moved limit x (Go answer)) so_far ∙ ap (λ (events : List Event). Some (record { cell = next.cell; frames = put next.frame below; told = events })) (sym (append_assoc next.told told earlier))) takes

-- nothing leads on from a move that was refused
none_made : (limit : ℕ) (moves : List Move) (answers : List Bool) → all_moved limit moves ≡ None → all_moved limit (made answers moves) ≡ None
none_made limit moves [] none = none
none_made limit moves (answer ∷ answers) none = none_made limit (Go answer ∷ moves) answers (ap (λ (x : Option Abstract). then_moved limit x (Go answer)) none)

-- where no call is open below it, a call that has ended goes on with nothing
takes_its_own : (limit : ℕ) (earlier : List Event) (moves : List Move) (cell : AbstractCell) (told : List Event) (frame : Option Frame) (answers : List Bool) (a : Abstract)
    → all_moved limit moves ≡ Some (record { cell = cell; frames = put frame []; told = told ++ earlier }) → all_moved limit (made answers moves) ≡ Some a → takes_all (record { cell = cell; told = told; frame = frame }) answers ≡ true
takes_its_own limit earlier moves cell told frame [] a so_far reached = refl
takes_its_own limit earlier moves cell told None (answer ∷ answers) a so_far reached =
    let none = none_made limit (Go answer ∷ moves) answers (ap (λ (x : Option Abstract). then_moved limit x (Go answer)) so_far) in cc
takes_its_own limit earlier moves cell told (Some f) (answer ∷ answers) a so_far reached =
    let next = go cell f answer in
    takes_its_own limit earlier (Go answer ∷ moves) next.cell (next.told ++ told) next.frame answers a
    (ap (λ (x : Option Abstract). then_moved limit x (Go answer)) so_far ∙ ap (λ (events : List Event). Some (record { cell = next.cell; frames = put next.frame []; told = events })) (sym (append_assoc next.told told earlier))) reached

only : {A : Type 0} (x y : A) → Some x ≡ Some y → x ≡ y
only x y same = cc

pub whole_calls_agree : WholeCallsAgree
whole_calls_agree limit steps more w v call answers m =
    let first = begin limit (reading w.machine) call in
    let before = whole_runs_agree limit steps w m.before m.cut_before in
    let begun = ap (λ (x : Option Abstract). then_moved limit x (Begin call)) before in
    let after = whole_runs_agree limit (steps ++ more) v (whole_append (Some (record { machine = opening limit; stack = []; cut = true; moves = [] })) steps more ∙ (ap (λ (x : Option Whole). whole_from x more) m.before ∙ m.after)) m.cut_after in
    let reached = sym (ap (all_moved limit) m.moves) ∙ after in
    let call_made = goes_alone limit (read w).frames (read w).told (Begin call ∷ w.moves) first.cell first.told first.frame answers begun (taken m.its_own begun reached) in
    only (read v) (follow (alone first answers) (read w).frames (read w).told) (sym after ∙ (ap (all_moved limit) m.moves ∙ call_made))
  where
    taken : (w.stack ≡ []) ⊎ (takes_all (begin limit (reading w.machine) call) answers ≡ true)
        → all_moved limit (Begin call ∷ w.moves) ≡ Some (follow (begin limit (reading w.machine) call) (read w).frames (read w).told)
        → all_moved limit (made answers (Begin call ∷ w.moves)) ≡ Some (read v) → takes_all (begin limit (reading w.machine) call) answers ≡ true
    taken (inr takes) begun reached = takes
    taken (inl none_open) begun reached =
        let first = begin limit (reading w.machine) call in
        takes_its_own limit (read w).told (Begin call ∷ w.moves) first.cell first.told first.frame answers (read v)
        (begun ∙ ap (λ (stack : List ℕ). Some (follow first (frames w.machine.parties stack) (read w).told)) none_open) reached
