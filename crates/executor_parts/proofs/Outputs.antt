-- What calls do to the outputs that the members of a group may come out with.
use Rattle.std.proofs.Common.{◌≡◌, ◌∙◌, ℕ, Option, Some, None, Result, Ok, Err, [], inl, inr, ap, sym, subst}
use Rattle.std.specs.Prelude.{IfOk, IfErr, IsSomeAnd, slice_index_or}
use Rattle.std.proofs.lemmas.Bool.{cases_eq}
use Rattle.slab.specs.Slab.{Slab, Updates, get}
use Rattle.task_core.specs.declared.traits.TaskPoll.{TaskPoll}
use Rattle.task_core.specs.declared.traits.TaskPoll.TheVariants.{Pending as Waits, Ready, Refused}
use Rattle.task_core.specs.declared.traits.Yields.{Ghosts}
use Rattle.task_cell.specs.PollPaths.{IfOutput}
use Rattle.async_task.specs.declared.task.TaskClosed.{TaskClosed}
use Rattle.async_task.specs.HandlePaths.{IfSomeOutput, fallible_answer}
use Rattle.executor_parts.specs.declared.ended.Ended.{Ended}
use Rattle.executor_parts.specs.declared.group.member.Member.{Member}
use Rattle.executor_parts.specs.declared.id.Entry.{Entry}
use Rattle.executor_parts.specs.Outputs.{MayGive, GivesNoMore, CameFrom, NoneGivesMore, GivesAlso}

-- what follows from each fact of a value follows where it is known of the value of an answer
pub if-ok : {T E : Type 0} {P Q : T → Type 0} (answer : Result T E) → IfOk answer P → ((value : T) → P value → Q value) → IfOk answer Q
if-ok (Ok value) told follows = follows value told
if-ok (Err error) told follows = tt

-- the same for the error of an answer
pub if-err : {T E : Type 0} {P Q : E → Type 0} (answer : Result T E) → IfErr answer P → ((error : E) → P error → Q error) → IfErr answer Q
if-err (Ok value) told follows = tt
if-err (Err error) told follows = follows error told

-- what is known of the output of a FallibleTask's answer holds of that of the Task's
pub of-fallible : {T E : Type 0} (P : T → Type 0) (polled : TaskPoll (Result T E)) → IfSomeOutput (fallible_answer polled) P → IfOutput polled P
of-fallible P (Ready (Ok output)) told = told
of-fallible P (Ready (Err closed)) told = tt
of-fallible P Waits told = tt
of-fallible P Refused told = tt

-- what a handle had answered is what a member has ended with
pub has-ended : {T E : Type 0} (answer own : Result T E) → answer ≡ own → IfOk answer (λ output. own ≡ Ok output)
has-ended (Ok output) own is = sym is
has-ended (Err closed) own is = tt

-- what was polled is what came out
pub settled-gives : {F O E : Type 0} {G : Ghosts F O} (P : O → Type 0) (result : Result (Ended F O G) E) (polled : TaskPoll (Result O TaskClosed)) → IfOutput polled P → IfOk result (λ ended. polled ≡ Ready ended.answer) → IfOk result (λ ended. IfOk ended.answer P)
settled-gives P result polled told settled = if-ok result settled (λ ended is. subst (λ poll. IfOutput poll P) is told)

module _ {R F Q M A X B O K L : Type 0} {G : Ghosts F O} where
  -- whether the member of this slot may give this output
  abbrev Gives : O → Option (Entry (Member R F Q M A X B O K L G)) → Type 0
  Gives output slot = IsSomeAnd slot (λ entry. MayGive entry.member output)

  -- a member leaves
  pub leaves-gives : (old new : Slab (Entry (Member R F Q M A X B O K L G))) (number : ℕ) → Updates old new number None → NoneGivesMore old new
  leaves-gives old new number left other output gives = elim (cases_eq other number) [
    | inl same ↦ absurd (subst (Gives output) (ap (get new) same ∙ left.changed) gives)
    | inr differs ↦ subst (Gives output) (left.others other differs) gives
  ]

  -- all members leave
  pub clear-gives : (old new : Slab (Entry (Member R F Q M A X B O K L G))) → new.slots ≡ [] → NoneGivesMore old new
  clear-gives old new cleared number output gives = absurd (subst (λ slots. Gives output (slice_index_or slots number None)) cleared gives)

  -- a member is taken out, and what has become of it put back under its number
  pub put-back-gives : (old mid new : Slab (Entry (Member R F Q M A X B O K L G))) (number key : ℕ) (out back : Entry (Member R F Q M A X B O K L G)) → get old number ≡ Some out → Updates old mid number None → key ≡ number → Updates mid new key (Some back) → GivesNoMore out.member back.member → NoneGivesMore old new
  put-back-gives old mid new number key out back was taken again put less other output gives = elim (cases_eq other key) [
    | inl here ↦ subst (Gives output) (sym (ap (get old) (here ∙ again) ∙ was)) (less output (subst (Gives output) (ap (get new) here ∙ put.changed) gives))
    | inr differs ↦ subst (Gives output) (put.others other differs ∙ taken.others other (λ e. differs (e ∙ sym again))) gives
  ]

  -- one joins
  pub joins-gives : (old new : Slab (Entry (Member R F Q M A X B O K L G))) (number : ℕ) (entry : Entry (Member R F Q M A X B O K L G)) (may : O → Type 0) → Updates old new number (Some entry) → ((output : O) → MayGive entry.member output → may output) → GivesAlso old new number may
  joins-gives old new number entry may put gives = record {
    joined = λ output given. gives output (subst (Gives output) put.changed given);
    others = λ other differs output given. subst (Gives output) (put.others other differs) given;
  }

  -- what a member has ended with came from the member of its number
  pub came-from : (members : Slab (Entry (Member R F Q M A X B O K L G))) (number : ℕ) (entry : Entry (Member R F Q M A X B O K L G)) (ended : Ended F O G) → get members number ≡ Some entry → ended.number ≡ number → IfOk ended.answer (MayGive entry.member) → CameFrom members ended
  came-from members number entry ended is same told = if-ok ended.answer told (λ output may. subst (Gives output) (sym (ap (get members) same ∙ is)) may)

  -- it came from what was there before
  pub came-before : (old mid : Slab (Entry (Member R F Q M A X B O K L G))) (ended : Ended F O G) → NoneGivesMore old mid → CameFrom mid ended → CameFrom old ended
  came-before old mid ended less told = if-ok ended.answer told (λ output. less ended.number output)

  -- an output of an ended member is one that the member before its end may give
  pub ended-gives : (member : Member R F Q M A X B O K L G) (ended : Ended F O G) → IfOk ended.answer (MayGive member) → (output : O) → ended.answer ≡ Ok output → MayGive member output
  ended-gives member ended told output is = subst (λ answer. IfOk answer (MayGive member)) is told
