-- How the parties of a seat go to other seats.
use Rattle.std.specs.Prelude.{Bool, true, false, List, [], ◌∷◌, None}
use Rattle.task_laws.specs.declared.positions.Position.{Position}
use Rattle.task_laws.specs.declared.positions.Position.TheVariants.{At}
use Rattle.task_laws.specs.declared.positions.Rest.TheVariants.{Runnable, Ended, Lent}
use Rattle.task_core.specs.declared.acts.Act.TheVariants.{HandOver}
use Rattle.task_steps.specs.declared.table.Deed.{Deed}
use Rattle.task_steps.specs.declared.table.Member.{Member}
use Rattle.task_steps.specs.declared.table.View.{View}
use Rattle.task_steps.specs.Rule.{deed, member, view, fresh}
use Rattle.task_steps.specs.Steps.{head_of, tail_of}
use Rattle.task_steps.specs.Standing.{handed_over}

-- the first party has handed its Runnable over
abbrev pub handing_over : View → View
handing_over v =
    view v.limit (member (handed_over (head_of v.members).at) (deed HandOver None ∷ (head_of v.members).deeds) ∷ tail_of v.members)

-- the Runnable that was handed over, on a seat of its own
abbrev pub runnable_of : View → View
runnable_of v = view v.limit (fresh (At Runnable) ∷ [])

-- nobody needs a party any more that stands there and did that: it has ended, or was lent for a call, and has made one
abbrev pub needs_nobody : Position → List Deed → Bool
needs_nobody (At Ended) deeds = true
needs_nobody (At Lent) (newest ∷ older) = true
needs_nobody at deeds = false

-- nobody will step with the seat again: it has one party at most, which may be let go
abbrev pub is_spent : View → Bool
is_spent v = none_left v.members
  where
    none_left : List Member → Bool
    none_left [] = true
    none_left (u ∷ []) = needs_nobody u.at u.deeds
    none_left (u ∷ w ∷ us) = false
