-- What a step on the word does to the seat that makes it.
use Rattle.std.specs.Prelude.{◌≡◌, ℕ, Bool, true, false, not, ◌&&◌, ◌||◌, List, [], ◌∷◌, ◌++◌, map, Option, Some, None}
use Rattle.atomic_table.specs.Table.{Me, rest}
use Rattle.counted_block.specs.declared.place.Place.TheVariants.{First, Second}
use Rattle.task_core.specs.Word.{State, is_open}
use Rattle.task_laws.specs.declared.positions.Position.{Position}
use Rattle.task_laws.specs.declared.positions.Position.TheVariants.{At, OrphanHolder, Releaser, OldAwaiterInHand, Registered, OutputCloser}
use Rattle.task_laws.specs.declared.positions.Position.TheVariants.{TookOutput, Notifier}
use Rattle.task_laws.specs.declared.positions.Rest.TheVariants.{Lent}
use Rattle.task_laws.specs.declared.positions.NotifyingCall.TheVariants.{OfClaim}
use Rattle.task_core.specs.declared.acts.Act.{Act}
use Rattle.task_core.specs.Rows.{found, written}
use Rattle.task_laws.specs.Table.{Slots, Scene, Outcome, leaves_slots, outcome_at}
use Rattle.task_laws.specs.Holders.{owns_awaiter}
use Rattle.task_steps.specs.Values.{Values}
use Rattle.task_steps.specs.declared.kept.StoredAwaiter.{StoredAwaiter}
use Rattle.task_steps.specs.declared.table.Slot.{Slot}
use Rattle.task_steps.specs.declared.table.Deed.{Deed}
use Rattle.task_steps.specs.declared.table.Member.{Member}
use Rattle.task_steps.specs.declared.table.View.{View}
use Rattle.task_steps.specs.PollScripts.{has_ended}
use Rattle.task_steps.specs.Rule.{TaskPlace, deed, member, view, fresh, found_by, has_work, IsFuture, IsOutput, Waits}

-- the first party of a seat, which is the one that steps
abbrev pub head_of : List Member → Member
head_of [] = fresh OrphanHolder
head_of (u ∷ us) = u

-- the other parties of a seat
abbrev pub tail_of : List Member → List Member
tail_of [] = []
tail_of (u ∷ us) = us

-- one outcome, and then another
abbrev pub then_leaves : Outcome → Option Outcome → Option Outcome
then_leaves o None = None
then_leaves o (Some x) = Some (record { word = x.word; slots = x.slots; next = x.next; born = o.born ++ x.born; told = x.told ++ o.told })

-- a second outcome, by what the first one left
abbrev pub and_then : Option Outcome → (Outcome → Option Outcome) → Option Outcome
and_then None f = None
and_then (Some o) f = then_leaves o (f o)

-- what a party finds
abbrev pub spot : ℕ → State → Slots → Scene
spot limit w slots = record { limit = limit; word = w; slots = slots }

-- a lent waker has found a task that has a handle, where that was asked for
abbrev pub is_lent : Position → Bool
is_lent (At Lent) = true
is_lent _ = false

-- the word as a guard of the table reads it: for a lent waker it shows a handle
abbrev pub held_word : Position → State → State
held_word p w = record w { task = is_lent p || w.task }

-- what acts in a row leave, each by what the one before it left
abbrev pub leaves_by : ℕ → State → Slots → List Act → Position → Option Outcome
leaves_by limit w slots [] p = Some (leaves_slots (spot limit w slots) w p [] [])
leaves_by limit w slots (a ∷ more) p =
    and_then (outcome_at (spot limit (held_word p w) slots) (written a w) a p) (λ o. leaves_by limit o.word o.slots more o.next)

-- where the party stands then
abbrev pub next_of : Option Outcome → Position
next_of None = OrphanHolder
next_of (Some o) = o.next

-- the parties that were added
abbrev pub born_of : Option Outcome → List Position
born_of None = []
born_of (Some o) = o.born

-- the acts in a row find the words that their rows ask for
abbrev pub all_fit : ℕ → State → List Act → Bool
all_fit limit w [] = true
all_fit limit w (a ∷ more) = found limit a w && all_fit limit (written a w) more

-- the acts in a row, noted newest first, each with the word that it found
abbrev pub noted : State → List Act → List Deed → List Deed
noted w [] l = l
noted w (a ∷ more) l = noted (written a w) more (deed a (found_by a w) ∷ l)

-- the seat after its first party made these acts
abbrev pub acted : State → Slots → List Act → View → View
acted w slots acts v =
    let u = head_of v.members in let o = leaves_by v.limit w slots acts u.at in
    view v.limit (member (next_of o) (noted w acts u.deeds) ∷ (tail_of v.members ++ map fresh (born_of o)))

-- what a party finds in place 1, which it takes
abbrev pub Awaits : {A : Type 0} → Position → Option (StoredAwaiter A) → Type 0
Awaits (Releaser hand way) y = Waits hand y
Awaits (OldAwaiterInHand i old) y = Waits (Some old) y
Awaits (Registered i) y = Waits None y
Awaits _ y = (hand : Option ℕ) × Waits hand y

module _ {F T A : Type 0} where
  -- place 0 in front, with this value, before others
  abbrev pub work_first : Slot F T → List (ℕ × TaskPlace F T A) → List (ℕ × TaskPlace F T A)
  work_first y l = (0, First y) ∷ l

  -- place 1 in front, with this value, before others
  abbrev pub awaiter_first : Option (StoredAwaiter A) → List (ℕ × TaskPlace F T A) → List (ℕ × TaskPlace F T A)
  awaiter_first y l = (1, Second y) ∷ l

  -- place 0 is taken, with the future
  abbrev pub TakesFuture : Values F T → List (ℕ × TaskPlace F T A) → List (ℕ × TaskPlace F T A) → Type 0
  TakesFuture values l l' = (y : Slot F T) × IsFuture values y × (l' ≡ work_first y l)

  -- place 0 is taken, with the output
  abbrev pub TakesOutput : Values F T → List (ℕ × TaskPlace F T A) → List (ℕ × TaskPlace F T A) → Type 0
  TakesOutput values l l' = (y : Slot F T) × IsOutput values y × (l' ≡ work_first y l)

  -- for which of the two a party takes it
  abbrev pub Works : Values F T → Position → List (ℕ × TaskPlace F T A) → List (ℕ × TaskPlace F T A) → Type 0
  Works values OutputCloser l l' = TakesOutput values l l'
  Works values (TookOutput n) l l' = TakesOutput values l l'
  Works values (Notifier (OfClaim n)) l l' = TakesOutput values l l'
  Works values _ l l' = TakesFuture values l l'

  -- the places that a party has before and after a step, by whether it has each
  abbrev pub Carries : Values F T → Bool → Bool → Bool → Bool → Position → List (ℕ × TaskPlace F T A) → List (ℕ × TaskPlace F T A) → Type 0
  Carries values false true b c q l l' = Works values q l l'
  Carries values true false b c q l l' = l' ≡ rest l
  Carries values false false false true q l l' = (y : Option (StoredAwaiter A)) × Awaits q y × (l' ≡ awaiter_first y l)
  Carries values true true false true q l l' = (y : Option (StoredAwaiter A)) × Awaits q y × (l' ≡ awaiter_first y l)
  Carries values false false true false q l l' = l' ≡ rest l
  Carries values true true true false q l l' = l' ≡ rest l
  Carries values _ _ _ _ q l l' = l' ≡ l

  -- the places that a party has before and after a step, by where it stands
  abbrev pub Carried : Values F T → Position → Position → List (ℕ × TaskPlace F T A) → List (ℕ × TaskPlace F T A) → Type 0
  Carried values p q l l' = Carries values (has_work p) (has_work q) (owns_awaiter p) (owns_awaiter q) q l l'

  -- the seat made these acts, at this word, which fits them
  pub record Makes (values : Values F T) (acts : List Act) (w : State) (m m' : Me (TaskPlace F T A) View) : Type 0 where
    pub slots : Slots
    pub fits : all_fit m.0.limit w acts ≡ true
    pub viewed : m'.0 ≡ acted w slots acts m.0
    pub carried : Carried values (head_of m.0.members).at (head_of m'.0.members).at m.1 m'.1

-- the word that an act left, where it found one, is such a one
abbrev pub leaves_such : (State → Bool) → Act → Option State → Bool
leaves_such test a None = false
leaves_such test a (Some w) = test (written a w)

-- the word that one of these deeds left is such a one
abbrev pub saw : (State → Bool) → List Deed → Bool
saw test [] = false
saw test (d ∷ earlier) = leaves_such test d.act d.found || saw test earlier

-- the party has seen the task completed or closed, or made it so
abbrev pub saw_over : List Deed → Bool
saw_over ds = saw (λ w. not (is_open w)) ds

-- the party has seen the task closed, or has closed it
abbrev pub saw_closed : List Deed → Bool
saw_closed ds = saw (λ w. w.closed) ds

-- the party has seen the task closed, and without a Runnable or run that has the future
abbrev pub saw_ended : List Deed → Bool
saw_ended ds = saw has_ended ds
