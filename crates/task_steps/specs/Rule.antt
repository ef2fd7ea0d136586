-- The rule of the table: an interleaving of the machine ends in the present word, each party of a seat did in it what the seat knows, each value in place 0 comes from the future that was spawned, and the awaiter in place 1 is the one that the poll stored whose number the machine has.
use Rattle.std.specs.Prelude.{◌≡◌, ◌≢◌, ℕ, ◌+◌, ◌<◌, ◌≤◌, Bool, true, false, not, ◌&&◌, ◌||◌, cond, eqb, nat_lt, is_none, List, [], ◌∷◌, ◌++◌, length, slice_index}
use Rattle.std.specs.Prelude.{Option, Some, None}
use mathlib.Core.Option.{some}
use mathlib.Core.Option as maybe
use lib.ListN.{get_elem?}
use Rattle.atomic_table.specs.Table.{State as Board}
use Rattle.counted_block.specs.declared.place.Place.{Place}
use Rattle.counted_block.specs.declared.place.Place.TheVariants.{First, Second}
use Rattle.task_core.specs.Word.{State, bit, number_of}
use Rattle.task_core.specs.Rows.{written, row_of}
use Rattle.task_laws.specs.declared.positions.Rest.TheVariants.{Runnable, Task, Lent}
use Rattle.task_laws.specs.declared.positions.Position.{Position}
use Rattle.task_laws.specs.declared.positions.NotifyingCall.TheVariants.{OfClaim}
use Rattle.task_laws.specs.declared.positions.Position.TheVariants.{At, Starting, Polling, Pending, Ready, ReadyFutureDropped, OutputStored}
use Rattle.task_laws.specs.declared.positions.Position.TheVariants.{PendingFutureDropped, FutureInHand, FutureGone, OutputInHand, Notifier}
use Rattle.task_laws.specs.declared.positions.Position.TheVariants.{Taker, Releaser, AwaiterInHand, TookOutput, OutputCloser}
use Rattle.task_core.specs.declared.acts.Act.{Act}
use Rattle.task_core.specs.declared.acts.Act.TheVariants.{Look, LookFinished}
use Rattle.task_laws.specs.Machine.{Machine, Step, opening, step, how_many}
use Rattle.task_laws.specs.Holders.{owns_awaiter}
use Rattle.task_steps.specs.declared.table.Slot.{Slot}
use Rattle.task_steps.specs.declared.table.Slot.TheVariants.{Empty, Future, Output}
use Rattle.task_steps.specs.Values.{Values}
use Rattle.task_steps.specs.declared.kept.StoredAwaiter.{StoredAwaiter}
use Rattle.task_steps.specs.Stored.{stored_by}
use Rattle.task_steps.specs.declared.table.Deed.{Deed}
use Rattle.task_steps.specs.declared.table.Tries.{Tries}
use Rattle.task_steps.specs.declared.table.Member.{Member}
use Rattle.task_steps.specs.declared.table.View.{View}

-- an act, and the word that it found, unless it is private
abbrev pub deed : Act → Option State → Deed
deed a f = record { act = a; found = f }

-- a party that tries to change the word, and has seen this since its last act; and one that tries nothing
abbrev pub trying : Position → List Deed → Option Tries → Member
trying p l t = record { at = p; deeds = l; tries = t }

-- a party that tries no change
abbrev pub member : Position → List Deed → Member
member p l = trying p l None

-- a party of which no deed is known
abbrev pub fresh : Position → Member
fresh p = member p []

-- a seat, by the limit of references and its parties
abbrev pub view : ℕ → List Member → View
view l ms = record { limit = l; members = ms }

-- the opening seat: the Runnable and the Task
abbrev pub opening_view : ℕ → View
opening_view l = view l (fresh (At Runnable) ∷ fresh (At (Task 0)) ∷ [])

-- the party that is no seat's: it lends its waker to each call by reference
abbrev pub lender : ℕ
lender = 2

-- neither a row nor a load
abbrev pub is_private : Act → Bool
is_private act = is_none (row_of act) && not (is_load act)
  where
    is_load : Act → Bool
    is_load Look = true
    is_load LookFinished = true
    is_load _ = false

-- what a deed says of the word that it found
abbrev pub found_by : Act → State → Option State
found_by a w = cond (is_private a) None (Some w)

-- one step of an interleaving: who made it, what it did, and how many parties there were before it
pub record Entry : Type 0 where
  pub party : ℕ
  pub deed : Deed
  pub parties : ℕ

-- an interleaving of the machine, the newest step first, that ends in m
abbrev pub Reaches : ℕ → List Entry → Machine → Type 0
Reaches limit [] m = m ≡ opening limit
Reaches limit (e ∷ earlier) m =
    (n : Machine) × Reaches limit earlier n × (e.deed.found ≡ found_by e.deed.act n.word)
    × (step n (record { party = e.party; act = e.deed.act }) ≡ Some m) × (e.parties ≡ length n.parties)

-- the steps of an interleaving, the oldest first
abbrev pub steps_of : List Entry → List Step
steps_of [] = []
steps_of (e ∷ earlier) = steps_of earlier ++ record { party = e.party; act = e.deed.act } ∷ []

-- a deed before others, where this is so
abbrev pub noted_if : Bool → Deed → List Deed → List Deed
noted_if true d l = d ∷ l
noted_if false d l = l

-- what party k did in an interleaving, newest first
abbrev pub deeds_of : ℕ → List Entry → List Deed
deeds_of k [] = []
deeds_of k (e ∷ earlier) = noted_if (eqb e.party k) e.deed (deeds_of k earlier)

-- what party k did last in it, newest first: these deeds, and no other since the first of them
abbrev pub DidLast : ℕ → List Entry → List Deed → Type 0
DidLast k log ds = (older : List Deed) × (deeds_of k log ≡ ds ++ older)

-- whether two words differ
abbrev pub differ : State → State → Bool
differ v w = not (eqb (number_of v) (number_of w))

-- an act writes where it leaves another word than it found
abbrev pub writes : Act → Option State → Bool
writes a None = false
writes a (Some w) = differ w (written a w)

-- how often others have written since the last act of party k, or since the step that made it
abbrev pub written_since : ℕ → List Entry → ℕ
written_since k [] = 0
written_since k (e ∷ earlier) = cond (eqb e.party k || not (nat_lt k e.parties)) 0 (bit (writes e.deed.act e.deed.found) + written_since k earlier)

-- each miss of party k since its last act, or since it was made, has met another write of another party
abbrev pub Tried : ℕ → List Entry → State → Option Tries → Type 0
Tried k log w None = Unit {0}
Tried k log w (Some t) = t.misses + bit (differ t.seen w) ≤ written_since k log

-- in this interleaving party k did last what is known of it, and it is this member of this seat
pub record IsParty (m : Machine) (log : List Entry) (holder : ℕ → ℕ × ℕ) (seat index : ℕ) (u : Member) (k : ℕ) : Type 0 where
  pub seated : holder k ≡ (seat, index)
  pub apart : k ≢ lender
  pub at : get_elem? m.parties k ≡ some u.at
  pub did : DidLast k log u.deeds
  pub tried : Tried k log m.word u.tries

-- an interleaving in which, under some numbering, each party of a seat did what the seat knows, and the lender is at rest
pub record Explains (limit : ℕ) (views : List View) (log : List Entry) (m : Machine) : Type 0 where
  pub holder : ℕ → ℕ × ℕ
  pub reaches : Reaches limit log m
  pub lends : get_elem? m.parties lender ≡ some (At Lent)
  pub limited : (seat index : ℕ) (v : View) (u : Member) → get_elem? views seat ≡ some v → get_elem? v.members index ≡ some u
      → v.limit ≡ limit
  pub each : (seat index : ℕ) (v : View) (u : Member) → get_elem? views seat ≡ some v → get_elem? v.members index ≡ some u
      → (k : ℕ) × IsParty m log holder seat index u k

-- the party has place 0, the place of the work
abbrev pub has_work : Position → Bool
has_work Starting = true
has_work Polling = true
has_work Pending = true
has_work Ready = true
has_work ReadyFutureDropped = true
has_work OutputStored = true
has_work PendingFutureDropped = true
has_work (FutureInHand closer) = true
has_work (FutureGone closer) = true
has_work (OutputInHand due) = true
has_work OutputCloser = true
has_work (TookOutput n) = true
has_work (Notifier (OfClaim n)) = true
has_work (Taker (OfClaim n)) = true
has_work (Releaser hand (OfClaim n)) = true
has_work (AwaiterInHand i (OfClaim n)) = true
has_work _ = false

-- what lies in a place: in place 0 nothing, the future or the output, and in place 1 an awaiter that a poll has stored, or none
abbrev pub TaskPlace : Type 0 → Type 0 → Type 0 → Type 0
TaskPlace F T A = Place (Slot F T) (Option (StoredAwaiter A))

-- nothing lies in place 0
abbrev pub IsEmpty : {F T : Type 0} → Slot F T → Type 0
IsEmpty Empty = Unit {0}
IsEmpty (Future f) = ⊥
IsEmpty (Output x) = ⊥

module _ {F T : Type 0} (values : Values F T) where
  -- the future lies in place 0
  abbrev pub IsFuture : Slot F T → Type 0
  IsFuture (Future f) = values.future f
  IsFuture Empty = ⊥
  IsFuture (Output x) = ⊥

  -- the output lies in place 0
  abbrev pub IsOutput : Slot F T → Type 0
  IsOutput (Output x) = values.output x
  IsOutput Empty = ⊥
  IsOutput (Future f) = ⊥

  -- what lies in place 0, where the machine has a future, or an output; it never has both, by `never_both` of task_laws
  abbrev pub Lies : Bool → Bool → Slot F T → Type 0
  Lies true output y = IsFuture y
  Lies false true y = IsOutput y
  Lies false false y = IsEmpty y

-- the awaiter slot holds what the machine says: the awaiter that the poll of this number has stored
abbrev pub Waits : {A : Type 0} → Option ℕ → Option (StoredAwaiter A) → Type 0
Waits None None = Unit {0}
Waits (Some i) (Some a) = stored_by a ≡ i
Waits None (Some a) = ⊥
Waits (Some i) None = ⊥

module _ {F T A : Type 0} where
  -- place 0 is at home, with such a value
  abbrev pub WorkAtHome : List (maybe.Option (TaskPlace F T A)) → (Slot F T → Type 0) → Type 0
  WorkAtHome homes Is = (y : Slot F T) × (get_elem? homes 0 ≡ some (some (First y))) × Is y

  -- place 1 is
  abbrev pub AwaiterAtHome : List (maybe.Option (TaskPlace F T A)) → (Option (StoredAwaiter A) → Type 0) → Type 0
  AwaiterAtHome homes Is = (y : Option (StoredAwaiter A)) × (get_elem? homes 1 ≡ some (some (Second y))) × Is y

  -- a place that no party has is at home, with what the machine says
  pub record HomesAgree (values : Values F T) (m : Machine) (homes : List (maybe.Option (TaskPlace F T A))) : Type 0 where
    pub work : how_many has_work m.parties ≡ 0 → WorkAtHome homes (Lies values m.slots.future m.slots.output)
    pub awaiter : how_many owns_awaiter m.parties ≡ 0 → AwaiterAtHome homes (Waits m.slots.awaiter)

  -- an interleaving of the machine
  pub record Running (values : Values F T) (limit : ℕ) (s : Board (TaskPlace F T A) View) : Type 0 where
    pub log : List Entry
    pub machine : Machine
    pub limited : machine.limit ≡ limit
    pub told : Explains limit s.views log machine
    pub wide : length s.words ≡ 1
    pub word_is : slice_index s.words 0 ≡ number_of machine.word
    pub housed : HomesAgree values machine s.homes

  -- the rule of a cell: its limit is below 2 ^ 55, and an interleaving explains its word, its places and its seats
  pub record RuleHolds (values : Values F T) (limit : ℕ) (s : Board (TaskPlace F T A) View) : Type 0 where
    pub capped : limit < 36028797018963968
    pub running : Running values limit s
