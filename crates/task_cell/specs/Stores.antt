-- What the clone of a poll's awaiter comes to that is put into the awaiter slot.
use Rattle.std.specs.Prelude.{◌≡◌, ℕ, List, [], ◌∷◌, Option, Some, Ok}
use Rattle.task_core.specs.Word.{State}
use Rattle.task_core.specs.declared.acts.Act.TheVariants.{EndRegister}
use Rattle.task_core.specs.declared.traits.Wake.{Ghosts}
use Rattle.task_laws.specs.declared.positions.Position.{Position}
use Rattle.task_laws.specs.declared.positions.Position.TheVariants.{Registered}
use Rattle.task_laws.specs.Table.{after_storing}
use Rattle.task_steps.specs.declared.places.Held.{Held}
use Rattle.task_steps.specs.declared.kept.StoredAwaiter.{StoredAwaiter}
use Rattle.task_steps.specs.declared.table.Deed.{Deed}
use Rattle.task_steps.specs.Deeds.{row}
use Rattle.task_steps.specs.Held.{held}
use Rattle.task_steps.specs.Rule.{Waits}
use Rattle.task_steps.specs.Standing.{poll_number}
use Rattle.task_steps.specs.Stored.{stored_by}
use Rattle.task_cell.specs.declared.cell.Party.{Party}
use Rattle.task_cell.specs.Calls.{Did, DidWith, position}
use Rattle.task_steps.specs.Steps.{awaiter_first}

module _ {F T A : Type 0} where
  -- the clone is put in, and an older awaiter that stood there is in hand: the one that the poll of this number has stored
  abbrev pub PutsClone : ℕ → Option ℕ → StoredAwaiter A → Party F T A → Party F T A → Option (Held (StoredAwaiter A)) → Type 0
  PutsClone i hand clone p q stood = Waits hand (held stood) × DidWith [] (after_storing i hand) (awaiter_first (Some clone) []) p q

  -- the poll of this number has given the slot back with this awaiter in it
  pub record GivesBack (i : ℕ) (stored : StoredAwaiter A) (p q : Party F T A) : Type 0 where
    pub before : List Deed
    pub between : Party F T A
    pub word : State
    pub after : List Deed
    pub at : Position
    pub number : stored_by stored ≡ i
    pub has : DidWith before (Registered i) (awaiter_first (Some stored) []) p between
    pub gives : Did (row EndRegister word ∷ after) at between q

-- the poll has stored a clone of the awaiter that it was lent, as its type says, under its own number
abbrev pub StoresClone : {F T A K : Type 0} (G : Ghosts A K) → A → Party F T A → Party F T A → Type 0
StoresClone {A = A} {K = K} G lent p q =
    (stored : StoredAwaiter A) × G.cloned lent (Ok stored.awaiter) × GivesBack (poll_number (position p)) stored p q

-- what a poll has done for the awaiter that it was lent, before it answers Pending
pub data Registration {F T A K : Type 0} (G : Ghosts A K) (lent : A) (p q : Party F T A) : Type 0 where
  is_stored : StoresClone G lent p q → Registration G lent p q
  is_woken : (told : K) → G.woken_by_ref lent told → Registration G lent p q
  clone_is_woken : (clone : A) (told : K) → G.cloned lent (Ok clone) → G.woken clone told → Registration G lent p q
