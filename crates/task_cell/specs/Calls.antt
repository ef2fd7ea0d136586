-- What a call of the cell asks of its party, and says of it.
use Rattle.std.specs.Prelude.{◌≡◌, ℕ, List, [], ◌∷◌, Bool, true, false, not, Option, Some, None}
use Rattle.atomic_table.specs.Table.{Me, Allows, Splits}
use Rattle.counted_block.specs.Counts.{Same, More, Less, Notes}
use Rattle.task_core.specs.Word.{HasRoom, State, state_of}
use Rattle.task_core.specs.Rows.{found}
use Rattle.task_core.specs.declared.acts.Act.{Act}
use Rattle.task_laws.specs.declared.positions.NotifyingCall.{NotifyingCall}
use Rattle.task_laws.specs.declared.positions.Position.{Position}
use Rattle.task_laws.specs.declared.positions.Position.TheVariants.{Releaser}
use Rattle.task_core.specs.declared.acts.Act.TheVariants.{MissNotify, BeginNotify, TakeAwaiter, EndNotify}
use Rattle.task_laws.specs.Table.{after_taking}
use Rattle.task_steps.specs.declared.places.Held.{Held}
use Rattle.task_steps.specs.declared.kept.StoredAwaiter.{StoredAwaiter}
use Rattle.task_steps.specs.Held.{held as in_hands}
use Rattle.task_steps.specs.Stored.{stored_by}
use Rattle.task_steps.specs.declared.table.Deed.{Deed}
use Rattle.task_steps.specs.declared.table.View.{View}
use Rattle.task_cell.specs.declared.cell.Party.{Party}
use Rattle.task_steps.specs.Values.{Values}
use Rattle.task_steps.specs.Rule.{member, view, fresh, RuleHolds, Waits, TaskPlace}
use Rattle.task_steps.specs.Deeds.{row, act, after}
use Rattle.task_steps.specs.Standing.{way_of}
use Rattle.task_steps.specs.Steps.{head_of, Makes, awaiter_first}
use Rattle.task_steps.specs.Knows.{Knows}
use Rattle.task_steps.specs.Attempts.{HasSeen}
use Rattle.task_steps.specs.Shares.{shares_out}

-- the table has the row for this word; no limit is asked for
abbrev pub Fits : Act → State → Type 0
Fits a w = found 0 a w ≡ true

module _ {F T A : Type 0} where
  -- what the party has done, the newest first
  abbrev pub deeds : Party F T A → List Deed
  deeds p = (head_of p.seat.me.0.members).deeds

  -- where the party stands
  abbrev pub position : Party F T A → Position
  position p = (head_of p.seat.me.0.members).at

  -- the places of the table that the party has, each with its value
  abbrev pub places_of : Party F T A → List (ℕ × TaskPlace F T A)
  places_of p = p.seat.me.1

  -- the limit of references, as the party's seat knows it
  abbrev pub limit_of : Party F T A → ℕ
  limit_of p = p.seat.me.0.limit

  -- the party is alone on its seat, stands here and has these places
  abbrev pub StandsWith : Position → List (ℕ × TaskPlace F T A) → Party F T A → Type 0
  StandsWith at held p = p.seat.me ≡ (view (limit_of p) (member at (deeds p) ∷ []), held)

  -- the party is alone on its seat, stands here, and has no place
  abbrev pub Stands : Position → Party F T A → Type 0
  Stands at p = StandsWith at [] p

  -- the rule allows a seat to write this number in the place of the one that it finds, and to go on like this
  abbrev pub MayWrite : Values F T → ℕ → ℕ → Me (TaskPlace F T A) View → (ℕ → ℕ) → (ℕ → Me (TaskPlace F T A) View → Type 0) → Type 0
  MayWrite values limit id me write then = Allows (RuleHolds {A = A} values limit) 2 id me 0 write then

  -- the write leaves as many shares out
  abbrev pub KeepsShares : Values F T → ℕ → ℕ → Me (TaskPlace F T A) View → (ℕ → ℕ) → Type 0
  KeepsShares values limit id me write = Same (RuleHolds {A = A} values limit) shares_out id me.0 write

  -- the step brings a share where this says so
  abbrev pub BringsShare : Values F T → ℕ → ℕ → Me (TaskPlace F T A) View → (ℕ → ℕ) → (ℕ → Bool) → Type 0
  BringsShare values limit id me write counts = More (RuleHolds {A = A} values limit) shares_out id me.0 write counts

  -- the step ends a share where this says so, and the last one where that does
  abbrev pub EndsShare : Values F T → ℕ → ℕ → Me (TaskPlace F T A) View → (ℕ → ℕ) → (ℕ → Bool) → (ℕ → Bool) → Type 0
  EndsShare values limit id me write counts lasts = Less (RuleHolds {A = A} values limit) shares_out id me.0 write counts lasts

  -- the party has made these acts by the word that was found, of which it knows what it has seen before
  abbrev pub HasActed : Values F T → (State → List Act) → Party F T A → ℕ → Me (TaskPlace F T A) View → Type 0
  HasActed values acts p n me = Makes values (acts (state_of n)) (state_of n) p.seat.me me × Knows (deeds p) (state_of n)

  -- the rule allows the party these acts
  abbrev pub MayAct : Values F T → ℕ → (State → List Act) → (ℕ → ℕ) → Party F T A → Type 0
  MayAct values limit acts write p = MayWrite values limit p.seat.id p.seat.me write (HasActed values acts p)

  -- the rule allows the party these acts, which leave as many shares out
  abbrev pub MayMake : Values F T → ℕ → (State → List Act) → (ℕ → ℕ) → Party F T A → Type 0
  MayMake values limit acts write p = MayAct values limit acts write p × KeepsShares values limit p.seat.id p.seat.me write

  -- the rule allows the party acts by which it gives a handle up, the last one unless this says that others are left
  abbrev pub MayGiveUp : Values F T → ℕ → (State → List Act) → (State → Bool) → (ℕ → ℕ) → Party F T A → Type 0
  MayGiveUp values limit acts gives write p = MayAct values limit acts write p × EndsShare values limit p.seat.id p.seat.me write (λ _. true) (λ n. not (gives (state_of n)))

  -- the rule allows the party to cut its view in two: it keeps the left part
  abbrev pub MaySplit : Values F T → ℕ → (View → View) → (View → View) → Party F T A → Type 0
  MaySplit values limit left right p = Splits (RuleHolds {A = A} values limit) p.seat.id p.seat.me.0 (left p.seat.me.0) (right p.seat.me.0)

  -- the rule allows the party private acts, without a step
  abbrev pub MayNote : Values F T → ℕ → (State → List Act) → Party F T A → Type 0
  MayNote values limit acts p = Notes (RuleHolds {A = A} values limit) p.seat.id p.seat.me (HasActed values acts p)

  -- p did this path, and is q now: it stands here, and has these places
  pub record DidWith (path : List Deed) (at : Position) (held : List (ℕ × TaskPlace F T A)) (p q : Party F T A) : Type 0 where
    pub cell : q.seat.block ≡ p.seat.block
    pub is : q.seat.me ≡ (view (limit_of p) (member at (after path (deeds p)) ∷ []), held)

  -- q is the party p, which has tried a change, and has seen this word
  pub record Sees (w : State) (p q : Party F T A) : Type 0 where
    pub cell : q.seat.block ≡ p.seat.block
    pub number : q.seat.id ≡ p.seat.id
    pub room : HasRoom w
    pub seen : HasSeen w p.seat.me q.seat.me

  -- p did this path, and is q now: it stands here, and has no place
  abbrev pub Did : List Deed → Position → Party F T A → Party F T A → Type 0
  Did path at p q = DidWith path at [] p q

module _ {F T A : Type 0} where
  -- a party of the same cell, of its own, of which no deed is known
  pub record IsNew (at : Position) (p q : Party F T A) : Type 0 where
    pub cell : q.seat.block ≡ p.seat.block
    pub is : q.seat.me ≡ (view (limit_of p) (fresh at ∷ []), [])

  -- the first step of a notifier: it takes the place of the awaiter, unless another party is at it
  pub data BeginsNotify (p q : Party F T A) : Bool → Type 0 where
    finds_another : (w : State) → Fits MissNotify w
        → DidWith (row MissNotify w ∷ []) (after_taking None (way_of (position p))) (places_of p) p q → BeginsNotify p q false
    takes_place : (w : State) (hand : Option ℕ) (y : Option (StoredAwaiter A)) → Fits BeginNotify w → Waits hand y
        → DidWith (row BeginNotify w ∷ act TakeAwaiter ∷ []) (Releaser hand (way_of (position p))) (awaiter_first y (places_of p)) p q
        → BeginsNotify p q true

  -- the second step of a notifier: the awaiter that the poll of this number has stored is taken out, and the place given back
  pub record EndsNotify (hand : Option ℕ) (way : NotifyingCall) (held : List (ℕ × TaskPlace F T A)) (p q : Party F T A) (found : Option (Held (StoredAwaiter A)))
      : Type 0 where
    pub word : State
    pub is_there : Waits hand (in_hands found)
    pub did : DidWith (row EndNotify word ∷ []) (after_taking hand way) held p q

  -- a notifier: it finds another party at the awaiter, or takes it out
  pub data Notifies (p q : Party F T A) : Option (StoredAwaiter A) → Type 0 where
    misses : (w : State) → Fits MissNotify w → DidWith (row MissNotify w ∷ []) (after_taking None (way_of (position p))) (places_of p) p q
        → Notifies p q None
    finds_none : (w v : State) → Fits BeginNotify w
        → DidWith (row BeginNotify w ∷ act TakeAwaiter ∷ row EndNotify v ∷ []) (after_taking None (way_of (position p))) (places_of p) p q
        → Notifies p q None
    takes_awaiter : (w v : State) (i : ℕ) (a : StoredAwaiter A) → Fits BeginNotify w → stored_by a ≡ i
        → DidWith (row BeginNotify w ∷ act TakeAwaiter ∷ row EndNotify v ∷ []) (after_taking (Some i) (way_of (position p))) (places_of p) p q
        → Notifies p q (Some a)

-- the parts of an answer, where there is one
abbrev pub first : {X Y : Type 0} → Option (X × Y) → Option X
first None = None
first (Some x) = Some x.0

-- the second part of an answer, where there is one
abbrev pub second : {X Y : Type 0} → Option (X × Y) → Option Y
second None = None
second (Some x) = Some x.1

-- whether a list has nothing
abbrev pub is_empty : {X : Type 0} → List X → Bool
is_empty [] = true
is_empty (x ∷ xs) = false
