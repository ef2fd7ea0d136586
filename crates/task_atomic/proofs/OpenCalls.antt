-- What holds of the open calls of an interleaving whose calls nest, and what a step does to them.
use Rattle.std.proofs.Common.{◌≡◌, ℕ, Bool, true, false, not, ◌&&◌, ◌||◌, ◌⊎◌, inl, inr, cond, List, [], ◌∷◌, length, Option, Some, None, refl, sym, ap, ◌∙◌, subst, arith}
use Rattle.std.specs.Prelude.{slice_get, nat_eq, if◌then◌else◌}
use Rattle.std.proofs.lemmas.Option.{slice_get_within}
use Rattle.task_core.specs.Word.{State}
use Rattle.task_core.specs.declared.acts.Act.{Act}
use Rattle.task_core.specs.declared.acts.Act.TheVariants.{EndNotify, WakeIdle}
use Rattle.task_laws.specs.declared.positions.Position.{Position}
use Rattle.task_laws.specs.declared.positions.Position.TheVariants.{At, CallEnding}
use Rattle.task_laws.specs.declared.positions.Answer.TheVariants.{Nothing}
use Rattle.task_laws.specs.Abstract.{Move}
use Rattle.task_laws.specs.Machine.{Machine, scene}
use Rattle.task_laws.specs.Table.{Outcome}
use Rattle.task_laws.specs.Whole.{Whole, opened, closed, is_cut, is_at_rest, is_deliverer, is_foreign, asks_foreign}
use Rattle.task_laws.proofs.Census.{weigh}
use Rattle.task_laws.proofs.Calm.{Calm, has_emptied, is_storing, stands, takes_slot}
use Rattle.task_laws.proofs.WholeRuns.{Within, moved_on, counted}
use Rattle.task_laws.proofs.Agree.{HandsOn, RunHolds}
use Rattle.task_steps.specs.declared.table.Deed.{Deed}
use Rattle.task_steps.specs.Rule.{Entry, found_by}
use Rattle.task_atomic.specs.Nesting.{OpenCall, begins_poll, is_to_clone, is_to_compare, runs_after, runs_foreign, is_look, ends_call, makes_deliverer, is_open, parties_of, runs_outside}
use Rattle.task_atomic.proofs.Turns.{in_call, in_poll, polls_at, stands_lent, lent_at, has_taken, is_taker, Turn, Births, holds_taken, Asked}
use Rattle.task_atomic.proofs.Placed.{placed_at, nobody_there, below, other_way, same_number, one_number, read_if, counts_so, no_other, yes_left, left_false, right_false, not_both, flipped, first_false, new_alone, placed}

-- A STEP, and what it does to the call of its party
pub record OneStep (n : Machine) (e : Entry) (lent : Bool) (p : Position) (o : Outcome) : Type 0 where
  pub here : slice_get n.parties e.party ≡ Some p
  pub turn : Turn e.deed.act p (scene n) o
  pub births : Births e.deed.act p o
  pub takes : has_taken o.next ≡ false → (n.slots.awaiter ≡ None) × (is_taker p ≡ true) × (o.word ≡ n.word) × (in_poll o.next ≡ in_poll p)
  pub holds : holds_taken o.next ≡ true → (n.slots.awaiter ≡ None → ⊥) × (is_taker p ≡ true) × (o.word ≡ n.word) × (in_poll o.next ≡ in_poll p)
  pub asked : Asked e.deed.act p (scene n) o
  pub found : e.deed.found ≡ found_by e.deed.act n.word
  pub parties : e.parties ≡ length n.parties
  pub lends : lent ≡ stands_lent p

abbrev pub now : Machine → Entry → Position → Outcome → Machine
now n e p o = moved_on n e.party p o

module _ {n : Machine} {e : Entry} {lent : Bool} {p : Position} {o : Outcome} (x : OneStep n e lent p o) where
  pub stood : (j : ℕ) → slice_get (now n e p o).parties j ≡ placed n.parties o.born e.party o.next j
  stood j = placed_at n.parties o.born e.party j p o.next x.here x.births.few

  pub ends_here : ends_call e.deed.act lent ≡ is_at_rest o.next
  ends_here = ap (ends_call e.deed.act) x.lends ∙ sym x.turn.rests

  pub apart : nat_eq e.party (length n.parties) ≡ false
  apart = below e.party (length n.parties) (slice_get_within n.parties e.party p x.here)

  pub read_after : {B : Type 0} (f : Option Position → B) (j : ℕ) → f (slice_get (now n e p o).parties j)
      ≡ cond (nat_eq j e.party) (f (Some o.next)) (cond (nat_eq j e.parties) (f (slice_get o.born 0)) (f (slice_get n.parties j)))
  read_after f j = ap f (stood j) ∙ (read_if f (nat_eq j e.party) (nat_eq j (length n.parties)) (Some o.next) (slice_get o.born 0) (slice_get n.parties j)
      ∙ ap (λ (k : ℕ). cond (nat_eq j e.party) (f (Some o.next)) (cond (nat_eq j k) (f (slice_get o.born 0)) (f (slice_get n.parties j)))) (sym x.parties))

  -- who is lent after it
  pub lent_after : (is_lent_to : ℕ → Bool) → lent ≡ is_lent_to e.party → ((j : ℕ) → is_lent_to j ≡ lent_at (slice_get n.parties j)) → (j : ℕ)
      → ((nat_eq j e.parties && (is_look e.deed.act && lent)) || is_lent_to j) ≡ lent_at (slice_get (now n e p o).parties j)
  lent_after is_lent_to own lends j =
      counts_so (nat_eq j e.party) (nat_eq j e.parties) _ (lent_at (Some o.next)) (lent_at (slice_get o.born 0)) (lent_at (slice_get n.parties j))
      (λ f. let same = same_number j e.party f in
      let not_new : nat_eq j e.parties ≡ false = ap (λ (k : ℕ). nat_eq k e.parties) same ∙ (ap (nat_eq e.party) x.parties ∙ apart) in
      no_other (nat_eq j e.parties && (is_look e.deed.act && lent)) (is_lent_to j) (first_false (nat_eq j e.parties) (is_look e.deed.act && lent) not_new)
      ∙ (ap is_lent_to same ∙ (sym own ∙ (x.lends ∙ sym x.turn.lent))))
      (λ f g. let nobody : is_lent_to j ≡ false = lends j ∙ ap lent_at (ap (slice_get n.parties) (same_number j e.parties g ∙ x.parties) ∙ nobody_there n.parties) in
      new_alone (nat_eq j e.parties) (is_lent_to j) (is_look e.deed.act && lent) g nobody ∙ (ap (λ (b : Bool). is_look e.deed.act && b) x.lends ∙ sym x.births.lent))
      (λ f g. no_other (nat_eq j e.parties && (is_look e.deed.act && lent)) (is_lent_to j) (first_false (nat_eq j e.parties) (is_look e.deed.act && lent) g) ∙ lends j)
      ∙ sym (read_after lent_at j)

-- WHAT HOLDS OF THE OPEN CALLS
-- a call that is open, by where its party stands
pub record Stands (c : OpenCall) (at : Option Position) : Type 0 where
  pub polls : begins_poll c.first.act ≡ polls_at at
  pub ready : runs_foreign c ≡ true → is_deliverer at ≡ false

abbrev pub AllStand : List Position → List OpenCall → Type 0
AllStand ps [] = Unit {0}
AllStand ps (c ∷ calls) = Stands c (slice_get ps c.party) × (is_open c.party calls ≡ false) × AllStand ps calls

-- a poll that gives the awaiter's place back has an awaiter, where the word says so
abbrev pub taken_at : Option Position → Bool
taken_at None = true
taken_at (Some p) = has_taken p

abbrev pub HasTaken : State → Option Position → Type 0
HasTaken w at = polls_at at ≡ true → w.awaiter ≡ true → taken_at at ≡ true

abbrev pub FirstHasTaken : State → List Position → List OpenCall → Type 0
FirstHasTaken w ps [] = Unit {0}
FirstHasTaken w ps (c ∷ calls) = HasTaken w (slice_get ps c.party)

-- the word says of each position whether its poll has an awaiter to give back
abbrev pub holds_at : Option Position → Bool
holds_at None = false
holds_at (Some p) = holds_taken p

abbrev pub IsDue : State → Option Position → Type 0
IsDue w at = polls_at at ≡ true → holds_at at ≡ true → w.awaiter ≡ true

abbrev pub FirstIsDue : State → List Position → List OpenCall → Type 0
FirstIsDue w ps [] = Unit {0}
FirstIsDue w ps (c ∷ calls) = IsDue w (slice_get ps c.party)

-- below the innermost, each runs foreign code, or is a deliverer's
abbrev pub Waits : OpenCall → Option Position → Type 0
Waits c at = (runs_foreign c ≡ true) ⊎ (is_deliverer at ≡ true)

abbrev pub AllWait : List Position → List OpenCall → Type 0
AllWait ps [] = Unit {0}
AllWait ps (c ∷ calls) = Waits c (slice_get ps c.party) × AllWait ps calls

abbrev pub OthersWait : List Position → List OpenCall → Type 0
OthersWait ps [] = Unit {0}
OthersWait ps (c ∷ calls) = AllWait ps calls

pub all_wait : (ps : List Position) (calls : List OpenCall) → OthersWait ps calls → runs_outside calls ≡ true → AllWait ps calls
all_wait ps [] w out = tt
all_wait ps (c ∷ calls) w out = (inl out, w)

pub others_of : (ps : List Position) (calls : List OpenCall) → AllWait ps calls → OthersWait ps calls
others_of ps [] w = tt
others_of ps (c ∷ calls) w = w.1

pub record Follows (m : Machine) (calls : List OpenCall) (is_lent_to : ℕ → Bool) (cut : Bool) : Type 0 where
  pub outside : runs_outside calls ≡ true → cut ≡ true
  pub within : (j : ℕ) → is_open j calls ≡ in_call (slice_get m.parties j)
  pub lends : (j : ℕ) → is_lent_to j ≡ lent_at (slice_get m.parties j)
  pub all_stand : AllStand m.parties calls
  pub takes : cut ≡ false → FirstHasTaken m.word m.parties calls
  pub inside : cut ≡ true → runs_outside calls ≡ true
  pub wait : OthersWait m.parties calls
  pub due : cut ≡ false → FirstIsDue m.word m.parties calls

-- an act that ends a call makes no deliverer
pub ends_makes_none : (act : Act) (lent : Bool) → ends_call act lent ≡ true → makes_deliverer act ≡ false
ends_makes_none WakeIdle lent e = cc
ends_makes_none act lent e = refl

pub makes_no_poll : (act : Act) → makes_deliverer act ≡ true → begins_poll act ≡ false
makes_no_poll WakeIdle e = refl
makes_no_poll act e = absurd (cc)

pub makes_and_waits : (d : Deed) → makes_deliverer d.act ≡ true → runs_after d [] ≡ true → ⊥
makes_and_waits d e f = by d.act e f
  where
    by : (act : Act) → makes_deliverer act ≡ true → (is_foreign act || is_to_clone act d.found) ≡ true → ⊥
    by WakeIdle e f = cc
    by act e f = cc

pub compares_due : (act : Act) (w : State) → is_to_compare act (found_by act w) ≡ true → w.awaiter ≡ true
compares_due EndNotify w e = e
compares_due act w e = absurd (cc)

pub asks_no_deliverer : (q : Position) → asks_foreign q ≡ true → is_deliverer (Some q) ≡ false
asks_no_deliverer q e = grind arith

pub deliverer_took : (at : Option Position) → is_deliverer at ≡ true → taken_at at ≡ true
deliverer_took at e = grind arith

pub deliverer_holds_none : (at : Option Position) → is_deliverer at ≡ true → holds_at at ≡ true → ⊥
deliverer_holds_none at e f = grind arith

pub none_held_stands : (done : Bool) (p : Position) → stands done (Some p) ≡ true → holds_taken p ≡ true → ⊥
none_held_stands done p e f = grind arith

pub stands_and_took : (done : Bool) (p : Position) → stands done (Some p) ≡ true → has_taken p ≡ true
stands_and_took done p e = grind arith

-- a poll that takes the awaiter in the middle of a segment finds one, where the word says so
pub taker_is : (p : Position) → is_taker p ≡ true → in_poll p ≡ true → (has_emptied p ≡ false) × ((weigh p).tasks ≡ 1)
taker_is p e f = grind arith

pub no_taker_stands : (done : Bool) (p : Position) → is_taker p ≡ true → stands done (Some p) ≡ true → ⊥
no_taker_stands done p e f = grind arith

abbrev pub at_whole : Machine → List ℕ → Bool → List Move → Whole
at_whole m stack cut moves = record { machine = m; stack = stack; cut = cut; moves = moves }

pub takes_slot_is : (p : Position) → is_taker p ≡ true → takes_slot p ≡ true
takes_slot_is p e = grind arith

pub taker_is_calm : (limit : ℕ) (n : Machine) (i : ℕ) (stack : List ℕ) (cut : Bool) (moves : List Move) (p : Position) → RunHolds limit (at_whole n (i ∷ stack) cut moves) → slice_get n.parties i ≡ Some p
    → is_taker p ≡ true → Calm n.word n.slots false p
taker_is_calm limit n i stack true moves p h here taker = absurd (no_taker_stands n.word.completed p taker (rw here at h.state.good.0))
taker_is_calm limit n i stack false moves p h here taker = by h.state.0 h.state.1
  where
    calmly : (x : Position) → slice_get n.parties i ≡ Some x → Calm n.word n.slots false x → Calm n.word n.slots false p
    calmly x at calm = let same : x ≡ p = cc in subst (Calm n.word n.slots false) same calm

    hands_on : (stack : List ℕ) → HandsOn limit n i stack moves → ⊥
    hands_on [] w = w
    hands_on (k ∷ stack) w = let waker = w.1.waker in let same : CallEnding Nothing w.0 ≡ p = cc in let t = rw (sym same) at taker in cc

    by : (b : Bool) → cond b ((x : Position) × Within limit n i x stack moves) (HandsOn limit n i stack moves) → Calm n.word n.slots false p
    by true w = calmly w.0 w.1.stands_at w.1.calm
    by false w = absurd (hands_on stack w)

module _ (limit : ℕ) (n : Machine) (i : ℕ) (stack : List ℕ) (cut : Bool) (moves : List Move) (p : Position) (h : RunHolds limit (at_whole n (i ∷ stack) cut moves)) (here : slice_get n.parties i ≡ Some p)
    (taker : is_taker p ≡ true) (polls : in_poll p ≡ true) where
  pub with_task : n.word.task ≡ true
  with_task = (counted n i p here h.invariant).has_task ((taker_is p taker polls).1)

  pub taker_finds : n.word.awaiter ≡ true → n.slots.awaiter ≡ None → ⊥
  taker_finds due none = not_both n.word.task with_task (((taker_is_calm limit n i stack cut moves p h here taker).stored ((taker_is p taker polls).0) due none).1)

  pub taker_is_due : (n.slots.awaiter ≡ None → ⊥) → n.word.awaiter ≡ true
  taker_is_due some = by n.word.awaiter refl
    where
      calm : Calm n.word n.slots false p
      calm = taker_is_calm limit n i stack cut moves p h here taker

      told : (n.slots.awaiter ≡ None) ⊎ ((n.word.task ≡ false) × (n.word.closed ≡ true) × (n.word.completed ≡ false) × (n.word.running ≡ false)) → ⊥
      told (inl none) = some none
      told (inr left) = not_both n.word.task with_task left.0

      by : (b : Bool) → n.word.awaiter ≡ b → n.word.awaiter ≡ true
      by true g = g
      by false g = absurd (told (calm.forgotten g (yes_left (not n.word.registering) (is_storing p) (ap not (calm.taking (takes_slot_is p taker))))))

-- AFTER A STEP
module _ {n : Machine} {e : Entry} {lent : Bool} {p : Position} {o : Outcome} (x : OneStep n e lent p o) where
  -- the calls of others stand as they stood
  pub unmoved : (c : OpenCall) (calls : List OpenCall) → is_open e.party (c ∷ calls) ≡ false → is_open e.parties (c ∷ calls) ≡ false → slice_get (now n e p o).parties c.party ≡ slice_get n.parties c.party
  unmoved c calls mine new =
      let not_mine = other_way e.party c.party (left_false (nat_eq e.party c.party) (is_open e.party calls) mine) in
      let not_new = other_way e.parties c.party (left_false (nat_eq e.parties c.party) (is_open e.parties calls) new) in
      read_after x (λ at. at) c.party ∙ (ap (λ (b : Bool). cond b (Some o.next) (cond (nat_eq c.party e.parties) (slice_get o.born 0) (slice_get n.parties c.party))) not_mine
      ∙ ap (λ (b : Bool). cond b (slice_get o.born 0) (slice_get n.parties c.party)) not_new)

  pub others_stand : (calls : List OpenCall) → AllStand n.parties calls → is_open e.party calls ≡ false → is_open e.parties calls ≡ false → AllStand (now n e p o).parties calls
  others_stand [] all mine new = tt
  others_stand (c ∷ calls) all mine new =
      (subst (Stands c) (sym (unmoved c calls mine new)) all.0, all.1, others_stand calls all.2 (right_false (nat_eq e.party c.party) (is_open e.party calls) mine) (right_false (nat_eq e.parties c.party) (is_open e.parties calls) new))

  pub others_wait : (calls : List OpenCall) → AllWait n.parties calls → is_open e.party calls ≡ false → is_open e.parties calls ≡ false → AllWait (now n e p o).parties calls
  others_wait [] all mine new = tt
  others_wait (c ∷ calls) all mine new =
      (subst (Waits c) (sym (unmoved c calls mine new)) all.0, others_wait calls all.1 (right_false (nat_eq e.party c.party) (is_open e.party calls) mine) (right_false (nat_eq e.parties c.party) (is_open e.parties calls) new))

  -- no call of the party that is made was open
  pub none_new : (calls : List OpenCall) → ((j : ℕ) → is_open j calls ≡ in_call (slice_get n.parties j)) → is_open e.parties calls ≡ false
  none_new calls counts = counts e.parties ∙ ap in_call (ap (slice_get n.parties) x.parties ∙ nobody_there n.parties)

  pub itself : slice_get (now n e p o).parties e.party ≡ Some o.next
  itself = read_after x (λ at. at) e.party ∙ ap (λ (b : Bool). cond b (Some o.next) (cond (nat_eq e.party e.parties) (slice_get o.born 0) (slice_get n.parties e.party))) (one_number e.party)

  -- who is in a call after it
  pub open_after : (calls : List OpenCall) (ends : Bool) → ends ≡ is_at_rest o.next → ((j : ℕ) → is_open j calls ≡ in_call (slice_get n.parties j)) → (later : List OpenCall)
      → ((j : ℕ) → is_open j later ≡ cond (nat_eq j e.party) (not ends) (cond (nat_eq j e.parties) (makes_deliverer e.deed.act) (is_open j calls)))
      → (j : ℕ) → is_open j later ≡ in_call (slice_get (now n e p o).parties j)
  open_after calls ends rests within later counts j =
      counts j ∙ (ap (λ (b : Bool). cond (nat_eq j e.party) (not b) (cond (nat_eq j e.parties) (makes_deliverer e.deed.act) (is_open j calls))) rests
      ∙ (ap (λ (b : Bool). cond (nat_eq j e.party) (not (is_at_rest o.next)) (cond (nat_eq j e.parties) b (is_open j calls))) (sym x.births.call)
      ∙ (ap (λ (b : Bool). cond (nat_eq j e.party) (not (is_at_rest o.next)) (cond (nat_eq j e.parties) (in_call (slice_get o.born 0)) b)) (within j) ∙ sym (read_after x in_call j))))

-- where its party comes to rest, the run is cut, but over a deliverer
pub rest_cut : (q : Position) → is_at_rest q ≡ true → (act : Act) (m : Machine) (calls : List OpenCall) → AllStand m.parties calls → runs_outside calls ≡ true → is_cut act q m (parties_of calls) ≡ true
rest_cut (At r) rest act m [] all out = refl
rest_cut (At r) rest act m (c ∷ calls) all out = ap not (all.0.ready out)
rest_cut q rest act m calls all out = absurd (cc)

pub rest_takes : (q : Position) → is_at_rest q ≡ true → (act : Act) (m : Machine) (calls : List OpenCall) → is_cut act q m (parties_of calls) ≡ false → FirstHasTaken m.word m.parties calls
rest_takes (At r) rest act m [] uncut = tt
rest_takes (At r) rest act m (c ∷ calls) uncut = λ a b. deliverer_took (slice_get m.parties c.party) (flipped (is_deliverer (slice_get m.parties c.party)) false uncut)
rest_takes q rest act m calls uncut = absurd (cc)

pub rest_inside : (q : Position) → is_at_rest q ≡ true → (act : Act) (m : Machine) (calls : List OpenCall) → AllWait m.parties calls → is_cut act q m (parties_of calls) ≡ true → runs_outside calls ≡ true
rest_inside (At r) rest act m [] all cut = refl
rest_inside (At r) rest act m (c ∷ calls) all cut = by all.0
  where
    by : Waits c (slice_get m.parties c.party) → runs_foreign c ≡ true
    by (inl own) = own
    by (inr own) = absurd (not_both (is_deliverer (slice_get m.parties c.party)) own (flipped (is_deliverer (slice_get m.parties c.party)) true cut))
rest_inside q rest act m calls all cut = absurd (cc)

pub rest_due : (q : Position) → is_at_rest q ≡ true → (act : Act) (m : Machine) (calls : List OpenCall) → is_cut act q m (parties_of calls) ≡ false → FirstIsDue m.word m.parties calls
rest_due (At r) rest act m [] uncut = tt
rest_due (At r) rest act m (c ∷ calls) uncut =
    λ a b. absurd (deliverer_holds_none (slice_get m.parties c.party) (flipped (is_deliverer (slice_get m.parties c.party)) false uncut) b)
rest_due q rest act m calls uncut = absurd (cc)

pub mid_cut : (q : Position) → is_at_rest q ≡ false → (act : Act) (m : Machine) (stack : List ℕ) → is_cut act q m stack ≡ (is_foreign act || asks_foreign q)
mid_cut (At r) rest act m stack = absurd (cc)
mid_cut q rest act m stack = refl

pub closed_mid : (q : Position) → is_at_rest q ≡ false → (stack : List ℕ) → closed q stack ≡ stack
closed_mid (At r) rest stack = absurd (cc)
closed_mid q rest stack = refl

pub closed_rest : (q : Position) → is_at_rest q ≡ true → (i : ℕ) (stack : List ℕ) → closed q (i ∷ stack) ≡ stack
closed_rest (At r) rest i stack = refl
closed_rest q rest i stack = absurd (cc)

pub opened_mid : (q : Position) → is_at_rest q ≡ false → (i : ℕ) (act : Act) (born : ℕ) (stack : List ℕ) → opened i q act born stack ≡ stack
opened_mid (At r) rest i act born stack = absurd (cc)
opened_mid q rest i act born stack = refl

pub opened_rest : (q : Position) → is_at_rest q ≡ true → (i : ℕ) (act : Act) (born : ℕ) (stack : List ℕ) → opened i q act born stack ≡ i ∷ (if makes_deliverer act then born ∷ stack else stack)
opened_rest (At r) rest i WakeIdle born stack = refl
opened_rest (At r) rest i act born stack = refl
opened_rest q rest i act born stack = absurd (cc)
