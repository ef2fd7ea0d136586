-- What a step of a party owes: the interleaving, and the places that it takes and gives back.
use Rattle.std.proofs.Common.{◌≡◌, ℕ, ◌+◌, ◌<◌, ◌≤◌, ◌≢◌, Bool, true, false, Option, Some, List, ◌∷◌, length, get_or, set, sym, refl, ap, ◌∙◌, subst, ◌⊎◌, ⊎_elim, inr, arith}
use mathlib.Core.Option.{some, none, some-injective, some-ne-none}
use mathlib.Core.Option as maybe
use lib.ListN.{get_elem?}
use Rattle.atomic_table.specs.Table.{State as Board, Me, Act as Move, keeps, takes, gives, stepped, homes_after, carried_after, Valid, rest}
use Rattle.atomic_table.proofs.Lists as lists
use Rattle.task_steps.proofs.Vocabulary.{bit, number_of, is_open, Position, Act, Slots, Outcome, Machine, scene, how_many, owns_awaiter, Invariant, First, Second, Slot, Empty, TaskPlace, Deed, Member, View}
use Rattle.task_steps.specs.PollScripts.{has_ended}
use Rattle.task_steps.specs.Values.{Values}
use Rattle.task_steps.specs.declared.kept.StoredAwaiter.{StoredAwaiter}
use Rattle.task_steps.specs.Rule.{has_work, IsFuture, IsOutput, Lies, Waits, WorkAtHome, AwaiterAtHome, HomesAgree, RuleHolds}
use Rattle.task_steps.specs.Steps.{work_first, awaiter_first, TakesFuture, TakesOutput, Works, Awaits, Carries, Carried, saw_over, saw_closed, saw_ended}
use Rattle.task_steps.proofs.Acts.{leads}

-- the machine's slots of future and output are as they were
abbrev pub SameWork : Machine → Outcome → Type 0
SameWork m o = (o.slots.future ≡ m.slots.future) × (o.slots.output ≡ m.slots.output)

abbrev pub SameAwaiter : Machine → Outcome → Type 0
SameAwaiter m o = o.slots.awaiter ≡ m.slots.awaiter

-- the step takes no place of the table, and gives none back
abbrev pub PlacesSeen : Type 0
PlacesSeen = Bool × Bool × Slots × ℕ × ℕ

abbrev pub places_before : Machine → Position → PlacesSeen
places_before m p = (has_work p, owns_awaiter p, m.slots, 0, 0)

abbrev pub places_after : Outcome → PlacesSeen
places_after o = (has_work o.next, owns_awaiter o.next, o.slots, how_many has_work o.born, how_many owns_awaiter o.born)

-- nothing lies where the machine says so
pub lies_nowhere : (F T : Type 0) (values : Values F T) (slots : Slots) → slots.future ≡ false → slots.output ≡ false → Lies values slots.future slots.output Empty
lies_nowhere F T values slots e f = subst (λ (b : Bool × Bool). Lies values b.0 b.1 Empty) (λ i. (sym e i, sym f i)) tt

module _ {F T : Type 0} (values : Values F T) where
  pub future_lies : (slots : Slots) (y : Slot F T) → slots.future ≡ true → IsFuture values y → Lies values slots.future slots.output y
  future_lies slots y e is = subst (λ (b : Bool). Lies values b slots.output y) (sym e) is

  -- what lies there is what the machine says
  is_future : (slots : Slots) (y : Slot F T) → slots.future ≡ true → Lies values slots.future slots.output y → IsFuture values y
  is_future slots y e lies = subst (λ (b : Bool). Lies values b slots.output y) e lies

  is_output : (future output : Bool) (y : Slot F T) → (future ≡ true → output ≡ false) → output ≡ true → Lies values future output y → IsOutput values y
  is_output true output y apart e lies = absurd (let gone = apart refl in cc)
  is_output false true y apart e lies = lies
  is_output false false y apart e lies = absurd (cc)

module _ {F T A : Type 0} (values : Values F T) where
  -- which places the party takes or gives back, and why it may
  pub data Placing (m : Machine) (p : Position) (o : Outcome) (l : List (ℕ × TaskPlace F T A)) : Type 0 where
    stays : has_work o.next ≡ has_work p → owns_awaiter o.next ≡ owns_awaiter p → (has_work p ≡ true) ⊎ SameWork m o → (owns_awaiter p ≡ true) ⊎ SameAwaiter m o → Placing m p o l
    takes_future : has_work p ≡ false → has_work o.next ≡ true → owns_awaiter o.next ≡ owns_awaiter p → (owns_awaiter p ≡ true) ⊎ SameAwaiter m o → m.slots.future ≡ true → ((l' : List (ℕ × TaskPlace F T A)) → TakesFuture values l l' → Works values o.next l l') → Placing m p o l
    takes_output : has_work p ≡ false → has_work o.next ≡ true → owns_awaiter o.next ≡ owns_awaiter p → (owns_awaiter p ≡ true) ⊎ SameAwaiter m o → m.slots.output ≡ true → ((l' : List (ℕ × TaskPlace F T A)) → TakesOutput values l l' → Works values o.next l l') → Placing m p o l
    gives_work : (y : Slot F T) → has_work p ≡ true → has_work o.next ≡ false → owns_awaiter o.next ≡ owns_awaiter p → (owns_awaiter p ≡ true) ⊎ SameAwaiter m o → l ≡ work_first y (rest l) → Lies values o.slots.future o.slots.output y → Placing m p o l
    takes_awaiter : owns_awaiter p ≡ false → owns_awaiter o.next ≡ true → has_work o.next ≡ has_work p → (has_work p ≡ true) ⊎ SameWork m o → ((y : Option (StoredAwaiter A)) → Waits m.slots.awaiter y → Awaits o.next y) → Placing m p o l
    gives_awaiter : (y : Option (StoredAwaiter A)) → owns_awaiter p ≡ true → owns_awaiter o.next ≡ false → has_work o.next ≡ has_work p → (has_work p ≡ true) ⊎ SameWork m o → l ≡ awaiter_first y (rest l) → Waits o.slots.awaiter y → Placing m p o l

  -- the step of a party at p that makes these acts, finds the machine so, and writes this number
  pub record Steps (m : Machine) (p : Position) (acts : List Act) (new : ℕ) (l : List (ℕ × TaskPlace F T A)) : Type 0 where
    pub outcome : Outcome
    pub leads_to : leads (scene m) acts p ≡ Some outcome
    pub writes : new ≡ number_of outcome.word
    pub idle : (how_many has_work outcome.born ≡ 0) × (how_many owns_awaiter outcome.born ≡ 0)
    pub placing : Placing m p outcome l

  unfoldable pub keeps_places : {m : Machine} {p : Position} {acts : List Act} {new : ℕ} {l : List (ℕ × TaskPlace F T A)} (o : Outcome) → leads (scene m) acts p ≡ Some o → new ≡ number_of o.word → places_after o ≡ places_before m p → Steps m p acts new l
  keeps_places o leads_to writes same = record {
    outcome = o;
    leads_to = leads_to;
    writes = writes;
    idle = (λ i. (same i).3, λ i. (same i).4);
    placing = stays (λ i. (same i).0) (λ i. (same i).1) (inr (λ i. (same i).2.future, λ i. (same i).2.output)) (inr (λ i. (same i).2.awaiter));
  }

-- what a party may use of the machine that it finds: its invariant, where it stands itself, what it has seen, and where the other parties of its seat stand
pub record Finds (limit : ℕ) (p : Position) (ds : List Deed) (us : List Member) (m : Machine) : Type 0 where
  pub invariant : Invariant m
  pub limited : m.limit ≡ limit
  pub capped : limit < 36028797018963968
  pub number : ℕ
  pub stands : get_elem? m.parties number ≡ some p
  pub over : saw_over ds ≡ true → is_open m.word ≡ false
  pub closed : saw_closed ds ≡ true → m.word.closed ≡ true
  pub ended : saw_ended ds ≡ true → has_ended m.word ≡ true
  pub beside : (j : ℕ) (u : Member) → get_elem? us j ≡ some u → (k : ℕ) × (get_elem? m.parties k ≡ some u.at)

module _ (F T A : Type 0) (values : Values F T) (limit : ℕ) where
  abbrev pub M : Type 0
  M = Me (TaskPlace F T A) View

  abbrev pub B : Type 0
  B = Board (TaskPlace F T A) View

  abbrev pub Rule : B → Type 0
  Rule = RuleHolds {A = A} values limit

  abbrev pub now : B → ℕ
  now s = get_or s.words 0 0

  abbrev pub Result : B → ℕ → M → ℕ → (M → Type 0) → Type 0
  Result s id me x then = (w : View) × (move : Move (TaskPlace F T A)) × Valid s.homes me.1 move × Rule (stepped s 0 x id me.1 w move) × then (w, carried_after me.1 move)

  -- the places after a step: what the machine says of them
  pub record Places (m : Machine) (p : Position) (o : Outcome) (s : B) (l : List (ℕ × TaskPlace F T A)) (q : Machine) : Type 0 where
    pub move : Move (TaskPlace F T A)
    pub valid : Valid s.homes l move
    pub housed : HomesAgree values q (homes_after s.homes l move)
    pub carried : Carried values p o.next l (carried_after l move)

  -- the machine that follows, as far as the places are concerned
  pub record After (m : Machine) (p : Position) (o : Outcome) (q : Machine) : Type 0 where
    pub works : how_many has_work q.parties + bit (has_work p) ≡ how_many has_work m.parties + bit (has_work o.next)
    pub owners : how_many owns_awaiter q.parties + bit (owns_awaiter p) ≡ how_many owns_awaiter m.parties + bit (owns_awaiter o.next)
    pub here : bit (has_work p) ≤ how_many has_work m.parties
    pub here_too : bit (owns_awaiter p) ≤ how_many owns_awaiter m.parties
    pub slots_is : q.slots ≡ o.slots
    pub never_both : m.slots.future ≡ true → m.slots.output ≡ false
    pub one_worker : how_many has_work q.parties ≤ 1
    pub one_owner : how_many owns_awaiter q.parties ≤ 1

  never : true ≡ false → ⊥
  never e = cc

  bit_is : (a b : Bool) → a ≡ b → bit a ≡ bit b
  bit_is a b e = ap bit e

  abbrev Homes : Type 0
  Homes = List (maybe.Option (TaskPlace F T A))

  -- the work stays where it is
  pub same_work : (m : Machine) (p : Position) (o : Outcome) (q : Machine) (homes homes' : Homes) → After m p o q → HomesAgree values m homes → has_work o.next ≡ has_work p → (has_work p ≡ true) ⊎ SameWork m o
      → get_elem? homes' 0 ≡ get_elem? homes 0 → how_many has_work q.parties ≡ 0 → WorkAtHome homes' (Lies values q.slots.future q.slots.output)
  same_work m p o q homes homes' a h e kept at nobody = ⊎_elim
      (λ (z : has_work p ≡ true). absurd (let x = a.works in let y = a.here in let b = bit_is (has_work o.next) (has_work p) e in let c : bit (has_work p) ≡ 1 = ap bit z in omega arith))
      (λ (z : SameWork m o). let before : how_many has_work m.parties ≡ 0 = (let x = a.works in let b = bit_is (has_work o.next) (has_work p) e in omega arith) in
      let y = h.work before in
      (y.0, at ∙ y.1, subst (λ (x : Slots). Lies values x.future x.output y.0) (sym a.slots_is) (subst (λ (x : Bool × Bool). Lies values x.0 x.1 y.0) (λ i. (sym z.0 i, sym z.1 i)) y.2)))
      kept

  pub same_awaiter : (m : Machine) (p : Position) (o : Outcome) (q : Machine) (homes homes' : Homes) → After m p o q → HomesAgree values m homes → owns_awaiter o.next ≡ owns_awaiter p → (owns_awaiter p ≡ true) ⊎ SameAwaiter m o
      → get_elem? homes' 1 ≡ get_elem? homes 1 → how_many owns_awaiter q.parties ≡ 0 → AwaiterAtHome homes' (Waits q.slots.awaiter)
  same_awaiter m p o q homes homes' a h e kept at nobody = ⊎_elim
      (λ (z : owns_awaiter p ≡ true). absurd (let x = a.owners in let y = a.here_too in let b = bit_is (owns_awaiter o.next) (owns_awaiter p) e in let c : bit (owns_awaiter p) ≡ 1 = ap bit z in omega arith))
      (λ (z : SameAwaiter m o). let before : how_many owns_awaiter m.parties ≡ 0 = (let x = a.owners in let b = bit_is (owns_awaiter o.next) (owns_awaiter p) e in omega arith) in
      let g = h.awaiter before in
      (g.0, at ∙ g.1, subst (λ w. Waits w g.0) (sym z ∙ ap (λ x. x.awaiter) (sym a.slots_is)) g.2))
      kept

  busy_work : (m : Machine) (p : Position) (o : Outcome) (q : Machine) → After m p o q → has_work p ≡ false → has_work o.next ≡ true → how_many has_work q.parties ≡ 1 + how_many has_work m.parties
  busy_work m p o q a e f = let x = a.works in let b : bit (has_work p) ≡ 0 = ap bit e in let c : bit (has_work o.next) ≡ 1 = ap bit f in omega arith

  busy_awaiter : (m : Machine) (p : Position) (o : Outcome) (q : Machine) → After m p o q → owns_awaiter p ≡ false → owns_awaiter o.next ≡ true → how_many owns_awaiter q.parties ≡ 1 + how_many owns_awaiter m.parties
  busy_awaiter m p o q a e f = let x = a.owners in let b : bit (owns_awaiter p) ≡ 0 = ap bit e in let c : bit (owns_awaiter o.next) ≡ 1 = ap bit f in omega arith

  abbrev CarriesAt : Position → List (ℕ × TaskPlace F T A) → List (ℕ × TaskPlace F T A) → Bool → Bool → Bool → Bool → Type 0
  CarriesAt q l l' a b c d = Carries {A = A} values a b c d q l l'

  carries_same : (a c : Bool) (q : Position) (l : List (ℕ × TaskPlace F T A)) → CarriesAt q l l a a c c
  carries_same true true q l = refl
  carries_same true false q l = refl
  carries_same false true q l = refl
  carries_same false false q l = refl

  carries_awaiter : (a : Bool) (q : Position) (y : Option (StoredAwaiter A)) (l : List (ℕ × TaskPlace F T A)) → Awaits q y → CarriesAt q l (awaiter_first y l) a a false true
  carries_awaiter true q y l h = (y, h, refl)
  carries_awaiter false q y l h = (y, h, refl)

  carries_back : (a : Bool) (q : Position) (l : List (ℕ × TaskPlace F T A)) → CarriesAt q l (rest l) a a true false
  carries_back true q l = refl
  carries_back false q l = refl

  put_at : (s : B) (l : List (ℕ × TaskPlace F T A)) (k : ℕ) (y : TaskPlace F T A) → l ≡ (k, y) ∷ rest l → k < length s.homes → get_elem? (homes_after s.homes l gives) k ≡ some (some y)
  put_at s l k y e lt = subst (λ (c : List (ℕ × TaskPlace F T A)). get_elem? (homes_after s.homes c gives) k ≡ some (some y)) (sym e) (lists.set_here s.homes k (some y) lt)

  put_else : (s : B) (l : List (ℕ × TaskPlace F T A)) (k j : ℕ) (y : TaskPlace F T A) → l ≡ (k, y) ∷ rest l → j ≢ k → get_elem? (homes_after s.homes l gives) j ≡ get_elem? s.homes j
  put_else s l k j y e ne = subst (λ (c : List (ℕ × TaskPlace F T A)). get_elem? (homes_after s.homes c gives) j ≡ get_elem? s.homes j) (sym e) (lists.set_else s.homes k j (some y) ne)

  carried_as : (p q : Position) (l l' : List (ℕ × TaskPlace F T A)) (a b c d : Bool) → has_work p ≡ a → has_work q ≡ b → owns_awaiter p ≡ c → owns_awaiter q ≡ d → CarriesAt q l l' a b c d → Carried values p q l l'
  carried_as p q l l' a b c d e f g h x = subst (λ (z : Bool × Bool × Bool × Bool). CarriesAt q l l' z.0 z.1 z.2 z.3) (λ i. (sym e i, sym f i, sym g i, sym h i)) x

  pub places : (m : Machine) (p : Position) (o : Outcome) (s : B) (l : List (ℕ × TaskPlace F T A)) (q : Machine) → After m p o q → HomesAgree values m s.homes → length s.homes ≡ 2
      → Placing values m p o l → Places m p o s l q
  places m p o s l q a h two (stays e f w z) = record {
    move = keeps;
    valid = tt;
    housed = record { work = same_work m p o q s.homes s.homes a h e w refl; awaiter = same_awaiter m p o q s.homes s.homes a h f z refl };
    carried = carried_as p o.next l l (has_work p) (has_work p) (owns_awaiter p) (owns_awaiter p) refl e refl f (carries_same (has_work p) (owns_awaiter p) o.next l);
  }
  places m p o s l q a h two (takes_future e f g w there is) = let busy = busy_work m p o q a e f in
      let y = h.work (let n = a.one_worker in omega arith) in record {
        move = takes 0 (First y.0);
        valid = y.1;
        housed = record {
          work = λ n. absurd (omega arith);
          awaiter = same_awaiter m p o q s.homes (set s.homes 0 none) a h g w (lists.set_else s.homes 0 1 none (λ z. omega arith));
        };
        carried = carried_as p o.next l (work_first y.0 l) false true (owns_awaiter p) (owns_awaiter p) e f refl g (is (work_first y.0 l) (y.0, is_future values m.slots y.0 there y.2, refl));
      }
  places m p o s l q a h two (takes_output e f g w there is) = let busy = busy_work m p o q a e f in
      let y = h.work (let n = a.one_worker in omega arith) in record {
        move = takes 0 (First y.0);
        valid = y.1;
        housed = record {
          work = λ n. absurd (omega arith);
          awaiter = same_awaiter m p o q s.homes (set s.homes 0 none) a h g w (lists.set_else s.homes 0 1 none (λ z. omega arith));
        };
        carried = carried_as p o.next l (work_first y.0 l) false true (owns_awaiter p) (owns_awaiter p) e f refl g (is (work_first y.0 l) (y.0, is_output values m.slots.future m.slots.output y.0 a.never_both there y.2, refl));
      }
  places m p o s l q a h two (gives_work y e f g w has lies) = record {
    move = gives;
    valid = tt;
    housed = record {
      work = λ n. (y, put_at s l 0 (First y) has (omega arith), subst (λ (x : Slots). Lies values x.future x.output y) (sym a.slots_is) lies);
      awaiter = same_awaiter m p o q s.homes (homes_after s.homes l gives) a h g w (put_else s l 0 1 (First y) has (λ z. omega arith));
    };
    carried = carried_as p o.next l (rest l) true false (owns_awaiter p) (owns_awaiter p) e f refl g refl;
  }
  places m p o s l q a h two (takes_awaiter e f g w is) = let busy = busy_awaiter m p o q a e f in let y = h.awaiter (let n = a.one_owner in omega arith) in
      let same : get_elem? (set s.homes 1 none) 0 ≡ get_elem? s.homes 0 = lists.set_else s.homes 1 0 none (λ z. omega arith) in record {
        move = takes 1 (Second y.0);
        valid = y.1;
        housed = record { work = same_work m p o q s.homes (set s.homes 1 none) a h g w same; awaiter = λ n. absurd (omega arith) };
        carried = carried_as p o.next l (awaiter_first y.0 l) (has_work p) (has_work p) false true refl g e f (carries_awaiter (has_work p) o.next y.0 l (is y.0 y.2));
      }
  places m p o s l q a h two (gives_awaiter y e f g w has waits) =
      let same : get_elem? (homes_after s.homes l gives) 0 ≡ get_elem? s.homes 0 = put_else s l 1 0 (Second y) has (λ z. omega arith) in record {
        move = gives;
        valid = tt;
        housed = record {
          work = same_work m p o q s.homes (homes_after s.homes l gives) a h g w same;
          awaiter = λ n. (y, put_at s l 1 (Second y) has (omega arith), subst (λ x. Waits x y) (ap (λ x. x.awaiter) (sym a.slots_is)) waits);
        };
        carried = carried_as p o.next l (rest l) (has_work p) (has_work p) true false refl g e f (carries_back (has_work p) o.next l);
      }

  -- a step that takes and gives back no place keeps all
  pub stays_put : (m : Machine) (p : Position) (o : Outcome) (s : B) (l : List (ℕ × TaskPlace F T A)) (q : Machine) (a : After m p o q) (h : HomesAgree values m s.homes) (two : length s.homes ≡ 2)
      (e : has_work o.next ≡ has_work p) (f : owns_awaiter o.next ≡ owns_awaiter p) (w : (has_work p ≡ true) ⊎ SameWork m o) (z : (owns_awaiter p ≡ true) ⊎ SameAwaiter m o) → (places m p o s l q a h two (stays e f w z)).move ≡ keeps
  unfolding places
  stays_put m p o s l q a h two e f w z = refl
