-- Each step on a board keeps its rule.
use Rattle.std.proofs.Common.{◌≡◌, ◌≢◌, ℕ, zero, suc, ◌+◌, ◌*◌, ◌<◌, ◌≤◌, List, [], ◌∷◌, ◌++◌, map, length, drop, get_or, set, sym, refl, ap, ◌∙◌, subst, ⊎_elim, arith, length-set, get_or-set_other, get_or-set_same, eqb}
use Rattle.std.proofs.lemmas.List.{length-map}
use mathlib.Core.Logic.{dite}
use mathlib.Core.Option.{Option, none, some, some-injective, some-ne-none}
use native.Mathlib.Decide.{ℕ_discrete}
use lib.ListN.{get_elem?}
use lib.Seq.{set-get_or}
use prog.Atomic.{either}
use Rattle.atomic_table.specs.Seated.{TableId}
use Rattle.atomic_table.specs.Table.{State, Me, Act, Valid, carried_after, stepped, step, opening, rest, keeps, takes, gives, Allows, Enters}
use Rattle.atomic_table.proofs.Lists.{at_set, set_here, set_else, set_again, at_snoc, at_map, exchanged}
use Rattle.work_queues.specs.declared.room.Room.{Room}
use Rattle.work_queues.specs.Sleep.{padding}
use Rattle.work_queues.specs.Board.{room, Orderly, HasQueue, Sits, Locks, Unlocks}

at_some : {S : Type 0} (l : List S) (i : ℕ) → i < length l → (a : S) × (get_elem? l i ≡ some a)
at_some [] i h = absurd (omega arith)
at_some (x ∷ xs) zero h = (x, refl)
at_some (x ∷ xs) (suc i) h = at_some xs i (omega arith)

at_one : {A : Type 0} (a : A) (port : ℕ) (v : A) → get_elem? (a ∷ []) port ≡ some v → v ≡ a
at_one a zero v at = sym (some-injective a v at)
at_one a (suc port) v at = absurd (some-ne-none v (sym at))

module _ (S : Type 0) (P : TableId → ℕ → S → Type 0) (bells : TableId) (n : ℕ) where
  abbrev St : Type 0
  St = State S Room

  abbrev board : List ℕ → List (Option S) → List Room → St
  board ws hs vs = record { words = ws; homes = hs; views = vs }

  pub sits : (slots x : ℕ) → Enters (Orderly P bells n) slots x (λ found v. Sits {S = S} (step slots x 0 0 none) (room bells, []) found (v, []))
  sits slots x s o _ _ = (
    room bells,
    record {
      sized = o.sized;
      stored = o.stored;
      known = λ port v atv. ⊎_elim (λ old. o.known port v old) (λ e. sym e) (at_snoc s.views (room bells) v port atv);
      home = o.home;
    },
    refl,
  )

  unmoved : (s : St) → Orderly P bells n s → (x id : ℕ) (v : Room) → get_elem? s.views id ≡ some v → Orderly P bells n (board (set s.words x (get_or s.words x 0)) s.homes (set s.views id v))
  unmoved s o x id v me = subst (λ (ws : List ℕ). Orderly P bells n (board ws s.homes (set s.views id v))) (sym (set-get_or s.words x 0))
      (subst (λ (vs : List Room). Orderly P bells n (board s.words s.homes vs)) (sym (set_again s.views id v me)) o)

  -- the word of a queue becomes another, and its slot as well
  at_queue : (s : St) → Orderly P bells n s → (i k : ℕ) (h : Option S) (id : ℕ) (v : Room) → i ≤ n → get_elem? s.views id ≡ some v
      → (k ≢ 1 → (queue : S) × (get_elem? (set s.homes i h) i ≡ some (some queue)) × P bells i queue) → Orderly P bells n (board (set s.words (padding * i) k) (set s.homes i h) (set s.views id v))
  at_queue s o i k h id v near me here = let long = o.sized in record {
    sized = length-set s.words (padding * i) k ∙ o.sized;
    stored = length-set s.homes i h ∙ o.stored;
    known = λ port u atu. ⊎_elim (λ t. o.known port u (ap (λ (y : ℕ). get_elem? s.views y) t.0 ∙ (me ∙ ap some t.1))) (λ t. o.known port u t.1) (at_set s.views id port v u atu);
    home = λ r le unlocked. dite (ℕ_discrete r i)
        (λ e. let t = here (λ one. unlocked (ap (λ (y : ℕ). get_or (set s.words (padding * i) k) (padding * y) 0) e ∙ (get_or-set_same s.words (padding * i) k 0 (omega arith) ∙ one))) in
        subst (λ (y : ℕ). (queue : S) × (get_elem? (set s.homes i h) y ≡ some (some queue)) × P bells y queue) (sym e) t)
        (λ ne. let t = o.home r le (λ one. unlocked (get_or-set_other s.words (padding * i) (padding * r) k 0 (λ e. ne (omega arith)) ∙ one)) in (t.0, set_else s.homes i r h ne ∙ t.1, t.2));
  }

  pub locks : (slots id : ℕ) (me : Me S Room) (x i : ℕ) (said : Option S) → x ≡ padding * i → i ≤ n → me.0 ≡ room bells → Allows (Orderly P bells n) slots id me x (λ y. either (eqb y 0) 1 y) (Locks P (step slots x 0 1 said) me)
  locks slots id me x i said is near knows s o many mine small =
      exchanged (get_or s.words x 0) 0 1 (λ y. (w : Room) × (a : Act S) × Valid s.homes me.1 a × Orderly P bells n (stepped s x y id me.1 w a) × Locks P (step slots x 0 1 said) me (get_or s.words x 0) (w, carried_after me.1 a))
      (λ hit. let t = o.home i near (λ one. let e = ap (λ (y : ℕ). get_or s.words y 0) (sym is) ∙ hit in omega arith) in (
        me.0,
        takes i t.0,
        t.1,
        subst (λ (y : ℕ). Orderly P bells n (board (set s.words y 1) (set s.homes i none) (set s.views id me.0))) (sym is) (at_queue s o i 1 none id me.0 near mine (λ ne. absurd (ne refl))),
        (
          (λ _ r at. let same : i ≡ r = (let e = sym is ∙ at in omega arith) in
              subst (λ (y : ℕ). (queue : S) × (◌≡◌ {A = Me S Room} (me.0, (i, t.0) ∷ me.1) (me.0, (y, queue) ∷ me.1)) × P me.0.bells y queue) same (t.0, refl, subst (λ (b : Room). P b.bells i t.0) (sym knows) t.2)),
          λ miss. absurd (miss hit),
        ),
      ))
      (λ miss. (me.0, keeps, tt, unmoved s o x id me.0 mine, ((λ hit. absurd (miss hit)), λ _. refl)))

  unlocks_as : (slots id : ℕ) (v : Room) (x i : ℕ) (queue : S) → x ≡ padding * i → i ≤ n → P bells i queue
      → Allows (Orderly P bells n) slots id (v, (i, queue) ∷ []) x (λ _. 0) (λ _. Unlocks (step slots x 0 0 none) (v, (i, queue) ∷ []) 0)
  unlocks_as slots id v x i queue is near stored s o many mine small = let all = o.stored in (
    v,
    gives,
    tt,
    subst (λ (y : ℕ). Orderly P bells n (board (set s.words y 0) (set s.homes i (some queue)) (set s.views id v))) (sym is)
        (at_queue s o i 0 (some queue) id v near mine (λ _. (queue, set_here s.homes i (some queue) (omega arith), stored))),
    refl,
  )

  pub unlocks : (slots id : ℕ) (me : Me S Room) (x i : ℕ) (queue : S) → x ≡ padding * i → i ≤ n → me.1 ≡ (i, queue) ∷ [] → P bells i queue
      → Allows (Orderly P bells n) slots id me x (λ _. 0) (λ _. Unlocks (step slots x 0 0 none) me 0)
  unlocks slots id me x i queue is near has stored =
      subst (λ (m : Me S Room). Allows (Orderly P bells n) slots id m x (λ _. 0) (λ _. Unlocks (step slots x 0 0 none) m 0)) (ap (λ (l : List (ℕ × S)). (me.0, l)) (sym has)) (unlocks_as slots id me.0 x i queue is near stored)

  stored_each : (l : List S) (i : ℕ) → i < length l → ((k : ℕ) (queue : S) → get_elem? l k ≡ some queue → P bells k queue) → (queue : S) × (get_elem? (map some l) i ≡ some (some queue)) × P bells i queue
  stored_each l i lt each = let t = at_some l i lt in (t.0, at_map some l i t.0 t.1, each i t.0 t.1)

  pub opens : (words : List ℕ) (queues : List S) → length words ≡ padding * (n + 1) → length queues ≡ n + 1 → ((i : ℕ) (queue : S) → get_elem? queues i ≡ some queue → P bells i queue) → Orderly P bells n (opening words queues (room bells))
  opens words queues long many each = record {
    sized = long;
    stored = length-map queues some ∙ many;
    known = λ port v atv. at_one (room bells) port v atv;
    home = λ i le _. stored_each queues i (omega arith) each;
  }

-- an item more at the end of a list, where P holds of each item and its number
snoc : {A : Type 0} (P : ℕ → A → Type 0) (old : List A) (x : A) → ((i : ℕ) (a : A) → get_elem? old i ≡ some a → P i a) → P (length old) x → (i : ℕ) (a : A) → get_elem? (old ++ x ∷ []) i ≡ some a → P i a
snoc P [] x each last zero a at = subst (P 0) (some-injective x a at) last
snoc P [] x each last (suc i) a at = absurd (some-ne-none a (sym at))
snoc P (y ∷ ys) x each last zero a at = each 0 a at
snoc P (y ∷ ys) x each last (suc i) a at = snoc (λ k. P (suc k)) ys x (λ k. each (suc k)) last i a at

pub each-more : {A : Type 0} (P : ℕ → A → Type 0) (old new : List A) (x : A) (n : ℕ) → new ≡ old ++ x ∷ [] → length old ≡ n → ((i : ℕ) (a : A) → get_elem? old i ≡ some a → P i a) → P n x → (i : ℕ) (a : A) → get_elem? new i ≡ some a → P i a
each-more {A} P old new x n is long each last i a at = snoc P old x each (subst (λ (k : ℕ). P k x) (sym long) last) i a (ap (λ (l : List A). get_elem? l i) (sym is) ∙ at)

-- two cuts of one list: what is between them
pub between : {A : Type 0} (a b c d : List A) → a ++ b ≡ c ++ d → length c ≤ length a → (piece : List A) × (a ≡ c ++ piece) × (d ≡ piece ++ b)
between a b [] d cut le = (a, refl, sym cut)
between [] b (x ∷ c) d cut le = absurd (omega arith)
between {A} (y ∷ a) b (x ∷ c) d cut le = let t = between a b c d (ap (drop 1) cut) (omega arith) in
    (t.0, ap (λ (l : List A). y ∷ l) t.1 ∙ ap (λ (z : A). z ∷ c ++ t.0) (some-injective y x (ap (λ (l : List A). get_elem? l 0) cut)), t.2)

-- a seat that locked a queue has it alone, as it was stored
pub locked : {S : Type 0} (P : TableId → ℕ → S → Type 0) (bells : TableId) (i : ℕ) (before after : Me S Room) → (queue : S) × (after ≡ (before.0, (i, queue) ∷ before.1)) × P before.0.bells i queue → before ≡ (room bells, []) → (queue : S) × HasQueue i after queue × P bells i queue
locked {S} P bells i before after told was =
    (told.0, ap (λ (m : Me S Room). m.1) told.1 ∙ ap (λ (m : Me S Room). (i, told.0) ∷ m.1) was, subst (λ (m : Me S Room). P m.0.bells i told.0) was told.2)

module _ {S : Type 0} where
  -- what a seat that has one queue alone lends
  pub lends : (i : ℕ) (slots : List (ℕ × S)) (held : S) → slots ≡ (i, held) ∷ [] → (queue : S) × (slots ≡ (i, queue) ∷ rest slots)
  lends i slots held has = (held, has ∙ ap (λ (l : List (ℕ × S)). (i, held) ∷ l) (sym (ap rest has)))

  -- it has that queue alone when the loan is over
  pub stored_again : (P : TableId → ℕ → S → Type 0) (bells : TableId) (i : ℕ) (slots : List (ℕ × S)) (held left : S) → slots ≡ (i, held) ∷ [] → P bells i left → (queue : S) × (◌≡◌ {A = List (ℕ × S)} ((i, left) ∷ rest slots) ((i, queue) ∷ [])) × P bells i queue
  stored_again P bells i slots held left has stored = (left, ap (λ (l : List (ℕ × S)). (i, left) ∷ l) (ap rest has), stored)
