-- One act more: the interleaving, and what each seat knows of it.
use Rattle.std.proofs.Common.{◌≡◌, ℕ, zero, suc, ◌+◌, ◌-◌, ◌<◌, ◌≤◌, ◌≢◌, Bool, cond, eqb, false, Option, Some, None, List, [], ◌∷◌, ◌++◌, length, map, set, sym, refl, ap, ◌∙◌, subst, ⊎_elim, ◌⊎◌, inl, inr, arith, length-set, length-append, eq-eqb, ne_eqb}
use Rattle.std.specs.Prelude.{◌||◌, nat_lt, not, slice_get}
use Rattle.std.proofs.lemmas.Bool.{lt-ltb}
use mathlib.Core.Option.{some, some-injective, some-ne-none}
use native.Mathlib.Decide.{dec_le}
use lib.ListN.{get_elem?}
use Rattle.atomic_table.proofs.Lists.{at_set, set_here, set_else, at_longer}
use Rattle.task_steps.proofs.Vocabulary.{Position, At, Lent, Act, State, bit, written, Outcome, rule, Machine, Step, opening, step, scene, begins, moves, after, run, run_from, Deed, Tries, Member, View, rule_word}
use Rattle.task_steps.specs.Rule.{deed, member, view, fresh, found_by, Entry, Reaches, steps_of, noted_if, deeds_of, DidLast, lender, differ, writes, written_since, Tried, trying, IsParty, Explains}
use Rattle.task_steps.proofs.Written.{stale_by}

module _ {A : Type 0} where
  pub inside : (l : List A) (i : ℕ) (a : A) → get_elem? l i ≡ some a → i < length l
  inside [] i a e = absurd (some-ne-none a (sym e))
  inside (x ∷ xs) zero a e = omega arith
  inside (x ∷ xs) (suc i) a e = let h = inside xs i a e in omega arith

  pub got : (l : List A) (i : ℕ) (a : A) → get_elem? l i ≡ some a → slice_get l i ≡ Some a
  got [] i a e = absurd (some-ne-none a (sym e))
  got (x ∷ xs) zero a e = ap (λ y. Some y) (some-injective x a e)
  got (x ∷ xs) (suc i) a e = got xs i a e

  pub got_inside : (l : List A) (i : ℕ) (a : A) → slice_get l i ≡ Some a → i < length l
  got_inside [] i a e = cc
  got_inside (x ∷ xs) zero a e = omega arith
  got_inside (x ∷ xs) (suc i) a e = let h = got_inside xs i a e in omega arith

  -- an element of two lists in a row
  pub at_append : (l m : List A) (j : ℕ) (b : A) → get_elem? (l ++ m) j ≡ some b → (get_elem? l j ≡ some b) ⊎ ((n : ℕ) × (j ≡ length l + n) × (get_elem? m n ≡ some b))
  at_append [] m j b e = inr (j, omega arith, e)
  at_append (x ∷ xs) m zero b e = inl e
  at_append (x ∷ xs) m (suc j) b e = ⊎_elim (λ f. inl f) (λ f. inr (f.0, (let e = f.1 in omega arith), f.2)) (at_append xs m j b e)

  pub at_second : (l m : List A) (n : ℕ) (b : A) → get_elem? m n ≡ some b → get_elem? (l ++ m) (length l + n) ≡ some b
  at_second [] m n b e = let q : n ≡ 0 + n = omega arith in subst (λ (q : ℕ). get_elem? m q ≡ some b) q e
  at_second (x ∷ xs) m n b e = let q : suc (length xs + n) ≡ suc (length xs) + n = omega arith in subst (λ (q : ℕ). get_elem? (x ∷ (xs ++ m)) q ≡ some b) q (at_second xs m n b e)

  pub at_mapped : {B : Type 0} (f : A → B) (l : List A) (j : ℕ) (b : B) → get_elem? (map f l) j ≡ some b → (a : A) × (get_elem? l j ≡ some a) × (f a ≡ b)
  at_mapped f [] j b e = absurd (some-ne-none b (sym e))
  at_mapped f (x ∷ xs) zero b e = (x, refl, some-injective (f x) b e)
  at_mapped f (x ∷ xs) (suc j) b e = at_mapped f xs j b e

-- the machine after what party k leaves
abbrev pub next_machine : Machine → ℕ → Position → Outcome → Machine
next_machine m k p o = record {
  limit = m.limit;
  word = o.word;
  slots = o.slots;
  parties = set m.parties k o.next ++ o.born;
  trace = o.told ++ (begins p ++ m.trace);
}

-- a step by what the rule allows
pub step_is : (m : Machine) (k : ℕ) (a : Act) (p : Position) (o : Outcome) → get_elem? m.parties k ≡ some p → rule (scene m) a p ≡ Some o → step m (record { party = k; act = a }) ≡ Some (next_machine m k p o)
step_is m k a p o at e = ap (λ x. moves m k a x) (got m.parties k p at) ∙ ap (λ x. after m k p x) e

after_grows : (n m : Machine) (k : ℕ) (p : Position) (x : Option Outcome) → after n k p x ≡ Some m → length n.parties ≤ length m.parties
after_grows n m k p None e = absurd (cc)
after_grows n m k p (Some o) e = let is : next_machine n k p o ≡ m = cc in
    subst (λ (y : Machine). length n.parties ≤ length y.parties) is (omega (arith, length-append (set n.parties k o.next) o.born, length-set n.parties k o.next))

moves_grow : (n m : Machine) (k : ℕ) (a : Act) (x : Option Position) → slice_get n.parties k ≡ x → moves n k a x ≡ Some m → (k < length n.parties) × (length n.parties ≤ length m.parties)
moves_grow n m k a None at e = absurd (cc)
moves_grow n m k a (Some p) at e = (got_inside n.parties k p at, after_grows n m k p (rule (scene n) a p) e)

-- a party that is still to come has done nothing
pub unborn : (limit : ℕ) (log : List Entry) (m : Machine) (k : ℕ) → Reaches limit log m → length m.parties ≤ k → deeds_of k log ≡ []
unborn limit [] m k r h = refl
unborn limit (e ∷ es) m k r h = let g = moves_grow r.0 m e.party e.deed.act (slice_get (r.0).parties e.party) refl r.3 in
    ap (λ b. noted_if b e.deed (deeds_of k es)) (ne_eqb e.party k (λ z. let a = g.0 in let b = g.1 in omega arith)) ∙ unborn limit es r.0 k r.1 (let b = g.1 in omega arith)

-- the interleaving is one of the machine's own runs
run_snoc : (m : Option Machine) (l : List Step) (s : Step) (n p : Machine) → run_from m l ≡ Some n → step n s ≡ Some p → run_from m (l ++ s ∷ []) ≡ Some p
run_snoc None [] s n p e f = absurd (cc)
run_snoc (Some m) [] s n p e f = let is : m ≡ n = cc in ap (λ (x : Machine). step x s) is ∙ f
run_snoc None (x ∷ l) s n p e f = absurd (cc)
run_snoc (Some m) (x ∷ l) s n p e f = run_snoc (step m x) l s n p e f

pub runs : (limit : ℕ) (log : List Entry) (m : Machine) → Reaches limit log m → run limit (steps_of log) ≡ Some m
runs limit [] m r = ap (λ x. Some x) (sym r)
runs limit (e ∷ es) m r = run_snoc (Some (opening limit)) (steps_of es) (record { party = e.party; act = e.deed.act }) r.0 m (runs limit es r.0 r.1) r.3

-- nothing was done last, whatever was done
pub did_nothing : (k : ℕ) (log : List Entry) → DidLast k log []
did_nothing k log = (deeds_of k log, refl)

-- the newest part of a list, with the next deed before it or not
abbrev Newest : List Deed → List Deed → Type 0
Newest all ds = (older : List Deed) × (all ≡ ds ++ older)

-- the parties from q on are the members from n on of this seat
abbrev pick : (h : ℕ → ℕ × ℕ) (q seat n k : ℕ) → Dec (q ≤ k) → ℕ × ℕ
pick h q seat n k (yes d) = (seat, n + (k - q))
pick h q seat n k (no d) = h k

abbrev renamed : (ℕ → ℕ × ℕ) → ℕ → ℕ → ℕ → ℕ → ℕ × ℕ
renamed h q seat n k = pick h q seat n k (dec_le q k)

pick_old : (h : ℕ → ℕ × ℕ) (q seat n k : ℕ) (d : Dec (q ≤ k)) → k < q → pick h q seat n k d ≡ h k
pick_old h q seat n k (yes d) lt = absurd (omega arith)
pick_old h q seat n k (no d) lt = refl

pick_new : (h : ℕ → ℕ × ℕ) (q seat n j : ℕ) (d : Dec (q ≤ q + j)) → pick h q seat n (q + j) d ≡ (seat, n + j)
pick_new h q seat n j (yes d) = let e : q + j - q ≡ j = omega arith in ap (λ (x : ℕ). (seat, n + x)) e
pick_new h q seat n j (no d) = absurd (d (omega arith))

-- what the seat knows after an act of its member i, in the place of u
abbrev pub grown : View → ℕ → Act → Machine → Member → Outcome → View
grown v i a m u o = view v.limit (set v.members i (member o.next (deed a (found_by a m.word) ∷ u.deeds)) ++ map fresh o.born)

module _ (limit : ℕ) (log : List Entry) (m : Machine) (h : ℕ → ℕ × ℕ) (r : Reaches limit log m) (lent : get_elem? m.parties lender ≡ some (At Lent)) (k seat n : ℕ) (a : Act) (p : Position) (o : Outcome) (wrote : o.word ≡ written a m.word) where
  abbrev Q : ℕ
  Q = length m.parties

  abbrev E : Entry
  E = record { party = k; deed = deed a (found_by a m.word); parties = length m.parties }

  abbrev M : Machine
  M = next_machine m k p o

  abbrev H : ℕ → ℕ × ℕ
  H = renamed h Q seat n

  -- what another party has seen may be stale after the act only if the act writes
  tried_still : (t : Option Tries) (l : ℕ) → eqb k l ≡ false → l < Q → Tried l log m.word t → Tried l (E ∷ log) M.word t
  tried_still None l ne lt h = tt
  tried_still (Some t) l ne lt h = let older : (eqb k l || not (nat_lt l Q)) ≡ false = λ i. ne i || not (lt-ltb l Q lt i) in
      subst (λ (z : Bool × State). t.misses + bit (differ t.seen z.1) ≤ cond z.0 0 (bit (writes a (found_by a m.word)) + written_since l log)) (λ i. (sym older i, sym wrote i)) (omega (arith, stale_by t.seen m.word a))

  other : (s j : ℕ) (x : Member) (l : ℕ) → l ≢ k → IsParty m log h s j x l → IsParty M (E ∷ log) H s j x l
  other s j x l ne f = record {
    seated = pick_old h Q seat n l (dec_le Q l) (inside m.parties l x.at f.at) ∙ f.seated;
    apart = f.apart;
    at = at_longer (set m.parties k o.next) o.born l x.at (set_else m.parties k l o.next ne ∙ f.at);
    did = subst (λ b. Newest (noted_if b (deed a (found_by a m.word)) (deeds_of l log)) x.deeds) (sym (ne_eqb k l (λ e. ne (sym e)))) f.did;
    tried = tried_still x.tries l (ne_eqb k l (λ e. ne (sym e))) (inside m.parties l x.at f.at) f.tried;
  }

  own : (i : ℕ) (u : Member) → IsParty m log h seat i u k → IsParty M (E ∷ log) H seat i (member o.next (deed a (found_by a m.word) ∷ u.deeds)) k
  own i u mine = record {
    seated = pick_old h Q seat n k (dec_le Q k) (inside m.parties k u.at mine.at) ∙ mine.seated;
    apart = mine.apart;
    at = at_longer (set m.parties k o.next) o.born k o.next (set_here m.parties k o.next (inside m.parties k u.at mine.at));
    did = subst (λ b. Newest (noted_if b (deed a (found_by a m.word)) (deeds_of k log)) (deed a (found_by a m.word) ∷ u.deeds)) (sym (eq-eqb k k refl)) (mine.did.0, ap (λ l. deed a (found_by a m.word) ∷ l) mine.did.1);
    tried = tt;
  }

  born : (j : ℕ) (p : Position) → get_elem? o.born j ≡ some p → IsParty M (E ∷ log) H seat (n + j) (fresh p) (Q + j)
  born j p e = record {
    seated = pick_new h Q seat n j (dec_le Q (Q + j));
    apart = λ z. let g = inside m.parties lender (At Lent) lent in omega arith;
    at = subst (λ (q : ℕ). get_elem? (set m.parties k o.next ++ o.born) (q + j) ≡ some p) (length-set m.parties k o.next) (at_second (set m.parties k o.next) o.born j p e);
    did = did_nothing (Q + j) (E ∷ log);
    tried = tt;
  }

-- the lender stays where it is while others act
still_lent : (m : Machine) (k : ℕ) (p : Position) (o : Outcome) → get_elem? m.parties lender ≡ some (At Lent) → k ≢ lender → get_elem? (next_machine m k p o).parties lender ≡ some (At Lent)
still_lent m k p o lent apart = at_longer (set m.parties k o.next) o.born lender (At Lent) (set_else m.parties k lender o.next (λ e. apart (sym e)) ∙ lent)

-- an act of one of the seat's parties that the machine allows
pub tells : (limit : ℕ) (views : List View) (seat : ℕ) (v : View) (i : ℕ) (u : Member) (a : Act) (o : Outcome) (log : List Entry) (m : Machine) → Explains limit (set views seat v) log m → seat < length views
    → get_elem? v.members i ≡ some u → rule (scene m) a u.at ≡ Some o
    → (k : ℕ) × (get_elem? m.parties k ≡ some u.at) × (e : Entry) × Explains limit (set views seat (grown v i a m u o)) (e ∷ log) (next_machine m k u.at o)
tells limit views seat v i u a o log m t lt is allowed = let wrote = rule_word (scene m) a u.at o allowed in let here = set_here views seat v lt in let mine = t.each seat i v u here is in let k : ℕ = mine.0 in let n : ℕ = length v.members in
    let w : View = grown v i a m u o in let e : Entry = record { party = k; deed = deed a (found_by a m.word); parties = length m.parties } in let M : Machine = next_machine m k u.at o in
    let H = renamed t.holder (length m.parties) seat n in
    let keep : (s j : ℕ) (x : Member) → ((s, j) ≢ (seat, i)) → ((l : ℕ) × IsParty m log t.holder s j x l) → (l : ℕ) × IsParty M (e ∷ log) H s j x l =
    (λ s j x ne f. (f.0, other limit log m t.holder t.reaches t.lends k seat n a u.at o wrote s j x f.0 (λ z. ne (sym f.1.seated ∙ (ap t.holder z ∙ mine.1.seated))) f.1)) in
    let within : (j : ℕ) (x : Member) → get_elem? w.members j ≡ some x → (l : ℕ) × IsParty M (e ∷ log) H seat j x l =
    (λ j x f. ⊎_elim
    (λ (g : get_elem? (set v.members i (member o.next (deed a (found_by a m.word) ∷ u.deeds))) j ≡ some x). ⊎_elim
    (λ (y : (j ≡ i) × (member o.next (deed a (found_by a m.word) ∷ u.deeds) ≡ x)). (k, subst (λ (z : ℕ × Member). IsParty M (e ∷ log) H seat z.0 z.1 k) (λ q. (sym y.0 q, y.1 q)) (own limit log m t.holder t.reaches t.lends k seat n a u.at o wrote i u mine.1)))
    (λ (y : (j ≢ i) × (get_elem? v.members j ≡ some x)). keep seat j x (λ z. y.0 (ap (λ (p : ℕ × ℕ). p.1) z)) (t.each seat j v x here y.1))
    (at_set v.members i j (member o.next (deed a (found_by a m.word) ∷ u.deeds)) x g))
    (λ (g : (b : ℕ) × (j ≡ length (set v.members i (member o.next (deed a (found_by a m.word) ∷ u.deeds))) + b) × (get_elem? (map fresh o.born) b ≡ some x)).
    let p = at_mapped fresh o.born g.0 x g.2 in
    let is : j ≡ n + g.0 = g.1 ∙ ap (λ (q : ℕ). q + g.0) (length-set v.members i (member o.next (deed a (found_by a m.word) ∷ u.deeds))) in
    (length m.parties + g.0, subst (λ (z : ℕ × Member). IsParty M (e ∷ log) H seat z.0 z.1 (length m.parties + g.0)) (λ q. (sym is q, p.2 q)) (born limit log m t.holder t.reaches t.lends k seat n a u.at o wrote g.0 p.0 p.1)))
    (at_append (set v.members i (member o.next (deed a (found_by a m.word) ∷ u.deeds))) (map fresh o.born) j x f)) in (
      k,
      mine.1.at,
      e,
      record {
        holder = H;
        reaches = (m, t.reaches, refl, step_is m k a u.at o mine.1.at allowed, refl);
        lends = still_lent m k u.at o t.lends mine.1.apart;
        limited = λ s j x y f g. ⊎_elim (λ (z : (s ≡ seat) × (w ≡ x)). sym (ap (λ (q : View). q.limit) z.1) ∙ t.limited seat i v u here is) (λ (z : (s ≢ seat) × (get_elem? views s ≡ some x)). t.limited s j x y (set_else views seat s v z.0 ∙ z.1) g) (at_set views seat s w x f);
        each = λ s j x y f g. ⊎_elim
            (λ (z : (s ≡ seat) × (w ≡ x)). subst (λ (q : ℕ). (l : ℕ) × IsParty M (e ∷ log) H q j y l) (sym z.0) (within j y (ap (λ (q : View). get_elem? q.members j) z.1 ∙ g)))
            (λ (z : (s ≢ seat) × (get_elem? views s ≡ some x)). keep s j y (λ q. z.0 (ap (λ (p : ℕ × ℕ). p.0) q)) (t.each s j x y (set_else views seat s v z.0 ∙ z.1) g))
            (at_set views seat s w x f);
      },
    )

-- an act of the lender by which it comes back to where it stood: what it adds is a new seat's
pub joined_by : (limit : ℕ) (views : List View) (log : List Entry) (m : Machine) (a : Act) (born : Position) (o : Outcome) → Explains limit views log m → rule (scene m) a (At Lent) ≡ Some o → o.next ≡ At Lent → o.born ≡ born ∷ []
    → Explains limit (views ++ view limit (fresh born ∷ []) ∷ []) (record { party = lender; deed = deed a (found_by a m.word); parties = length m.parties } ∷ log) (next_machine m lender (At Lent) o)
joined_by limit views log m a b o t allowed back one = let wrote = rule_word (scene m) a (At Lent) o allowed in let e : Entry = record { party = lender; deed = deed a (found_by a m.word); parties = length m.parties } in let M : Machine = next_machine m lender (At Lent) o in let seat : ℕ = length views in
    let w : View = view limit (fresh b ∷ []) in let H = renamed t.holder (length m.parties) seat 0 in record {
      holder = H;
      reaches = (m, t.reaches, refl, step_is m lender a (At Lent) o t.lends allowed, refl);
      lends = at_longer (set m.parties lender o.next) o.born lender (At Lent) (set_here m.parties lender o.next (inside m.parties lender (At Lent) t.lends) ∙ ap (λ p. some p) back);
      limited = λ s j x y f g. ⊎_elim (λ (z : get_elem? views s ≡ some x). t.limited s j x y z g) (λ (z : (n : ℕ) × (s ≡ length views + n) × (get_elem? (w ∷ []) n ≡ some x)). sym (ap (λ (q : View). q.limit) (only w z.0 x z.2).1)) (at_append views (w ∷ []) s x f);
      each = λ s j x y f g. ⊎_elim
          (λ (z : get_elem? views s ≡ some x). let k = t.each s j x y z g in (k.0, other limit log m t.holder t.reaches t.lends lender seat 0 a (At Lent) o wrote s j y k.0 k.1.apart k.1))
          (λ (z : (n : ℕ) × (s ≡ length views + n) × (get_elem? (w ∷ []) n ≡ some x)). let p = only w z.0 x z.2 in let q = only (fresh b) j y (ap (λ (v : View). get_elem? v.members j) p.1 ∙ g) in
          let there : seat ≡ s = (let c = z.1 in let d = p.0 in omega arith) in
          (length m.parties + 0, subst (λ (c : ℕ × ℕ × Member). IsParty M (e ∷ log) H c.0 c.1 c.2 (length m.parties + 0)) (λ i. (there i, sym q.0 i, q.1 i)) (born limit log m t.holder t.reaches t.lends lender seat 0 a (At Lent) o wrote 0 b (ap (λ l. get_elem? l 0) one))))
          (at_append views (w ∷ []) s x f);
    }
  where
    only : {X : Type 0} (v : X) (n : ℕ) (x : X) → get_elem? (v ∷ []) n ≡ some x → (n ≡ 0) × (v ≡ x)
    only v zero x e = (refl, some-injective v x e)
    only v (suc n) x e = absurd (some-ne-none x (sym e))

-- parties change their seats
pub regroups : (limit : ℕ) (views views' : List View) (log : List Entry) (m : Machine) (to : ℕ × ℕ → ℕ × ℕ) → Explains limit views log m
    → ((seat index : ℕ) (v : View) (u : Member) → get_elem? views' seat ≡ some v → get_elem? v.members index ≡ some u
    → (s j : ℕ) × (w : View) × (get_elem? views s ≡ some w) × (get_elem? w.members j ≡ some u) × (to (s, j) ≡ (seat, index)) × (v.limit ≡ w.limit))
    → Explains limit views' log m
regroups limit views views' log m to t from = record {
  holder = λ k. to (t.holder k);
  reaches = t.reaches;
  lends = t.lends;
  limited = λ seat index v u f g. let x = from seat index v u f g in x.6 ∙ t.limited x.0 x.1 x.2 u x.3 x.4;
  each = λ seat index v u f g. let x = from seat index v u f g in let k = t.each x.0 x.1 x.2 u x.3 x.4 in (k.0, record { seated = ap to k.1.seated ∙ x.5; apart = k.1.apart; at = k.1.at; did = k.1.did; tried = k.1.tried });
}

-- a party looks, or misses, and nothing else changes: what its tries say is to be shown of the party that it is
pub retries : (limit : ℕ) (views : List View) (seat l : ℕ) (p : Position) (ds : List Deed) (t new : Option Tries) (us : List Member) (log : List Entry) (m : Machine) → Explains limit (set views seat (view l (trying p ds t ∷ us))) log m → seat < length views
    → ((k : ℕ) → Tried k log m.word t → Tried k log m.word new) → Explains limit (set views seat (view l (trying p ds new ∷ us))) log m
retries limit views seat l p ds t new us log m told lt shows = let v : View = view l (trying p ds t ∷ us) in let w : View = view l (trying p ds new ∷ us) in let here = set_here views seat v lt in record {
  holder = told.holder;
  reaches = told.reaches;
  lends = told.lends;
  limited = λ s j x y f g. ⊎_elim (λ (z : (s ≡ seat) × (w ≡ x)). ap (λ (q : View). q.limit) (sym z.1) ∙ told.limited seat 0 v (trying p ds t) here refl) (λ (z : (s ≢ seat) × (get_elem? views s ≡ some x)). told.limited s j x y (set_else views seat s v z.0 ∙ z.1) g) (at_set views seat s w x f);
  each = λ s j x y f g. ⊎_elim
      (λ (z : (s ≡ seat) × (w ≡ x)). subst (λ (q : ℕ). (k : ℕ) × IsParty m log told.holder q j y k) (sym z.0) (mine j y (ap (λ (q : View). get_elem? q.members j) z.1 ∙ g)))
      (λ (z : (s ≢ seat) × (get_elem? views s ≡ some x)). told.each s j x y (set_else views seat s v z.0 ∙ z.1) g)
      (at_set views seat s w x f);
}
  where
    mine : (j : ℕ) (y : Member) → get_elem? (trying p ds new ∷ us) j ≡ some y → (k : ℕ) × IsParty m log told.holder seat j y k
    mine zero y e = let k = told.each seat 0 (view l (trying p ds t ∷ us)) (trying p ds t) (set_here views seat (view l (trying p ds t ∷ us)) lt) refl in
        (k.0, subst (λ (u : Member). IsParty m log told.holder seat 0 u k.0) (some-injective (trying p ds new) y e) (record { seated = k.1.seated; apart = k.1.apart; at = k.1.at; did = k.1.did; tried = shows k.0 k.1.tried }))
    mine (suc j) y e = told.each seat (suc j) (view l (trying p ds t ∷ us)) y (set_here views seat (view l (trying p ds t ∷ us)) lt) e
