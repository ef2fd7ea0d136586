-- Each step on the bells keeps the rule of sleep.
use Rattle.std.proofs.Common.{◌≡◌, ◌≢◌, ℕ, zero, suc, ◌+◌, ◌-◌, ◌%◌, ◌<◌, ◌≤◌, ◌⊎◌, List, [], ◌∷◌, ◌++◌, get_or, set, sym, refl, ap, ◌∙◌, subst, inl, inr, ⊎_elim, arith, length-set, get_or-set_other, get_or-set_same, eqb}
use mathlib.Core.Logic.{dite}
use mathlib.Core.Option.{Option, none, some, some-injective, some-ne-none}
use native.Mathlib.Decide.{ℕ_discrete}
use lib.ListN.{get_elem?}
use lib.Seq.{set-get_or}
use prog.Atomic.{either}
use Rattle.atomic_table.specs.Table.{State, Me, Act, Valid, carried_after, stepped, step, keeps, Allows, Enters}
use Rattle.atomic_table.proofs.Lists.{at_set, set_else, set_again, at_longer, at_snoc, exchanged}
use Rattle.work_queues.specs.declared.view.View.{View}
use Rattle.work_queues.specs.Sleep.{flag_word, worker_word, searcher_word, sleepers_word, word_count, hidden, shown, awake, asleep, interrupted, woken, free, this, Searches, Sleeps, view, blank, has_right, owing, paid, left_of, sees, searches, sleeps, one, sleepers, AnySeat, Owes, IsWoken, Watch, Finds, Takes, GivesBack, Shows, Hides, due, not_due, taken, roused, knows, interrupts, Interrupts, LooksWhetherDue, Hears, Permits, Rouses, LooksForSleepers, LooksForSearcher, LooksAtWorker, Wakes, LooksAtFlag, Settles, BeginsSearch, EndsSearch, Counts, LiesDown, GetsUp, CountsNot}

-- a seat whose view is w in place of v
reaches : (l : List View) (i : ℕ) (a b : View) → get_elem? l i ≡ some a → get_elem? (set l i b) i ≡ some b
reaches [] i a b e = absurd (some-ne-none a (sym e))
reaches (x ∷ xs) zero a b e = refl
reaches (x ∷ xs) (suc i) a b e = reaches xs i a b e

any_still : (P : View → Type 0) (views : List View) (id : ℕ) (v w : View) → get_elem? views id ≡ some v → (P v → P w) → AnySeat P views → AnySeat P (set views id w)
any_still P views id v w me f any = dite (ℕ_discrete any.0 id)
    (λ e. (id, w, reaches views id v w me, f (subst P (some-injective any.1 v (sym any.2 ∙ (ap (λ (k : ℕ). get_elem? views k) e ∙ me))) any.3)))
    (λ ne. (any.0, any.1, set_else views id any.0 w ne ∙ any.2, any.3))

any_here : (P : View → Type 0) (views : List View) (id : ℕ) (v w : View) → get_elem? views id ≡ some v → P w → AnySeat P (set views id w)
any_here P views id v w me p = (id, w, reaches views id v w me, p)

-- the seat at a port had the same right before
before : (views : List View) (id : ℕ) (v w : View) → get_elem? views id ≡ some v → w.right ≡ v.right → (port : ℕ) (u : View) → get_elem? (set views id w) port ≡ some u → (old : View) × (get_elem? views port ≡ some old) × (old.right ≡ u.right)
before views id v w me same port u at = ⊎_elim
    (λ t. (v, ap (λ (k : ℕ). get_elem? views k) t.0 ∙ me, sym same ∙ ap (λ (y : View). y.right) t.1))
    (λ t. (u, t.1, refl)) (at_set views id port w u at)

sleepers_set : (views : List View) (id : ℕ) (v w : View) → get_elem? views id ≡ some v → sleepers (set views id w) + one v.asleep ≡ sleepers views + one w.asleep
sleepers_set [] id v w e = absurd (some-ne-none v (sym e))
sleepers_set (x ∷ xs) zero v w e = omega (arith, ap (λ (y : View). one y.asleep) (some-injective x v e))
sleepers_set (x ∷ xs) (suc id) v w e = omega (arith, sleepers_set xs id v w e)

sleepers_one : (views : List View) (id : ℕ) (v : View) → get_elem? views id ≡ some v → one v.asleep ≤ sleepers views
sleepers_one [] id v e = absurd (some-ne-none v (sym e))
sleepers_one (x ∷ xs) zero v e = omega (arith, ap (λ (y : View). one y.asleep) (some-injective x v e))
sleepers_one (x ∷ xs) (suc id) v e = omega (arith, sleepers_one xs id v e)

sleepers_more : (views : List View) (new : View) → new.asleep ≡ 0 → sleepers (views ++ new ∷ []) ≡ sleepers views
sleepers_more [] new awake = omega (arith, ap one awake)
sleepers_more (x ∷ xs) new awake = omega (arith, sleepers_more xs new awake)

module _ (S : Type 0) (n : ℕ) where
  abbrev St : Type 0
  St = State S View

  abbrev at : St → ℕ → ℕ
  at s x = get_or s.words x 0

  abbrev state : List ℕ → List (Option S) → List View → St
  state ws hs vs = record { words = ws; homes = hs; views = vs }

  -- the rule holds where a word has become k, and the view of a seat w
  abbrev Kept : St → ℕ → ℕ → ℕ → View → Type 0
  Kept s x k id w = Watch n (state (set s.words x k) s.homes (set s.views id w))

  abbrev Watched : List ℕ → List View → Type 0
  Watched ws vs = (i j : ℕ) → i ≤ suc n → j < n → get_or ws (flag_word i) 0 ≡ shown → get_or ws (worker_word n j) 0 ≡ asleep → IsWoken n ws ⊎ (AnySeat Searches vs ⊎ AnySeat (Owes i j) vs)

  abbrev Lain : List ℕ → List View → Type 0
  Lain ws vs = (j : ℕ) → j < n → get_or ws (worker_word n j) 0 ≡ asleep → AnySeat (Sleeps n j) vs

  -- a step that changes a word, and of its seat all but the right
  still : (s : St) → Watch n s → (x k id : ℕ) (v w : View) → get_elem? s.views id ≡ some v → w.right ≡ v.right
      → (unowned : x < searcher_word n → k ≡ free → at s x ≡ free)
      → (known : (i : ℕ) → i ≤ n → v.right ≡ this (flag_word i) → get_or (set s.words x k) (flag_word i) 0 ≡ w.value)
      → (unknown : (i : ℕ) → i ≤ n → x ≡ flag_word i → (k ≡ at s x) ⊎ (v.right ≡ this x))
      → (named : get_or (set s.words x k) (searcher_word n) 0 ≢ 0 → AnySeat Searches (set s.views id w))
      → (counted : sleepers (set s.views id w) ≡ get_or (set s.words x k) (sleepers_word n) 0)
      → (lain : Lain (set s.words x k) (set s.views id w))
      → (watched : Watched (set s.words x k) (set s.views id w))
      → Kept s x k id w
  still s o x k id v w me same unowned known unknown named counted lain watched = record {
    sized = length-set s.words x k ∙ o.sized;
    unowned = λ y port u lt is atu rights. let b = before s.views id v w me same port u atu in dite (ℕ_discrete y x)
        (λ e. o.unowned y port b.0 lt (ap (at s) e ∙ unowned (subst (λ (z : ℕ). z < searcher_word n) e lt)
        (sym (get_or-set_same s.words x k 0 (let z = o.sized in omega arith)) ∙ (ap (λ (z : ℕ). get_or (set s.words x k) z 0) (sym e) ∙ is))) b.1 (b.2 ∙ rights))
        (λ ne. o.unowned y port b.0 lt (sym (get_or-set_other s.words x y k 0 ne) ∙ is) b.1 (b.2 ∙ rights));
    alone = λ y p q u t pu qt ru rt. let b = before s.views id v w me same p u pu in let c = before s.views id v w me same q t qt in o.alone y p q b.0 c.0 b.1 c.1 (b.2 ∙ ru) (c.2 ∙ rt);
    known = λ i port u le atu rights. ⊎_elim
        (λ t. known i le (sym same ∙ (ap (λ (y : View). y.right) t.1 ∙ rights)) ∙ ap (λ (y : View). y.value) t.1)
        (λ t. dite (ℕ_discrete (flag_word i) x)
        (λ e. ⊎_elim
        (λ keeps. ap (λ (z : ℕ). get_or (set s.words z k) (flag_word i) 0) (sym e) ∙ (get_or-set_same s.words (flag_word i) k 0 (let z = o.sized in omega arith) ∙ (keeps ∙ (ap (at s) (sym e) ∙ o.known i port u le t.1 rights))))
        (λ mine. absurd (t.0 (o.alone x port id u v t.1 me (rights ∙ ap suc e) mine))) (unknown i le (sym e)))
        (λ ne. get_or-set_other s.words x (flag_word i) k 0 ne ∙ o.known i port u le t.1 rights))
        (at_set s.views id port w u atu);
    named = named;
    counted = counted;
    lain = lain;
    watched = watched;
  }

  -- a step that changes no word, and of its seat only what is owed
  looks : (s : St) → Watch n s → (x id : ℕ) (v : View) → get_elem? s.views id ≡ some v → (owes seen from interruption interrupted : ℕ)
      → (pays : (i j : ℕ) → i ≤ suc n → j < n → at s (flag_word i) ≡ shown → at s (worker_word n j) ≡ asleep → Owes i j v
      → Owes i j (view v.right v.value owes seen from v.searching v.asleep interruption interrupted) ⊎ (IsWoken n s.words ⊎ AnySeat Searches s.views))
      → Kept s x (at s x) id (view v.right v.value owes seen from v.searching v.asleep interruption interrupted)
  looks s o x id v me owes seen from interruption interrupted pays =
      let w : View = view v.right v.value owes seen from v.searching v.asleep interruption interrupted in
      let vs : List View = set s.views id w in
      let count = sleepers_set s.views id v w me in
      subst (λ (ws : List ℕ). Watch n (state ws s.homes vs)) (sym (set-get_or s.words x 0)) record {
        sized = o.sized;
        unowned = λ y port u lt is atu rights. let b = before s.views id v w me refl port u atu in o.unowned y port b.0 lt is b.1 (b.2 ∙ rights);
        alone = λ y p q u t pu qt ru rt. let b = before s.views id v w me refl p u pu in let c = before s.views id v w me refl q t qt in o.alone y p q b.0 c.0 b.1 c.1 (b.2 ∙ ru) (c.2 ∙ rt);
        known = λ i port u le atu rights. ⊎_elim
            (λ t. o.known i id v le me (ap (λ (y : View). y.right) t.1 ∙ rights) ∙ ap (λ (y : View). y.value) t.1)
            (λ t. o.known i port u le t.1 rights) (at_set s.views id port w u atu);
        named = λ ne. any_still Searches s.views id v w me (λ p. p) (o.named ne);
        counted = let c = o.counted in omega arith;
        lain = λ j lt one. any_still (Sleeps n j) s.views id v w me (λ p. p) (o.lain j lt one);
        watched = λ i j le lt shows sleeping. ⊎_elim (λ woken. inl woken)
            (λ t. ⊎_elim (λ found. inr (inl (any_still Searches s.views id v w me (λ p. p) found)))
            (λ owed. dite (ℕ_discrete owed.0 id)
            (λ e. let mine : Owes i j v = subst (Owes i j) (some-injective owed.1 v (sym owed.2 ∙ (ap (λ (k : ℕ). get_elem? s.views k) e ∙ me))) owed.3 in
            ⊎_elim (λ owes. inr (inr (any_here (Owes i j) s.views id v w me owes)))
            (λ r. ⊎_elim (λ woken. inl woken) (λ found. inr (inl (any_still Searches s.views id v w me (λ p. p) found))) r)
            (pays i j le lt shows sleeping mine))
            (λ ne. inr (inr (owed.0, owed.1, set_else s.views id owed.0 w ne ∙ owed.2, owed.3)))) t)
            (o.watched i j le lt shows sleeping);
      }

  -- a step that changes nothing
  unmoved : (s : St) → Watch n s → (x id : ℕ) (v : View) → get_elem? s.views id ≡ some v → Kept s x (at s x) id v
  unmoved s o x id v me = subst (λ (ws : List ℕ). Watch n (state ws s.homes (set s.views id v))) (sym (set-get_or s.words x 0))
      (subst (λ (vs : List View). Watch n (state s.words s.homes vs)) (sym (set_again s.views id v me)) o)

  -- a step that changes no word, after which the seat knows something of interruptions
  learns : (s : St) → Watch n s → (x id : ℕ) (v : View) → get_elem? s.views id ≡ some v → (interruption interrupted : ℕ)
      → Kept s x (at s x) id (view v.right v.value v.owes v.seen v.from v.searching v.asleep interruption interrupted)
  learns s o x id v me interruption interrupted = looks s o x id v me v.owes v.seen v.from interruption interrupted (λ i j le lt shows sleeping owes. inl owes)

  -- a step by which the view of its seat becomes w
  becomes : (s : St) (id : ℕ) (me : Me S View) (x k : ℕ) (says : Me S View → Type 0) (w : View) → Kept s x k id w → says (w, me.1) → (w : View) × (a : Act S) × Valid s.homes me.1 a × Watch n (stepped s x k id me.1 w a) × says (w, carried_after me.1 a)
  becomes s id me x k says w kept said = (w, keeps, tt, kept, said)

  -- a load whose two cases keep the rule
  loads : (id : ℕ) (me : Me S View) (x sought : ℕ) (hit miss : View → View) (s : St) → (at s x ≡ sought → Kept s x (at s x) id (hit me.0)) → (at s x ≢ sought → Kept s x (at s x) id (miss me.0))
      → (w : View) × (a : Act S) × Valid s.homes me.1 a × Watch n (stepped s x (at s x) id me.1 w a) × Finds sought hit miss me (at s x) (w, carried_after me.1 a)
  loads id me x sought hit miss s hits misses = dite (ℕ_discrete (at s x) sought)
      (λ e. (hit me.0, keeps, tt, hits e, ((λ _. refl), λ ne. absurd (ne e))))
      (λ ne. (miss me.0, keeps, tt, misses ne, ((λ e. absurd (ne e)), λ _. refl)))

  -- a compare-exchange whose two cases keep the rule
  tries : (id : ℕ) (me : Me S View) (x old new : ℕ) (hit miss : View → View) (s : St) → (at s x ≡ old → Kept s x new id (hit me.0)) → (at s x ≢ old → Kept s x (at s x) id (miss me.0))
      → (w : View) × (a : Act S) × Valid s.homes me.1 a × Watch n (stepped s x (either (eqb (at s x) old) new (at s x)) id me.1 w a) × Finds old hit miss me (at s x) (w, carried_after me.1 a)
  tries id me x old new hit miss s hits misses = exchanged (at s x) old new
      (λ y. (w : View) × (a : Act S) × Valid s.homes me.1 a × Watch n (stepped s x y id me.1 w a) × Finds old hit miss me (at s x) (w, carried_after me.1 a))
      (λ e. (hit me.0, keeps, tt, hits e, ((λ _. refl), λ ne. absurd (ne e))))
      (λ ne. (miss me.0, keeps, tt, misses ne, ((λ e. absurd (ne e)), λ _. refl)))

  -- a sleeper is counted
  none_sleeps : (s : St) → Watch n s → at s (sleepers_word n) ≡ 0 → (j : ℕ) → j < n → at s (worker_word n j) ≢ asleep
  none_sleeps s o empty j lt sleeping = let lain = o.lain j lt sleeping in let some-one = sleepers_one s.views lain.0 lain.1 lain.2 in let c = o.counted in let e = ap one lain.3 in absurd (omega arith)

  pub looks_for_sleepers : (slots id : ℕ) (me : Me S View) (x : ℕ) → x ≡ sleepers_word n → Allows (Watch n) slots id me x (λ y. y) (LooksForSleepers (step slots x 0 0 none) me)
  looks_for_sleepers slots id me x is s o _ mine _ = loads id me x 0 paid owing s
      (λ e. looks s o x id me.0 mine 0 0 0 me.0.interruption me.0.interrupted (λ i j le lt shows sleeping owes. absurd (none_sleeps s o (ap (at s) (sym is) ∙ e) j lt sleeping)))
      (λ ne. looks s o x id me.0 mine 1 0 0 me.0.interruption me.0.interrupted (λ i j le lt shows sleeping owes. inl (refl, omega arith, omega arith)))

  pub looks_for_searcher : (slots id : ℕ) (me : Me S View) (x : ℕ) → x ≡ searcher_word n → Allows (Watch n) slots id me x (λ y. y) (LooksForSearcher (step slots x 0 0 none) me)
  looks_for_searcher slots id me x is s o _ mine _ = loads id me x 0 (λ v. v) paid s
      (λ e. unmoved s o x id me.0 mine)
      (λ ne. looks s o x id me.0 mine 0 0 0 me.0.interruption me.0.interrupted (λ i j le lt shows sleeping owes. inr (inr (o.named (λ e. ne (ap (at s) is ∙ e))))))

  -- a worker that is not asleep needs no look
  passes : (s : St) → Watch n s → (x j id : ℕ) (v : View) → get_elem? s.views id ≡ some v → x ≡ worker_word n j → v.from ≡ j → at s x ≢ asleep → Kept s x (at s x) id (left_of v v.seen (suc v.from))
  passes s o x j id v mine is from up = looks s o x id v mine 1 v.seen (suc v.from) v.interruption v.interrupted (λ i k le lt shows sleeping owes. inl (refl, owes.1, (let apart : k ≢ j = λ e. up (ap (at s) (is ∙ ap (worker_word n) (sym e)) ∙ sleeping) in let reached = owes.2 in omega arith)))

  pub looks_at_worker : (slots id : ℕ) (me : Me S View) (x j : ℕ) → x ≡ worker_word n j → me.0.from ≡ j → Allows (Watch n) slots id me x (λ y. y) (LooksAtWorker (step slots x 0 0 none) me)
  looks_at_worker slots id me x j is from s o _ mine _ = loads id me x asleep (λ v. v) (λ v. left_of v v.seen (suc v.from)) s (λ e. unmoved s o x id me.0 mine) (passes s o x j id me.0 mine is from)

  pub looks_at_flag : (slots id : ℕ) (me : Me S View) (x f : ℕ) → x ≡ flag_word f → me.0.seen ≡ f → Allows (Watch n) slots id me x (λ y. y) (LooksAtFlag (step slots x 0 0 none) me)
  looks_at_flag slots id me x f is seen s o _ mine _ = loads id me x shown (λ v. v) (λ v. sees v (suc v.seen)) s (λ e. unmoved s o x id me.0 mine)
      (λ ne. looks s o x id me.0 mine me.0.owes (suc me.0.seen) me.0.from me.0.interruption me.0.interrupted (λ i k le lt shows sleeping owes. inl (owes.0, (let apart : i ≢ f = λ e. ne (ap (at s) (is ∙ ap flag_word (sym e)) ∙ shows) in let reached = owes.1 in omega arith), owes.2)))

  pub looks_whether_due : (slots id : ℕ) (me : Me S View) (x : ℕ) → Allows (Watch n) slots id me x (λ y. y) (LooksWhetherDue (step slots x 0 0 none) me)
  looks_whether_due slots id me x s o _ mine _ = loads id me x shown (λ v. knows v due) (λ v. knows v not_due) s (λ e. learns s o x id me.0 mine due me.0.interrupted) (λ ne. learns s o x id me.0 mine not_due me.0.interrupted)

  pub settles : (slots id : ℕ) (me : Me S View) (x : ℕ) → (suc (suc n) ≤ me.0.seen) ⊎ (n ≤ me.0.from) → Allows (Watch n) slots id me x (λ y. y) (Settles (step slots x 0 0 none) me)
  settles slots id me x done s o _ mine _ = becomes s id me x (at s x) (Settles (step slots x 0 0 none) me (at s x)) (sees (paid me.0) me.0.seen)
      (looks s o x id me.0 mine 0 me.0.seen 0 me.0.interruption me.0.interrupted (λ i j le lt shows sleeping owes. absurd (⊎_elim (λ (d : suc (suc n) ≤ me.0.seen). let reached = owes.1 in omega arith) (λ (d : n ≤ me.0.from). let reached = owes.2 in omega arith) done))) refl

  entered : (s : St) → Watch n s → (new : View) → new.right ≡ 0 → new.asleep ≡ 0 → Watch n (state s.words s.homes (s.views ++ new ∷ []))
  entered s o new right awake =
      let none : (v : View) (x : ℕ) → new ≡ v → v.right ≢ this x = λ v x e rights. (let r : new.right ≡ v.right = ap (λ (u : View). u.right) e in absurd (omega arith)) in
      let longer : (P : View → Type 0) → AnySeat P s.views → AnySeat P (s.views ++ new ∷ []) = λ P a. (a.0, a.1, at_longer s.views (new ∷ []) a.0 a.1 a.2, a.3) in
      record {
        sized = o.sized;
        unowned = λ y port v lt is atv rights. ⊎_elim (λ old. o.unowned y port v lt is old rights) (λ e. none v y e rights) (at_snoc s.views new v port atv);
        alone = λ y p q v w pv qw rv rw. ⊎_elim (λ oldv. ⊎_elim (λ oldw. o.alone y p q v w oldv oldw rv rw) (λ e. absurd (none w y e rw)) (at_snoc s.views new w q qw)) (λ e. absurd (none v y e rv)) (at_snoc s.views new v p pv);
        known = λ i port v le atv rights. ⊎_elim (λ old. o.known i port v le old rights) (λ e. absurd (none v (flag_word i) e rights)) (at_snoc s.views new v port atv);
        named = λ ne. longer Searches (o.named ne);
        counted = sleepers_more s.views new awake ∙ o.counted;
        lain = λ j lt sleeping. longer (Sleeps n j) (o.lain j lt sleeping);
        watched = λ i j le lt shows sleeping. ⊎_elim (λ w. inl w) (λ t. inr (⊎_elim (λ a. inl (longer Searches a)) (λ a. inr (longer (Owes i j) a)) t)) (o.watched i j le lt shows sleeping);
      }

  pub enters : (slots x : ℕ) → Enters (Watch {S = S} n) slots x (λ found v. ◌≡◌ {A = Me S View} (v, []) (blank, []))
  enters slots x s o _ _ = (blank, entered s o blank refl refl, refl)

  pub enters_owing : (slots x : ℕ) → Enters (Watch {S = S} n) slots x (λ found v. ◌≡◌ {A = Me S View} (v, []) (owing blank, []))
  enters_owing slots x s o _ _ = (owing blank, entered s o (owing blank) refl refl, refl)

  -- a step on another word than those of the workers
  lain_aside : (s : St) → Watch n s → (x k id : ℕ) (v w : View) → get_elem? s.views id ≡ some v → (aside : (j : ℕ) → j < n → worker_word n j ≢ x) → (same : (j : ℕ) → Sleeps n j v → Sleeps n j w) → Lain (set s.words x k) (set s.views id w)
  lain_aside s o x k id v w me aside same j lt sleeping = any_still (Sleeps n j) s.views id v w me (same j) (o.lain j lt (sym (get_or-set_other s.words x (worker_word n j) k 0 (aside j lt)) ∙ sleeping))

  -- a step after which the worker of a word is not asleep
  lain_still : (s : St) → Watch n s → (x j k id : ℕ) (v w : View) → get_elem? s.views id ≡ some v → x ≡ worker_word n j → j < n → (up : k ≢ asleep) → (others : (i : ℕ) → i < n → i ≢ j → Sleeps n i v → Sleeps n i w) → Lain (set s.words x k) (set s.views id w)
  lain_still s o x j k id v w me is near up others i lt sleeping = let z = o.sized in dite (ℕ_discrete i j)
      (λ e. absurd (up (sym (get_or-set_same s.words x k 0 (omega arith)) ∙ (ap (λ (y : ℕ). get_or (set s.words x k) y 0) (is ∙ ap (worker_word n) (sym e)) ∙ sleeping))))
      (λ ne. any_still (Sleeps n i) s.views id v w me (others i lt ne) (o.lain i lt (sym (get_or-set_other s.words x (worker_word n i) k 0 (λ e. ne (omega arith))) ∙ sleeping)))

  -- a step on another word than that of the searcher
  named_aside : (s : St) → Watch n s → (x k id : ℕ) (v w : View) → get_elem? s.views id ≡ some v → (aside : searcher_word n ≢ x) → (Searches v → Searches w) → get_or (set s.words x k) (searcher_word n) 0 ≢ 0 → AnySeat Searches (set s.views id w)
  named_aside s o x k id v w me aside searching ne = any_still Searches s.views id v w me searching (o.named (λ e. ne (get_or-set_other s.words x (searcher_word n) k 0 aside ∙ e)))

  -- a step on another word than the count of sleepers
  counted_aside : (s : St) → Watch n s → (x k id : ℕ) (v w : View) → get_elem? s.views id ≡ some v → (aside : sleepers_word n ≢ x) → one w.asleep ≡ one v.asleep → sleepers (set s.views id w) ≡ get_or (set s.words x k) (sleepers_word n) 0
  counted_aside s o x k id v w me aside same = let a = sleepers_set s.views id v w me in let c = o.counted in let d = get_or-set_other s.words x (sleepers_word n) k 0 aside in omega arith

  -- what was watched still is, where no flag comes to show something, no worker falls asleep, and no wake on its way is taken
  watched_still : (s : St) → Watch n s → (x k id : ℕ) (v w : View) → get_elem? s.views id ≡ some v → (Searches v → Searches w) → ((i j : ℕ) → Owes i j v → Owes i j w)
      → (hides : (i : ℕ) → i ≤ suc n → x ≡ flag_word i → k ≢ shown) → (wakes : (j : ℕ) → j < n → x ≡ worker_word n j → (k ≢ asleep) × (at s x ≢ woken)) → Watched (set s.words x k) (set s.views id w)
  watched_still s o x k id v w me searching owes hides wakes i j le lt shows sleeping =
      let z = o.sized in
      let here : (y : ℕ) → y < word_count n → x ≡ y → k ≡ get_or (set s.words x k) y 0 = λ y near e. sym (get_or-set_same s.words x k 0 (omega arith)) ∙ ap (λ (y : ℕ). get_or (set s.words x k) y 0) e in
      ⊎_elim (λ w. inl (w.0, w.1, get_or-set_other s.words x (worker_word n w.0) k 0 (λ e. (wakes w.0 w.1 (sym e)).1 (ap (at s) (sym e) ∙ w.2)) ∙ w.2))
      (λ t. inr (⊎_elim (λ a. inl (any_still Searches s.views id v w me searching a)) (λ a. inr (any_still (Owes i j) s.views id v w me (owes i j) a)) t))
      (o.watched i j le lt (sym (get_or-set_other s.words x (flag_word i) k 0 (λ e. hides i le (sym e) (here (flag_word i) (omega arith) (sym e) ∙ shows))) ∙ shows)
      (sym (get_or-set_other s.words x (worker_word n j) k 0 (λ e. (wakes j lt (sym e)).0 (here (worker_word n j) (omega arith) (sym e) ∙ sleeping))) ∙ sleeping))

  -- a seat that owes all looks owes each
  owed_by : (views : List View) (words : List ℕ) (id : ℕ) (v u : View) → get_elem? views id ≡ some v → Watched words (set views id (owing u))
  owed_by views words id v u me i j le lt shows sleeping = inr (inr (any_here (Owes i j) views id v (owing u) me (refl, omega arith, omega arith)))

  -- a step on the word of a worker
  at_worker : (s : St) → Watch n s → (x j k id : ℕ) (v w : View) → x ≡ worker_word n j → j < n → get_elem? s.views id ≡ some v → w.right ≡ v.right → w.value ≡ v.value → k ≢ free → (Searches v → Searches w) → one w.asleep ≡ one v.asleep
      → Lain (set s.words x k) (set s.views id w) → Watched (set s.words x k) (set s.views id w) → Kept s x k id w
  at_worker s o x j k id v w is lt me right value owned searching count lain watched = still s o x k id v w me right (λ _ e. absurd (owned e))
      (λ i le rights. get_or-set_other s.words x (flag_word i) k 0 (λ e. omega arith) ∙ (o.known i id v le me rights ∙ sym value))
      (λ i le e. absurd (omega arith))
      (named_aside s o x k id v w me (λ e. omega arith) searching)
      (counted_aside s o x k id v w me (λ e. omega arith) count)
      lain watched

  pub wakes : (slots id : ℕ) (me : Me S View) (x j : ℕ) (said : Option S) → x ≡ worker_word n j → j < n → me.0.from ≡ j → Allows (Watch n) slots id me x (λ y. either (eqb y asleep) woken y) (Wakes (step slots x asleep woken said) me)
  wakes slots id me x j said is lt from s o many mine small = tries id me x asleep woken paid (λ v. left_of v v.seen (suc v.from)) s
      (λ e. at_worker s o x j woken id me.0 (paid me.0) is lt mine refl refl (λ e. omega arith) (λ p. p) refl
      (lain_still s o x j woken id me.0 (paid me.0) mine is lt (λ e. omega arith) (λ i lt ne p. p))
      (λ i k le lt' shows sleeping. inl (j, lt, ap (λ (y : ℕ). get_or (set s.words x woken) y 0) (sym is) ∙ get_or-set_same s.words x woken 0 (let z = o.sized in omega arith))))
      (passes s o x j id me.0 mine is from)

  -- a worker that was not on its way becomes one that is not asleep
  is_up : (s : St) → Watch n s → (x j new id : ℕ) (v : View) (interruption : ℕ) → get_elem? s.views id ≡ some v → x ≡ worker_word n j → j < n → at s x ≢ woken → new ≢ asleep → new ≢ free → Kept s x new id (knows (interrupts v x) interruption)
  is_up s o x j new id v interruption mine is lt before up owned = let w : View = knows (interrupts v x) interruption in
      at_worker s o x j new id v w is lt mine refl refl owned (λ p. p) refl
      (lain_still s o x j new id v w mine is lt up (λ i lt ne p. p))
      (watched_still s o x new id v w mine (λ p. p) (λ i k p. p) (λ i le e. absurd (omega arith)) (λ _ _ _. (up, before)))

  pub permits : (slots id : ℕ) (me : Me S View) (x j : ℕ) (said : Option S) → x ≡ worker_word n j → j < n → Allows (Watch n) slots id me x (λ y. either (eqb y awake) interrupted y) (Permits (step slots x awake interrupted said) me)
  permits slots id me x j said is lt s o many mine small = exchanged (at s x) awake interrupted
      (λ y. (w : View) × (a : Act S) × Valid s.homes me.1 a × Watch n (stepped s x y id me.1 w a) × Permits (step slots x awake interrupted said) me (at s x) (w, carried_after me.1 a))
      (λ e. (interrupts me.0 x, keeps, tt, is_up s o x j interrupted id me.0 me.0.interruption mine is lt (λ f. omega arith) (λ f. omega arith) (λ f. omega arith), (refl, refl, ((λ f. absurd (omega arith)), λ _. refl))))
      (λ _. let t = loads id me x asleep (λ v. v) (λ v. interrupts v x) s (λ e. unmoved s o x id me.0 mine) (λ ne. learns s o x id me.0 mine me.0.interruption (this x)) in (t.0, t.1, t.2, t.3, (refl, refl, t.4)))

  pub rouses : (slots id : ℕ) (me : Me S View) (x j : ℕ) (said : Option S) → x ≡ worker_word n j → j < n → Allows (Watch n) slots id me x (λ y. either (eqb y asleep) woken y) (Rouses (step slots x asleep woken said) me)
  rouses slots id me x j said is lt s o many mine small = let t = tries id me x asleep woken (λ v. knows (interrupts v x) roused) (λ v. interrupts v x) s
      (λ e. is_up s o x j woken id me.0 roused mine is lt (λ f. omega arith) (λ f. omega arith) (λ f. omega arith))
      (λ ne. learns s o x id me.0 mine me.0.interruption (this x)) in (t.0, t.1, t.2, t.3, (refl, refl, t.4))

  pub gets_up : (slots id : ℕ) (me : Me S View) (x j : ℕ) → x ≡ worker_word n j → j < n → (me.0.asleep ≡ this x) ⊎ (me.0.asleep ≡ suc (this x)) → Allows (Watch n) slots id me x (λ _. awake) (GetsUp (step slots x awake 0 none) me)
  gets_up slots id me x j is lt lay s o many mine small = let u : View = sleeps me.0 1 in becomes s id me x awake (GetsUp (step slots x awake 0 none) me awake) (owing u)
      (at_worker s o x j awake id me.0 (owing u) is lt mine refl refl (λ e. omega arith) (λ p. p) (⊎_elim (λ e. ap one (sym e)) (λ e. ap one (sym e)) lay)
      (lain_still s o x j awake id me.0 (owing u) mine is lt (λ e. omega arith) (λ i lt' ne p. absurd (⊎_elim (λ e. ne (omega arith)) (λ e. omega arith) lay)))
      (owed_by s.views (set s.words x awake) id me.0 u mine)) refl

  -- a step on the count of sleepers
  at_count : (s : St) → Watch n s → (x k id : ℕ) (v w : View) → x ≡ sleepers_word n → get_elem? s.views id ≡ some v → w.right ≡ v.right → w.value ≡ v.value → (Searches v → Searches w) → ((i j : ℕ) → Owes i j v → Owes i j w)
      → k + one v.asleep ≡ at s x + one w.asleep → ((j : ℕ) → Sleeps n j v → Sleeps n j w) → Kept s x k id w
  at_count s o x k id v w is me right value searching owes count lain = let z = o.sized in still s o x k id v w me right (λ lt _. absurd (omega arith))
      (λ i le rights. get_or-set_other s.words x (flag_word i) k 0 (λ e. omega arith) ∙ (o.known i id v le me rights ∙ sym value)) (λ i le e. absurd (omega arith))
      (named_aside s o x k id v w me (λ e. omega arith) searching)
      (let a = sleepers_set s.views id v w me in let c = o.counted in let d = ap (λ (y : ℕ). get_or (set s.words x k) y 0) (sym is) ∙ get_or-set_same s.words x k 0 (omega arith) in let e = ap (at s) is in omega arith)
      (lain_aside s o x k id v w me (λ j lt e. omega arith) lain)
      (watched_still s o x k id v w me searching owes (λ i le e. absurd (omega arith)) (λ j lt e. absurd (omega arith)))

  pub counts : (slots id : ℕ) (me : Me S View) (x old : ℕ) (said : Option S) → x ≡ sleepers_word n → me.0.asleep ≡ 0 → Allows (Watch n) slots id me x (λ y. either (eqb y old) (old + 1) y) (Counts (step slots x old (old + 1) said) me)
  counts slots id me x old said is none-yet s o many mine small = tries id me x old (old + 1) (λ v. sleeps v 1) (λ v. v) s
      (λ e. at_count s o x (old + 1) id me.0 (sleeps me.0 1) is mine refl refl (λ p. p) (λ i j p. p) (let b = ap one none-yet in omega arith) (λ j p. absurd (omega arith)))
      (λ ne. unmoved s o x id me.0 mine)

  pub counts_not : (slots id : ℕ) (me : Me S View) (x : ℕ) → x ≡ sleepers_word n → me.0.asleep ≡ 1 → Allows (Watch n) slots id me x (λ y. (y + (18446744073709551616 - 1)) % 18446744073709551616) (CountsNot (step slots x 1 0 none) me)
  counts_not slots id me x is counted s o many mine small = becomes s id me x ((at s x + (18446744073709551616 - 1)) % 18446744073709551616) (CountsNot (step slots x 1 0 none) me (at s x)) (sleeps me.0 0)
      (at_count s o x ((at s x + (18446744073709551616 - 1)) % 18446744073709551616) id me.0 (sleeps me.0 0) is mine refl refl (λ p. p) (λ i j p. p)
      (let a = sleepers_one s.views id me.0 mine in let b = ap one counted in let c = o.counted in let d = ap (at s) is in omega arith) (λ j p. absurd (omega arith))) refl

  -- a step that changes no word, by which a seat that counts as a sleeper tries to put a worker to sleep
  tried : (s : St) → Watch n s → (x id : ℕ) (v : View) (sleep : ℕ) → get_elem? s.views id ≡ some v → v.asleep ≡ 1 → Kept s x (at s x) id (sleeps v (suc sleep))
  tried s o x id v sleep mine counted = let count : ℕ = sleepers_word n in let w : View = sleeps v (suc sleep) in
      subst (λ (ws : List ℕ). Watch n (state ws s.homes (set s.views id w))) (set-get_or s.words count 0 ∙ sym (set-get_or s.words x 0))
      (at_count s o count (at s count) id v w refl mine refl refl (λ p. p) (λ i j p. p) (let b = ap one counted in omega arith) (λ j p. absurd (omega arith)))

  pub lies_down : (slots id : ℕ) (me : Me S View) (x j : ℕ) (said : Option S) → x ≡ worker_word n j → j < n → me.0.asleep ≡ 1 → Allows (Watch n) slots id me x (λ y. either (eqb y awake) asleep y) (LiesDown (step slots x awake asleep said) me)
  lies_down slots id me x j said is lt counted s o many mine small = let u : View = sleeps me.0 (this x) in tries id me x awake asleep (λ v. owing (sleeps v (this x))) (λ v. sleeps v (suc (this x))) s
      (λ e. at_worker s o x j asleep id me.0 (owing u) is lt mine refl refl (λ e. omega arith) (λ p. p) (ap one (sym counted))
      (λ i lt' sleeping. dite (ℕ_discrete i j)
      (λ e. any_here (Sleeps n i) s.views id me.0 (owing u) mine (ap suc (is ∙ ap (worker_word n) (sym e))))
      (λ ne. any_still (Sleeps n i) s.views id me.0 (owing u) mine (λ p. absurd (omega arith)) (o.lain i lt' (sym (get_or-set_other s.words x (worker_word n i) asleep 0 (λ e. ne (omega arith))) ∙ sleeping))))
      (owed_by s.views (set s.words x asleep) id me.0 u mine))
      (λ ne. tried s o x id me.0 (this x) mine counted)

  pub begins_search : (slots id : ℕ) (me : Me S View) (x : ℕ) (said : Option S) → x ≡ searcher_word n → Allows (Watch n) slots id me x (λ y. either (eqb y 0) 1 y) (BeginsSearch (step slots x 0 1 said) me)
  begins_search slots id me x said is s o many mine small = let w : View = searches me.0 1 in tries id me x 0 1 (λ v. searches v 1) (λ v. v) s
      (λ e. still s o x 1 id me.0 w mine refl (λ _ e. absurd (omega arith))
      (λ i le rights. get_or-set_other s.words x (flag_word i) 1 0 (λ e. omega arith) ∙ o.known i id me.0 le mine rights) (λ i le e. absurd (omega arith))
      (λ _. any_here Searches s.views id me.0 w mine refl)
      (counted_aside s o x 1 id me.0 w mine (λ e. omega arith) refl)
      (lain_aside s o x 1 id me.0 w mine (λ j lt e. omega arith) (λ j p. p))
      (λ i j le lt shows sleeping. inr (inl (any_here Searches s.views id me.0 w mine refl))))
      (λ ne. unmoved s o x id me.0 mine)

  pub ends_search : (slots id : ℕ) (me : Me S View) (x : ℕ) → x ≡ searcher_word n → Allows (Watch n) slots id me x (λ _. 0) (λ _. EndsSearch (step slots x 0 0 none) me 0)
  ends_search slots id me x is s o many mine small = let z = o.sized in let u : View = searches me.0 0 in becomes s id me x 0 (EndsSearch (step slots x 0 0 none) me 0) (owing u)
      (still s o x 0 id me.0 (owing u) mine refl (λ _ e. absurd (omega arith))
      (λ i le rights. get_or-set_other s.words x (flag_word i) 0 0 (λ e. omega arith) ∙ o.known i id me.0 le mine rights) (λ i le e. absurd (omega arith))
      (λ ne. absurd (ne (ap (λ (y : ℕ). get_or (set s.words x 0) y 0) (sym is) ∙ get_or-set_same s.words x 0 0 (omega arith))))
      (counted_aside s o x 0 id me.0 (owing u) mine (λ e. omega arith) refl)
      (lain_aside s o x 0 id me.0 (owing u) mine (λ j lt e. omega arith) (λ j p. p))
      (owed_by s.views (set s.words x 0) id me.0 u mine)) refl

  -- the flag of interruptions becomes another
  at_interruptions : (s : St) → Watch n s → (x k id : ℕ) (v w : View) → x ≡ flag_word (n + 1) → k ≢ free → get_elem? s.views id ≡ some v → w.right ≡ v.right → w.value ≡ v.value → w.searching ≡ v.searching → w.asleep ≡ v.asleep → Watched (set s.words x k) (set s.views id w) → Kept s x k id w
  at_interruptions s o x k id v w is owned me right value searching sleep watched = still s o x k id v w me right (λ _ e. absurd (owned e))
      (λ i le rights. get_or-set_other s.words x (flag_word i) k 0 (λ e. omega arith) ∙ (o.known i id v le me rights ∙ sym value)) (λ i le e. absurd (omega arith))
      (named_aside s o x k id v w me (λ e. omega arith) (λ p. searching ∙ p))
      (counted_aside s o x k id v w me (λ e. omega arith) (ap one sleep))
      (lain_aside s o x k id v w me (λ j lt e. omega arith) (λ j p. sleep ∙ p))
      watched

  pub interruption_is_due : (slots id : ℕ) (me : Me S View) (x : ℕ) → x ≡ flag_word (n + 1) → Allows (Watch n) slots id me x (λ _. shown) (λ _. Interrupts (step slots x shown 0 none) me shown)
  interruption_is_due slots id me x is s o many mine small = let u : View = knows me.0 due in becomes s id me x shown (Interrupts (step slots x shown 0 none) me shown) (owing u)
      (at_interruptions s o x shown id me.0 (owing u) is (λ e. omega arith) mine refl refl refl refl (owed_by s.views (set s.words x shown) id me.0 u mine)) (refl, refl)

  pub hears : (slots id : ℕ) (me : Me S View) (x : ℕ) → x ≡ flag_word (n + 1) → Allows (Watch n) slots id me x (λ _. hidden) (λ _. Hears (step slots x hidden 0 none) me hidden)
  hears slots id me x is s o many mine small = let w : View = knows me.0 taken in becomes s id me x hidden (Hears (step slots x hidden 0 none) me hidden) w
      (at_interruptions s o x hidden id me.0 w is (λ e. omega arith) mine refl refl refl refl (watched_still s o x hidden id me.0 w mine (λ p. p) (λ i j p. p) (λ i le _ e. omega arith) (λ j lt e. absurd (omega arith)))) refl

  -- a right that is shown to be with a seat
  takes_hit : (s : St) → Watch n s → (x id : ℕ) → x < searcher_word n → get_elem? s.views id ≡ some blank → at s x ≡ free → Kept s x 0 id (has_right x 0)
  takes_hit s o x id near mine four =
      let z = o.sized in
      let w : View = has_right x 0 in
      let here : get_or (set s.words x 0) x 0 ≡ 0 = get_or-set_same s.words x 0 0 (omega arith) in
      let other : (y : ℕ) → y ≢ x → get_or (set s.words x 0) y 0 ≡ at s y = λ y ne. get_or-set_other s.words x y 0 0 ne in
      let apart : (y : ℕ) → get_or (set s.words x 0) y 0 ≢ 0 → y ≢ x = λ y ne e. ne (ap (λ (k : ℕ). get_or (set s.words x 0) k 0) e ∙ here) in
      let was : (y k : ℕ) → k ≢ 0 → get_or (set s.words x 0) y 0 ≡ k → at s y ≡ k = λ y k ne e. sym (other y (apart y (λ none. ne (sym e ∙ none)))) ∙ e in
      record {
        sized = length-set s.words x 0 ∙ o.sized;
        unowned = λ y port u lt is atu rights. let ne : y ≢ x = apart y (λ e. omega arith) in ⊎_elim
            (λ t. let r : suc x ≡ u.right = ap (λ (v : View). v.right) t.1 in ne (omega arith)) (λ t. o.unowned y port u lt (was y free (λ e. omega arith) is) t.1 rights) (at_set s.views id port w u atu);
        alone = λ y p q u t pu qt ru rt. ⊎_elim
            (λ a. let r : suc x ≡ u.right = ap (λ (v : View). v.right) a.1 in ⊎_elim (λ b. a.0 ∙ sym b.0) (λ b. absurd (o.unowned x q t near four b.1 (rt ∙ (sym ru ∙ sym r)))) (at_set s.views id q w t qt))
            (λ a. ⊎_elim (λ b. let r : suc x ≡ t.right = ap (λ (v : View). v.right) b.1 in absurd (o.unowned x p u near four a.1 (ru ∙ (sym rt ∙ sym r)))) (λ b. o.alone y p q u t a.1 b.1 ru rt) (at_set s.views id q w t qt))
            (at_set s.views id p w u pu);
        known = λ i port u le atu rights. ⊎_elim
            (λ t. let r : suc x ≡ u.right = ap (λ (v : View). v.right) t.1 in ap (λ (y : ℕ). get_or (set s.words x 0) y 0) (let both : suc (flag_word i) ≡ suc x = sym rights ∙ sym r in omega arith) ∙ (here ∙ ap (λ (v : View). v.value) t.1))
            (λ t. other (flag_word i) (λ e. o.unowned x port u near four t.1 (rights ∙ ap suc e)) ∙ o.known i port u le t.1 rights)
            (at_set s.views id port w u atu);
        named = named_aside s o x 0 id blank w mine (λ e. omega arith) (λ p. p);
        counted = counted_aside s o x 0 id blank w mine (λ e. omega arith) refl;
        lain = λ j lt sleeping. any_still (Sleeps n j) s.views id blank w mine (λ p. p) (o.lain j lt (was (worker_word n j) asleep (λ e. omega arith) sleeping));
        watched = watched_still s o x 0 id blank w mine (λ p. p) (λ i j p. p) (λ i le _ e. omega arith) (λ j lt _. ((λ e. omega arith), λ e. omega arith));
      }

  pub takes : (slots id : ℕ) (me : Me S View) (x : ℕ) (said : Option S) → x < searcher_word n → me.0 ≡ blank → Allows (Watch n) slots id me x (λ y. either (eqb y free) 0 y) (Takes (step slots x free 0 said) me)
  takes slots id me x said near is s o many mine small = tries id me x free 0 (λ v. has_right x 0) (λ v. v) s
      (λ four. takes_hit s o x id near (mine ∙ ap some is) four)
      (λ ne. unmoved s o x id me.0 mine)

  -- the right to the word of a worker is given back
  gives : (s : St) → Watch n s → (x j c id : ℕ) → x ≡ worker_word n j → j < n → get_elem? s.views id ≡ some (has_right x c) → Kept s x free id (owing blank)
  gives s o x j c id is lt mine =
      let z = o.sized in
      let v : View = has_right x c in
      let w : View = owing blank in
      let other : (y : ℕ) → y ≢ x → get_or (set s.words x free) y 0 ≡ at s y = λ y ne. get_or-set_other s.words x y free 0 ne in
      let none : (u : View) (y : ℕ) → w ≡ u → u.right ≢ this y = λ u y e rights. (let r : 0 ≡ u.right = ap (λ (v : View). v.right) e in absurd (omega arith)) in
      record {
        sized = length-set s.words x free ∙ o.sized;
        unowned = λ y port u near is atu rights. ⊎_elim (λ t. none u y t.1 rights)
            (λ t. dite (ℕ_discrete y x) (λ e. t.0 (o.alone x port id u v t.1 mine (rights ∙ ap suc e) refl)) (λ ne. o.unowned y port u near (sym (other y ne) ∙ is) t.1 rights))
            (at_set s.views id port w u atu);
        alone = λ y p q u t pu qt ru rt. ⊎_elim (λ a. absurd (none u y a.1 ru))
            (λ a. ⊎_elim (λ b. absurd (none t y b.1 rt)) (λ b. o.alone y p q u t a.1 b.1 ru rt) (at_set s.views id q w t qt))
            (at_set s.views id p w u pu);
        known = λ i port u le atu rights. ⊎_elim (λ t. absurd (none u (flag_word i) t.1 rights))
            (λ t. other (flag_word i) (λ e. omega arith) ∙ o.known i port u le t.1 rights)
            (at_set s.views id port w u atu);
        named = named_aside s o x free id v w mine (λ e. omega arith) (λ p. p);
        counted = counted_aside s o x free id v w mine (λ e. omega arith) refl;
        lain = lain_still s o x j free id v w mine is lt (λ e. omega arith) (λ i lt' ne p. p);
        watched = owed_by s.views (set s.words x free) id v blank mine;
      }

  pub gives_back : (slots id : ℕ) (me : Me S View) (x j c : ℕ) → x ≡ worker_word n j → j < n → me.0 ≡ has_right x c → Allows (Watch n) slots id me x (λ _. free) (λ _. GivesBack (step slots x free 0 none) me free)
  gives_back slots id me x j c is lt right s o many mine small = (owing blank, keeps, tt, gives s o x j c id is lt (mine ∙ ap some right), refl)

  -- the flag of a queue becomes another, by the seat that has the right to it
  at_flag : (s : St) → Watch n s → (x f c k id : ℕ) (w : View) → x ≡ flag_word f → f ≤ n → k ≢ free → get_elem? s.views id ≡ some (has_right x c) → w.right ≡ this x → w.value ≡ k → w.asleep ≡ 0 → Watched (set s.words x k) (set s.views id w) → Kept s x k id w
  at_flag s o x f c k id w is near owned mine right value awake watched = let z = o.sized in let v : View = has_right x c in
      still s o x k id v w mine right (λ _ e. absurd (owned e))
      (λ i le rights. ap (λ (y : ℕ). get_or (set s.words x k) y 0) (omega arith) ∙ (get_or-set_same s.words x k 0 (omega arith) ∙ sym value)) (λ i le e. inr refl)
      (named_aside s o x k id v w mine (λ e. omega arith) (λ p. absurd (omega arith)))
      (counted_aside s o x k id v w mine (λ e. omega arith) (ap one awake))
      (lain_aside s o x k id v w mine (λ j lt e. omega arith) (λ j p. absurd (omega arith)))
      watched

  pub shows : (slots id : ℕ) (me : Me S View) (x f c : ℕ) → x ≡ flag_word f → f ≤ n → me.0 ≡ has_right x c → Allows (Watch n) slots id me x (λ _. shown) (λ _. Shows (step slots x shown 0 none) me shown)
  shows slots id me x f c is near right s o many mine small = let u : View = has_right x shown in let mine' = mine ∙ ap some right in becomes s id me x shown (Shows (step slots x shown 0 none) me shown) (owing u)
      (at_flag s o x f c shown id (owing u) is near (λ e. omega arith) mine' refl refl refl (owed_by s.views (set s.words x shown) id (has_right x c) u mine')) refl

  pub hides : (slots id : ℕ) (me : Me S View) (x f c : ℕ) → x ≡ flag_word f → f ≤ n → me.0 ≡ has_right x c → Allows (Watch n) slots id me x (λ _. hidden) (λ _. Hides (step slots x hidden 0 none) me hidden)
  hides slots id me x f c is near right s o many mine small = let w : View = has_right x hidden in let mine' = mine ∙ ap some right in becomes s id me x hidden (Hides (step slots x hidden 0 none) me hidden) w
      (at_flag s o x f c hidden id w is near (λ e. omega arith) mine' refl refl refl (watched_still s o x hidden id (has_right x c) w mine' (λ p. p) (λ i j p. p) (λ i le _ e. omega arith) (λ j lt e. absurd (omega arith)))) refl
