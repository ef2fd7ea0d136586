-- Calls that nest are a whole run.
use Rattle.std.proofs.Common.{◌≡◌, ℕ, zero, suc, Bool, true, false, not, ◌&&◌, ◌||◌, ◌⊎◌, inl, inr, cond, List, [], ◌∷◌, ◌++◌, length, Option, Some, None, refl, sym, ap, ◌∙◌, subst, arith}
use Rattle.std.specs.Prelude.{slice_get, nat_eq, if◌then◌else◌}
use Rattle.std.proofs.lemmas.Bool.Decides.{nat_tests}
use Rattle.task_core.specs.Word.{State}
use Rattle.task_laws.specs.declared.positions.Position.{Position}
use Rattle.task_laws.specs.Abstract.{Move}
use Rattle.task_laws.specs.Machine.{Machine, Step, opening, scene, after, moves as moves_at, step}
use Rattle.task_laws.specs.Table.{Outcome, rule}
use Rattle.task_laws.specs.Whole.{Whole, whole, whole_from, stepped, at_next, after_step, may_step, opened, closed, is_cut, is_at_rest, is_deliverer, is_foreign, is_innermost, asks_foreign, move_of}
use Rattle.task_laws.proofs.Agree.{RunHolds, whole_holds}
use Rattle.task_laws.proofs.Reading.{whole_runs_agree}
use Rattle.task_steps.specs.Rule.{Entry, Reaches, steps_of, found_by}
use Rattle.task_atomic.specs.Nesting.{OpenCall, begins_poll, is_to_clone, is_to_compare, runs_foreign, is_lent, ends_call, ended, makes_deliverer, call_by, begun, gone_on, after_entry, open_calls, is_open, parties_of, runs_outside, may_follow, calls_nest, is_turn_of, calls_take_turns, NestedCallsAreWhole, WholeRunsNest, CallsInTurnNest}
use Rattle.task_atomic.proofs.Turns.{in_call, in_poll, polls_at, stands_lent, lent_at, has_taken, is_taker, TurnTo, turn_by_rule, BirthsTo, births_by_rule, TakesTo, takes_by_rule, holds_taken, HoldsTo, holds_by_rule, AskedTo, asked_by_rule}
use Rattle.task_atomic.proofs.Placed.{other_way, same_number, one_number, counts_so, no_other, yes_left, yes_right, both_true, left_true, right_true, left_false, right_false, neither, one_or_other, not_both, flipped}
use Rattle.task_atomic.proofs.OpenCalls.{AllStand, AllWait, Follows, HasTaken, IsDue, OneStep, all_wait, apart, asks_no_deliverer, at_whole, closed_mid, closed_rest, compares_due, ends_here, ends_makes_none, itself, lent_after, makes_and_waits, makes_no_poll, mid_cut, none_held_stands, none_new, now, open_after, opened_mid, opened_rest, others_of, others_stand, others_wait, read_after, rest_cut, rest_due, rest_inside, rest_takes, stands_and_took, taker_finds, taker_is_due}

-- THE STEP IN THE WHOLE RUN
record Goes (n : Machine) (e : Entry) (p : Position) (o : Outcome) (calls later : List OpenCall) (cut : Bool) (is_lent_to : ℕ → Bool) : Type 0 where
  may : (moves : List Move) → may_step (at_whole n (parties_of calls) cut moves) e.party p ≡ true
  stack : closed o.next (opened e.party p e.deed.act (length n.parties) (parties_of calls)) ≡ parties_of later
  follows : Follows (now n e p o) later is_lent_to (is_cut e.deed.act o.next (now n e p o) (parties_of later))

poll_goes_on : (a b c d : Bool) → a ≡ false → b ≡ false → (if a then false else (if b then c else d)) ≡ d
poll_goes_on a b c d e f = grind arith

poll_begins : (a b c d : Bool) → a ≡ false → b ≡ true → (if a then false else (if b then c else d)) ≡ c
poll_begins a b c d e f = grind arith

rest_takes_none : (p : Position) → is_at_rest p ≡ true → is_taker p ≡ true → ⊥
rest_takes_none p e f = grind arith

took : (limit : ℕ) (n : Machine) (i : ℕ) (stack : List ℕ) (cut : Bool) (moves : List Move) (p : Position) → RunHolds limit (at_whole n (i ∷ stack) cut moves) → slice_get n.parties i ≡ Some p
    → (cut ≡ false → HasTaken n.word (slice_get n.parties i)) → in_poll p ≡ true → n.word.awaiter ≡ true → has_taken p ≡ true
took limit n i stack true moves p h here takes polls due = stands_and_took n.word.completed p (rw here at h.state.good.0)
took limit n i stack false moves p h here takes polls due = subst (HasTaken n.word) here (takes refl) polls due

is_due : (limit : ℕ) (n : Machine) (i : ℕ) (stack : List ℕ) (cut : Bool) (moves : List Move) (p : Position) → RunHolds limit (at_whole n (i ∷ stack) cut moves) → slice_get n.parties i ≡ Some p
    → (cut ≡ false → IsDue n.word (slice_get n.parties i)) → in_poll p ≡ true → holds_taken p ≡ true → n.word.awaiter ≡ true
is_due limit n i stack true moves p h here due polls holds = absurd (none_held_stands n.word.completed p (rw here at h.state.good.0) holds)
is_due limit n i stack false moves p h here due polls holds = subst (IsDue n.word) here (due refl) polls holds

-- the step is one of the innermost call
module _ {n : Machine} {e : Entry} {lent : Bool} {p : Position} {o : Outcome} (x : OneStep n e lent p o) (c : OpenCall) (calls : List OpenCall) (cut : Bool) (is_lent_to is_lent_later : ℕ → Bool)
    (f : Follows n (c ∷ calls) is_lent_to cut) (lends_later : (j : ℕ) → is_lent_later j ≡ lent_at (slice_get (now n e p o).parties j)) (mine : nat_eq e.party c.party ≡ true) where
  same : e.party ≡ c.party
  same = same_number e.party c.party mine

  there : slice_get n.parties c.party ≡ Some p
  there = ap (slice_get n.parties) (sym same) ∙ x.here

  busy : is_at_rest p ≡ false
  busy = flipped (is_at_rest p) true (ap in_call (sym x.here) ∙ (sym (f.within e.party) ∙ yes_left (nat_eq e.party c.party) (is_open e.party calls) mine))

  makes_none : makes_deliverer e.deed.act ≡ false
  makes_none = by (makes_deliverer e.deed.act) refl
    where
      by : (b : Bool) → makes_deliverer e.deed.act ≡ b → makes_deliverer e.deed.act ≡ false
      by true g = absurd (not_both (is_at_rest p) (x.turn.queues g) busy)
      by false g = g

  closed_mine : is_open e.party calls ≡ false
  closed_mine = ap (λ (k : ℕ). is_open k calls) same ∙ f.all_stand.1

  new : is_open e.parties (c ∷ calls) ≡ false
  new = none_new x (c ∷ calls) f.within

  others : AllStand (now n e p o).parties calls
  others = others_stand x calls f.all_stand.2 closed_mine (right_false (nat_eq e.parties c.party) (is_open e.parties calls) new)

  waiting : AllWait (now n e p o).parties calls
  waiting = others_wait x calls f.wait closed_mine (right_false (nat_eq e.parties c.party) (is_open e.parties calls) new)

  may_go : (moves : List Move) → may_step (at_whole n (parties_of (c ∷ calls)) cut moves) e.party p ≡ true
  may_go moves = rw busy mine

  -- it ends
  goes_to_end : is_at_rest o.next ≡ true → Goes n e p o (c ∷ calls) calls cut is_lent_later
  goes_to_end rests = record {
    may = may_go;
    stack = ap (closed o.next) (opened_mid p busy e.party e.deed.act (length n.parties) (parties_of (c ∷ calls))) ∙ closed_rest o.next rests c.party (parties_of calls);
    follows = record {
      outside = rest_cut o.next rests e.deed.act (now n e p o) calls others;
      within = open_after x (c ∷ calls) true (sym rests) f.within calls counts;
      lends = lends_later;
      all_stand = others;
      takes = rest_takes o.next rests e.deed.act (now n e p o) calls;
      inside = rest_inside o.next rests e.deed.act (now n e p o) calls waiting;
      wait = others_of (now n e p o).parties calls waiting;
      due = rest_due o.next rests e.deed.act (now n e p o) calls;
    };
  }
    where
      counts : (j : ℕ) → is_open j calls ≡ cond (nat_eq j e.party) (not true) (cond (nat_eq j e.parties) (makes_deliverer e.deed.act) (is_open j (c ∷ calls)))
      counts j = counts_so (nat_eq j e.party) (nat_eq j e.parties) (is_open j calls) (not true) (makes_deliverer e.deed.act) (is_open j (c ∷ calls))
          (λ g. ap (λ (k : ℕ). is_open k calls) (same_number j e.party g) ∙ closed_mine)
          (λ g h. ap (λ (k : ℕ). is_open k calls) (same_number j e.parties h) ∙ (right_false (nat_eq e.parties c.party) (is_open e.parties calls) new ∙ sym makes_none))
          (λ g h. sym (no_other (nat_eq j c.party) (is_open j calls) (ap (nat_eq j) (sym same) ∙ g)))

  -- the innermost call, if it goes on
  abbrev longer : OpenCall
  longer = record { party = c.party; first = c.first; later = e.deed ∷ c.later }

  now_at : slice_get (now n e p o).parties c.party ≡ Some o.next
  now_at = ap (slice_get (now n e p o).parties) (sym same) ∙ itself x

  polled : begins_poll c.first.act ≡ in_poll p
  polled = f.all_stand.0.polls ∙ ap polls_at there

  goes_further : (limit : ℕ) (moves : List Move) → RunHolds limit (at_whole n (parties_of (c ∷ calls)) cut moves) → is_at_rest o.next ≡ false → Goes n e p o (c ∷ calls) (longer ∷ calls) cut is_lent_later
  goes_further limit moves h going = record {
    may = may_go;
    stack = ap (closed o.next) (opened_mid p busy e.party e.deed.act (length n.parties) (parties_of (c ∷ calls))) ∙ closed_mid o.next going (parties_of (c ∷ calls));
    follows = record {
      outside = λ g. mid_cut o.next going e.deed.act (now n e p o) (parties_of (c ∷ calls)) ∙ marked (foreign g);
      within = open_after x (c ∷ calls) false (sym going) f.within (longer ∷ calls) counts;
      lends = lends_later;
      all_stand = (record { polls = poll_is; ready = λ g. subst (λ (at : Option Position). is_deliverer at ≡ false) (sym now_at) (no_deliverer (foreign g)) }, f.all_stand.1, others);
      takes = λ uncut. subst (HasTaken o.word) (sym now_at) (λ polls due. finds polls due (has_taken o.next) refl);
      inside = λ cut_now. marks (one_or_other (is_foreign e.deed.act) (asks_foreign o.next) (sym (mid_cut o.next going e.deed.act (now n e p o) (parties_of (c ∷ calls))) ∙ cut_now));
      wait = waiting;
      due = λ uncut. subst (IsDue o.word) (sym now_at) (λ polls holds. is_due_now polls (x.holds holds));
    };
  }
    where
      foreign : runs_foreign longer ≡ true → (is_foreign e.deed.act ≡ true) ⊎ (asks_foreign o.next ≡ true)
      foreign g = by (one_or_other (is_foreign e.deed.act) (begins_poll c.first.act && is_to_compare e.deed.act e.deed.found) g)
        where
          by : (is_foreign e.deed.act ≡ true) ⊎ ((is_foreign e.deed.act ≡ false) × ((begins_poll c.first.act && is_to_compare e.deed.act e.deed.found) ≡ true)) → (is_foreign e.deed.act ≡ true) ⊎ (asks_foreign o.next ≡ true)
          by (inl own) = inl own
          by (inr both) =
              let polls : in_poll p ≡ true = sym polled ∙ left_true (begins_poll c.first.act) (is_to_compare e.deed.act e.deed.found) both.1 in
              let compares : is_to_compare e.deed.act (found_by e.deed.act n.word) ≡ true = ap (is_to_compare e.deed.act) (sym x.found) ∙ right_true (begins_poll c.first.act) (is_to_compare e.deed.act e.deed.found) both.1 in
              inr (x.turn.compares polls (took limit n c.party (parties_of calls) cut moves p h there f.takes polls (compares_due e.deed.act n.word compares)) compares)

      marked : (is_foreign e.deed.act ≡ true) ⊎ (asks_foreign o.next ≡ true) → (is_foreign e.deed.act || asks_foreign o.next) ≡ true
      marked (inl own) = yes_left (is_foreign e.deed.act) (asks_foreign o.next) own
      marked (inr own) = yes_right (is_foreign e.deed.act) (asks_foreign o.next) own

      no_deliverer : (is_foreign e.deed.act ≡ true) ⊎ (asks_foreign o.next ≡ true) → is_deliverer (Some o.next) ≡ false
      no_deliverer (inl own) = x.turn.hands own
      no_deliverer (inr own) = asks_no_deliverer o.next own

      marks : (is_foreign e.deed.act ≡ true) ⊎ ((is_foreign e.deed.act ≡ false) × (asks_foreign o.next ≡ true)) → runs_foreign longer ≡ true
      marks (inl own) = yes_left (is_foreign e.deed.act) (begins_poll c.first.act && is_to_compare e.deed.act e.deed.found) own
      marks (inr both) =
          let t = x.asked.compared busy both.1 in
          let due : n.word.awaiter ≡ true = is_due limit n c.party (parties_of calls) cut moves p h there f.due t.0 t.1 in
          yes_right (is_foreign e.deed.act) (begins_poll c.first.act && is_to_compare e.deed.act e.deed.found)
          (both_true (begins_poll c.first.act) (is_to_compare e.deed.act e.deed.found) (polled ∙ t.0) (ap (is_to_compare e.deed.act) x.found ∙ (t.2 ∙ due)))

      is_due_now : in_poll o.next ≡ true → (n.slots.awaiter ≡ None → ⊥) × (is_taker p ≡ true) × (o.word ≡ n.word) × (in_poll o.next ≡ in_poll p) → o.word.awaiter ≡ true
      is_due_now polls t = ap (λ (w : State). w.awaiter) t.2 ∙ taker_is_due limit n c.party (parties_of calls) cut moves p h there t.1 (sym t.3 ∙ polls) t.0

      poll_is : begins_poll c.first.act ≡ polls_at (slice_get (now n e p o).parties c.party)
      poll_is = polled ∙ (sym (x.turn.poll ∙ poll_goes_on (is_at_rest o.next) (is_at_rest p) (begins_poll e.deed.act) (in_poll p) going busy) ∙ ap polls_at (sym now_at))

      finds : in_poll o.next ≡ true → o.word.awaiter ≡ true → (b : Bool) → has_taken o.next ≡ b → has_taken o.next ≡ true
      finds polls due true g = g
      finds polls due false g =
          let t = x.takes g in
          absurd (taker_finds limit n c.party (parties_of calls) cut moves p h there t.1 (sym t.3 ∙ polls) (ap (λ (w : State). w.awaiter) (sym t.2) ∙ due) t.0)

      counts : (j : ℕ) → is_open j (longer ∷ calls) ≡ cond (nat_eq j e.party) (not false) (cond (nat_eq j e.parties) (makes_deliverer e.deed.act) (is_open j (c ∷ calls)))
      counts j = counts_so (nat_eq j e.party) (nat_eq j e.parties) (is_open j (c ∷ calls)) (not false) (makes_deliverer e.deed.act) (is_open j (c ∷ calls))
          (λ g. yes_left (nat_eq j c.party) (is_open j calls) (ap (nat_eq j) (sym same) ∙ g))
          (λ g h. ap (λ (k : ℕ). is_open k (c ∷ calls)) (same_number j e.parties h) ∙ (new ∙ sym makes_none))
          (λ g h. refl)

-- the step is one of a party that begins a call
stays_open : (k : ℕ) (calls : List OpenCall) → is_open k calls ≡ false → ended k calls ≡ calls
stays_open k [] e = refl
stays_open k (c ∷ calls) e = ap (λ (b : Bool). if b then calls else c ∷ calls) (left_false (nat_eq k c.party) (is_open k calls) e)

begins_new : (e : Entry) (calls : List OpenCall) → is_open e.party calls ≡ false → gone_on e calls ≡ begun e calls
begins_new e [] f = refl
begins_new e (c ∷ calls) f =
    ap (λ (b : Bool). if b then record { party = c.party; first = c.first; later = e.deed ∷ c.later } ∷ calls else begun e (c ∷ calls)) (left_false (nat_eq e.party c.party) (is_open e.party calls) f)

module _ {n : Machine} {e : Entry} {lent : Bool} {p : Position} {o : Outcome} (x : OneStep n e lent p o) (calls : List OpenCall) (cut : Bool) (is_lent_to is_lent_later : ℕ → Bool)
    (f : Follows n calls is_lent_to cut) (lends_later : (j : ℕ) → is_lent_later j ≡ lent_at (slice_get (now n e p o).parties j)) (idle : is_open e.party calls ≡ false) (out : runs_outside calls ≡ true) where
  rested : is_at_rest p ≡ true
  rested = flipped (is_at_rest p) false (ap in_call (sym x.here) ∙ (sym (f.within e.party) ∙ idle))

  none_is_new : is_open e.parties calls ≡ false
  none_is_new = none_new x calls f.within

  standing : AllStand (now n e p o).parties calls
  standing = others_stand x calls f.all_stand idle none_is_new

  still_waiting : AllWait (now n e p o).parties calls
  still_waiting = others_wait x calls (all_wait n.parties calls f.wait out) idle none_is_new

  may_begin : (moves : List Move) → may_step (at_whole n (parties_of calls) cut moves) e.party p ≡ true
  may_begin moves = rw rested (f.outside out)

  -- its look is the call
  goes_at_once : is_at_rest o.next ≡ true → makes_deliverer e.deed.act ≡ false → Goes n e p o calls calls cut is_lent_later
  goes_at_once rests none = record {
    may = may_begin;
    stack = ap (closed o.next) (opened_rest p rested e.party e.deed.act (length n.parties) (parties_of calls)
        ∙ ap (λ (b : Bool). e.party ∷ (if b then length n.parties ∷ parties_of calls else parties_of calls)) none) ∙ closed_rest o.next rests e.party (parties_of calls);
    follows = record {
      outside = rest_cut o.next rests e.deed.act (now n e p o) calls standing;
      within = open_after x calls true (sym rests) f.within calls counts;
      lends = lends_later;
      all_stand = standing;
      takes = rest_takes o.next rests e.deed.act (now n e p o) calls;
      inside = λ cut_now. out;
      wait = others_of (now n e p o).parties calls still_waiting;
      due = rest_due o.next rests e.deed.act (now n e p o) calls;
    };
  }
    where
      counts : (j : ℕ) → is_open j calls ≡ cond (nat_eq j e.party) (not true) (cond (nat_eq j e.parties) (makes_deliverer e.deed.act) (is_open j calls))
      counts j = counts_so (nat_eq j e.party) (nat_eq j e.parties) (is_open j calls) (not true) (makes_deliverer e.deed.act) (is_open j calls)
          (λ g. ap (λ (k : ℕ). is_open k calls) (same_number j e.party g) ∙ idle)
          (λ g h. ap (λ (k : ℕ). is_open k calls) (same_number j e.parties h) ∙ (none_is_new ∙ sym none))
          (λ g h. refl)

  -- the calls below a call that begins by its first deed, with that of a deliverer that it made
  abbrev calls_below : Bool → List OpenCall
  calls_below b = if b then call_by e.parties e.deed ∷ calls else calls

  below_idle : (b : Bool) → is_open e.party (calls_below b) ≡ false
  below_idle true = neither (nat_eq e.party e.parties) (is_open e.party calls) (ap (nat_eq e.party) x.parties ∙ apart x) idle
  below_idle false = idle

  born_at : slice_get (now n e p o).parties e.parties ≡ slice_get o.born 0
  born_at = read_after x (λ at. at) e.parties
      ∙ (ap (λ (b : Bool). cond b (Some o.next) (cond (nat_eq e.parties e.parties) (slice_get o.born 0) (slice_get n.parties e.parties))) (other_way e.party e.parties (ap (nat_eq e.party) x.parties ∙ apart x))
      ∙ ap (λ (b : Bool). cond b (slice_get o.born 0) (slice_get n.parties e.parties)) (one_number e.parties))

  below_stand : (b : Bool) → makes_deliverer e.deed.act ≡ b → AllStand (now n e p o).parties (calls_below b)
  below_stand true made = (
    record {
      polls = makes_no_poll e.deed.act made ∙ (sym x.births.poll ∙ ap polls_at (sym born_at));
      ready = λ g. absurd (makes_and_waits e.deed made g);
    },
    none_is_new,
    standing,
  )
  below_stand false made = standing

  below_wait : (b : Bool) → makes_deliverer e.deed.act ≡ b → AllWait (now n e p o).parties (calls_below b)
  below_wait true made = (inr (ap is_deliverer born_at ∙ (x.asked.deliverer ∙ made)), still_waiting)
  below_wait false made = still_waiting

  below_counts : (b : Bool) → makes_deliverer e.deed.act ≡ b → (j : ℕ) → is_open j (calls_below b) ≡ cond (nat_eq j e.parties) (makes_deliverer e.deed.act) (is_open j calls)
  below_counts true made j = by (nat_eq j e.parties) refl
    where
      by : (b : Bool) → nat_eq j e.parties ≡ b → (nat_eq j e.parties || is_open j calls) ≡ cond (nat_eq j e.parties) (makes_deliverer e.deed.act) (is_open j calls)
      by true g = rw (g, made) refl
      by false g = rw g refl
  below_counts false made j = by (nat_eq j e.parties) refl
    where
      by : (b : Bool) → nat_eq j e.parties ≡ b → is_open j calls ≡ cond (nat_eq j e.parties) (makes_deliverer e.deed.act) (is_open j calls)
      by true g = ap (λ (k : ℕ). is_open k calls) (same_number j e.parties g) ∙ (none_is_new ∙ (sym made ∙ sym (ap (λ (b : Bool). cond b (makes_deliverer e.deed.act) (is_open j calls)) g)))
      by false g = sym (ap (λ (b : Bool). cond b (makes_deliverer e.deed.act) (is_open j calls)) g)

  below_parties : (b : Bool) → (if b then length n.parties ∷ parties_of calls else parties_of calls) ≡ parties_of (calls_below b)
  below_parties true = ap (λ (k : ℕ). k ∷ parties_of calls) (sym x.parties)
  below_parties false = refl

  goes_in : is_at_rest o.next ≡ false → Goes n e p o calls (begun e calls) cut is_lent_later
  goes_in going = record {
    may = may_begin;
    stack = ap (closed o.next) (opened_rest p rested e.party e.deed.act (length n.parties) (parties_of calls) ∙ ap (λ (ks : List ℕ). e.party ∷ ks) (below_parties (makes_deliverer e.deed.act)))
        ∙ closed_mid o.next going (parties_of (begun e calls));
    follows = record {
      outside = λ g. mid_cut o.next going e.deed.act (now n e p o) (parties_of (begun e calls)) ∙ marked (foreign g);
      within = open_after x calls false (sym going) f.within (begun e calls) counts;
      lends = lends_later;
      all_stand = (
        record { polls = poll_is; ready = λ g. subst (λ (at : Option Position). is_deliverer at ≡ false) (sym (itself x)) (no_deliverer (foreign g)) },
        below_idle (makes_deliverer e.deed.act),
        below_stand (makes_deliverer e.deed.act) refl,
      );
      takes = λ uncut. subst (HasTaken o.word) (sym (itself x)) (λ polls due. finds (has_taken o.next) refl);
      inside = λ cut_now. marks (one_or_other (is_foreign e.deed.act) (asks_foreign o.next) (sym (mid_cut o.next going e.deed.act (now n e p o) (parties_of (begun e calls))) ∙ cut_now));
      wait = below_wait (makes_deliverer e.deed.act) refl;
      due = λ uncut. subst (IsDue o.word) (sym (itself x)) (λ polls holds. absurd (rest_takes_none p rested (x.holds holds).1));
    };
  }
    where
      foreign : runs_foreign (call_by e.party e.deed) ≡ true → (is_foreign e.deed.act ≡ true) ⊎ (asks_foreign o.next ≡ true)
      foreign g = by (one_or_other (is_foreign e.deed.act) (is_to_clone e.deed.act e.deed.found) g)
        where
          by : (is_foreign e.deed.act ≡ true) ⊎ ((is_foreign e.deed.act ≡ false) × (is_to_clone e.deed.act e.deed.found ≡ true)) → (is_foreign e.deed.act ≡ true) ⊎ (asks_foreign o.next ≡ true)
          by (inl own) = inl own
          by (inr both) = inr (x.turn.clones rested going (ap (is_to_clone e.deed.act) (sym x.found) ∙ both.1))

      marked : (is_foreign e.deed.act ≡ true) ⊎ (asks_foreign o.next ≡ true) → (is_foreign e.deed.act || asks_foreign o.next) ≡ true
      marked (inl own) = yes_left (is_foreign e.deed.act) (asks_foreign o.next) own
      marked (inr own) = yes_right (is_foreign e.deed.act) (asks_foreign o.next) own

      no_deliverer : (is_foreign e.deed.act ≡ true) ⊎ (asks_foreign o.next ≡ true) → is_deliverer (Some o.next) ≡ false
      no_deliverer (inl own) = x.turn.hands own
      no_deliverer (inr own) = asks_no_deliverer o.next own

      marks : (is_foreign e.deed.act ≡ true) ⊎ ((is_foreign e.deed.act ≡ false) × (asks_foreign o.next ≡ true)) → runs_foreign (call_by e.party e.deed) ≡ true
      marks (inl own) = yes_left (is_foreign e.deed.act) (is_to_clone e.deed.act e.deed.found) own
      marks (inr both) = yes_right (is_foreign e.deed.act) (is_to_clone e.deed.act e.deed.found) (ap (is_to_clone e.deed.act) x.found ∙ x.asked.cloned rested both.1)

      poll_is : begins_poll e.deed.act ≡ polls_at (slice_get (now n e p o).parties e.party)
      poll_is = sym (x.turn.poll ∙ poll_begins (is_at_rest o.next) (is_at_rest p) (begins_poll e.deed.act) (in_poll p) going rested) ∙ ap polls_at (sym (itself x))

      finds : (b : Bool) → has_taken o.next ≡ b → has_taken o.next ≡ true
      finds true g = g
      finds false g = absurd (rest_takes_none p rested (x.takes g).1)

      counts : (j : ℕ) → is_open j (begun e calls) ≡ cond (nat_eq j e.party) (not false) (cond (nat_eq j e.parties) (makes_deliverer e.deed.act) (is_open j calls))
      counts j = by (nat_eq j e.party) refl
        where
          by : (b : Bool) → nat_eq j e.party ≡ b → is_open j (begun e calls) ≡ cond (nat_eq j e.party) (not false) (cond (nat_eq j e.parties) (makes_deliverer e.deed.act) (is_open j calls))
          by true g = yes_left (nat_eq j e.party) (is_open j (calls_below (makes_deliverer e.deed.act))) g ∙ sym (ap (λ (b : Bool). cond b (not false) (cond (nat_eq j e.parties) (makes_deliverer e.deed.act) (is_open j calls))) g)
          by false g = no_other (nat_eq j e.party) (is_open j (calls_below (makes_deliverer e.deed.act))) g ∙ (below_counts (makes_deliverer e.deed.act) refl j
              ∙ sym (ap (λ (b : Bool). cond b (not false) (cond (nat_eq j e.parties) (makes_deliverer e.deed.act) (is_open j calls))) g))

-- the step of any party that may make one
module _ {n : Machine} {e : Entry} {lent : Bool} {p : Position} {o : Outcome} (x : OneStep n e lent p o) (cut : Bool) (is_lent_to is_lent_later : ℕ → Bool)
    (lends_later : (j : ℕ) → is_lent_later j ≡ lent_at (slice_get (now n e p o).parties j)) (limit : ℕ) (moves : List Move) where
  begins_call : (calls : List OpenCall) → Follows n calls is_lent_to cut → is_open e.party calls ≡ false → runs_outside calls ≡ true → (ends : Bool) → ends_call e.deed.act lent ≡ ends
      → Goes n e p o calls (after_entry e ends calls) cut is_lent_later
  begins_call calls f idle out true ends =
      subst (λ (later : List OpenCall). Goes n e p o calls later cut is_lent_later) (sym (stays_open e.party calls idle))
      (goes_at_once x calls cut is_lent_to is_lent_later f lends_later idle out (sym (ends_here x) ∙ ends) (ends_makes_none e.deed.act lent ends))
  begins_call calls f idle out false ends =
      subst (λ (later : List OpenCall). Goes n e p o calls later cut is_lent_later) (sym (begins_new e calls idle))
      (goes_in x calls cut is_lent_to is_lent_later f lends_later idle out (sym (ends_here x) ∙ ends))

  continues_call : (c : OpenCall) (calls : List OpenCall) → Follows n (c ∷ calls) is_lent_to cut → RunHolds limit (at_whole n (parties_of (c ∷ calls)) cut moves) → nat_eq e.party c.party ≡ true
      → (ends : Bool) → ends_call e.deed.act lent ≡ ends → Goes n e p o (c ∷ calls) (after_entry e ends (c ∷ calls)) cut is_lent_later
  continues_call c calls f h mine true ends =
      subst (λ (later : List OpenCall). Goes n e p o (c ∷ calls) later cut is_lent_later) (sym (ap (λ (b : Bool). if b then calls else c ∷ calls) mine))
      (goes_to_end x c calls cut is_lent_to is_lent_later f lends_later mine (sym (ends_here x) ∙ ends))
  continues_call c calls f h mine false ends =
      subst (λ (later : List OpenCall). Goes n e p o (c ∷ calls) later cut is_lent_later)
      (sym (ap (λ (b : Bool). if b then record { party = c.party; first = c.first; later = e.deed ∷ c.later } ∷ calls else begun e (c ∷ calls)) mine))
      (goes_further x c calls cut is_lent_to is_lent_later f lends_later mine limit moves h (sym (ends_here x) ∙ ends))

  goes : (calls : List OpenCall) → Follows n calls is_lent_to cut → RunHolds limit (at_whole n (parties_of calls) cut moves) → may_follow e.party calls ≡ true
      → Goes n e p o calls (after_entry e (ends_call e.deed.act lent) calls) cut is_lent_later
  goes [] f h may = begins_call [] f refl refl (ends_call e.deed.act lent) refl
  goes (c ∷ calls) f h may = by (one_or_other (nat_eq e.party c.party) (runs_foreign c && not (is_open e.party calls)) may)
    where
      by : (nat_eq e.party c.party ≡ true) ⊎ ((nat_eq e.party c.party ≡ false) × ((runs_foreign c && not (is_open e.party calls)) ≡ true)) → Goes n e p o (c ∷ calls) (after_entry e (ends_call e.deed.act lent) (c ∷ calls)) cut is_lent_later
      by (inl mine) = continues_call c calls f h mine (ends_call e.deed.act lent) refl
      by (inr other) =
          begins_call (c ∷ calls) f (neither (nat_eq e.party c.party) (is_open e.party calls) other.0 (flipped (is_open e.party calls) true (right_true (runs_foreign c) (not (is_open e.party calls)) other.1)))
          (left_true (runs_foreign c) (not (is_open e.party calls)) other.1) (ends_call e.deed.act lent) refl

-- THE INTERLEAVING
whole_append : (w : Option Whole) (steps more : List Step) → whole_from w (steps ++ more) ≡ whole_from (whole_from w steps) more
whole_append w [] more = refl
whole_append None (s ∷ steps) [] = refl
whole_append None (s ∷ steps) (t ∷ more) = refl
whole_append (Some w) (s ∷ steps) more = whole_append (stepped w s (slice_get w.machine.parties s.party) (step w.machine s)) steps more

stepped_so : (w : Whole) (s : Step) (p q : Position) (m : Machine) → slice_get w.machine.parties s.party ≡ Some p → step w.machine s ≡ Some m → may_step w s.party p ≡ true → slice_get m.parties s.party ≡ Some q
    → whole_from (Some w) (s ∷ []) ≡ Some (after_step w s p q m)
stepped_so w s p q m here steps may there =
    ap (λ (at : Option Position). stepped w s at (step w.machine s)) here ∙ (ap (stepped w s (Some p)) steps
    ∙ (ap (λ (b : Bool). if b then at_next w s p (slice_get m.parties s.party) m else None) may ∙ ap (λ (at : Option Position). at_next w s p at m) there))

record After (limit : ℕ) (log : List Entry) (m : Machine) : Type 0 where
  cut : Bool
  moves : List Move
  is : whole limit (steps_of log) ≡ Some (at_whole m (parties_of (open_calls log)) cut moves)
  follows : Follows m (open_calls log) (λ k. is_lent k log) cut

one_after : (limit : ℕ) (e : Entry) (earlier : List Entry) (n : Machine) (p : Position) (o : Outcome) → After limit earlier n → OneStep n e (is_lent e.party earlier) p o → may_follow e.party (open_calls earlier) ≡ true
    → step n (record { party = e.party; act = e.deed.act }) ≡ Some (now n e p o) → After limit (e ∷ earlier) (now n e p o)
one_after limit e earlier n p o b x may steps =
    let s : Step = record { party = e.party; act = e.deed.act } in
    let w : Whole = at_whole n (parties_of (open_calls earlier)) b.cut b.moves in
    let lends_later : (j : ℕ) → is_lent j (e ∷ earlier) ≡ lent_at (slice_get (now n e p o).parties j) = lent_after x (λ k. is_lent k earlier) refl b.follows.lends in
    let g : Goes n e p o (open_calls earlier) (open_calls (e ∷ earlier)) b.cut (λ k. is_lent k (e ∷ earlier)) =
    goes x b.cut (λ k. is_lent k earlier) (λ k. is_lent k (e ∷ earlier)) lends_later limit b.moves (open_calls earlier) b.follows (whole_holds limit (steps_of earlier) w b.is) may in
    let made : List Move = if b.cut then move_of p e.deed.act ∷ b.moves else b.moves in
    record {
      cut = is_cut e.deed.act o.next (now n e p o) (parties_of (open_calls (e ∷ earlier)));
      moves = made;
      is = whole_append (Some (at_whole (opening limit) [] true [])) (steps_of earlier) (s ∷ [])
          ∙ (ap (λ (y : Option Whole). whole_from y (s ∷ [])) b.is ∙ (stepped_so w s p o.next (now n e p o) x.here steps (g.may b.moves) (itself x)
          ∙ ap (λ (stack : List ℕ). Some (at_whole (now n e p o) stack (is_cut e.deed.act o.next (now n e p o) stack) made)) g.stack));
      follows = g.follows;
    }

-- a step, taken apart
record Moved (n m : Machine) (e : Entry) : Type 0 where
  at : Position
  left : Outcome
  here : slice_get n.parties e.party ≡ Some at
  is : rule (scene n) e.deed.act at ≡ Some left
  leads : now n e at left ≡ m

moved : (n m : Machine) (e : Entry) → step n (record { party = e.party; act = e.deed.act }) ≡ Some m → Moved n m e
moved n m e steps = by_position (slice_get n.parties e.party) refl steps
  where
    by_outcome : (p : Position) (o : Option Outcome) → slice_get n.parties e.party ≡ Some p → rule (scene n) e.deed.act p ≡ o → after n e.party p o ≡ Some m → Moved n m e
    by_outcome p None here is ends = absurd (cc)
    by_outcome p (Some o) here is ends = record { at = p; left = o; here = here; is = is; leads = (let same : now n e p o ≡ m = cc in same) }

    by_position : (at : Option Position) → slice_get n.parties e.party ≡ at → moves_at n e.party e.deed.act at ≡ Some m → Moved n m e
    by_position None here ends = absurd (cc)
    by_position (Some p) here ends = by_outcome p (rule (scene n) e.deed.act p) here refl ends

one_step : (n : Machine) (e : Entry) (lent : Bool) (p : Position) (o : Outcome) → slice_get n.parties e.party ≡ Some p → rule (scene n) e.deed.act p ≡ Some o → e.deed.found ≡ found_by e.deed.act n.word → e.parties ≡ length n.parties
    → lent ≡ stands_lent p → OneStep n e lent p o
one_step n e lent p o here is found parties lends = record {
  here = here;
  turn = subst (TurnTo e.deed.act p (scene n)) is (turn_by_rule e.deed.act p (scene n));
  births = subst (BirthsTo e.deed.act p (scene n)) is (births_by_rule e.deed.act p (scene n));
  takes = subst (TakesTo e.deed.act p (scene n)) is (takes_by_rule e.deed.act p (scene n));
  holds = subst (HoldsTo e.deed.act p (scene n)) is (holds_by_rule e.deed.act p (scene n));
  asked = subst (AskedTo e.deed.act p (scene n)) is (asked_by_rule e.deed.act p (scene n));
  found = found;
  parties = parties;
  lends = lends;
}

more_than_two : (j : ℕ) → nat_eq (suc (suc (suc j))) 2 ≡ false
more_than_two j = grind (arith, nat_tests)

opens : (limit : ℕ) → After limit [] (opening limit)
opens limit = record { cut = true; moves = []; is = refl; follows = record { outside = λ out. refl; within = idle; lends = lends; all_stand = tt; takes = λ uncut. tt; inside = λ cut_now. refl; wait = tt; due = λ uncut. tt } }
  where
    idle : (j : ℕ) → is_open j [] ≡ in_call (slice_get (opening limit).parties j)
    idle zero = refl
    idle (suc zero) = refl
    idle (suc (suc zero)) = refl
    idle (suc (suc (suc j))) = refl

    lends : (j : ℕ) → is_lent j [] ≡ lent_at (slice_get (opening limit).parties j)
    lends zero = refl
    lends (suc zero) = refl
    lends (suc (suc zero)) = refl
    lends (suc (suc (suc j))) = more_than_two j

after_log : (limit : ℕ) (log : List Entry) (m : Machine) → Reaches limit log m → calls_nest log ≡ true → After limit log m
after_log limit [] m r nests = subst (After limit []) (sym r) (opens limit)
after_log limit (e ∷ earlier) m r nests =
    let before : After limit earlier r.0 = after_log limit earlier r.0 r.1 (right_true (may_follow e.party (open_calls earlier)) (calls_nest earlier) nests) in
    let s : Moved r.0 m e = moved r.0 m e r.3 in
    let x : OneStep r.0 e (is_lent e.party earlier) s.at s.left = one_step r.0 e (is_lent e.party earlier) s.at s.left s.here s.is r.2 r.4 (before.follows.lends e.party ∙ ap lent_at s.here) in
    subst (After limit (e ∷ earlier)) s.leads
    (one_after limit e earlier r.0 s.at s.left before x (left_true (may_follow e.party (open_calls earlier)) (calls_nest earlier) nests) (r.3 ∙ ap Some (sym s.leads)))

pub nested_calls_are_whole : NestedCallsAreWhole
nested_calls_are_whole limit log m r nests =
    let a = after_log limit log m r nests in
    let w : Whole = at_whole m (parties_of (open_calls log)) a.cut a.moves in
    record { run = w; is = a.is; machine = refl; calls = refl; cut = a.follows.outside; agrees = λ out. whole_runs_agree limit (steps_of log) w a.is (a.follows.outside out) }

-- calls that take turns nest
turn_follows : (k : ℕ) (calls : List OpenCall) → is_turn_of k calls ≡ true → may_follow k calls ≡ true
turn_follows k [] e = refl
turn_follows k (c ∷ calls) e = yes_left (nat_eq k c.party) (runs_foreign c && not (is_open k calls)) e

pub calls_in_turn_nest : CallsInTurnNest
calls_in_turn_nest [] turns = refl
calls_in_turn_nest (e ∷ earlier) turns =
    both_true (may_follow e.party (open_calls earlier)) (calls_nest earlier) (turn_follows e.party (open_calls earlier) (left_true (is_turn_of e.party (open_calls earlier)) (calls_take_turns earlier) turns))
    (calls_in_turn_nest earlier (right_true (is_turn_of e.party (open_calls earlier)) (calls_take_turns earlier) turns))

-- A WHOLE RUN, of which the calls nest
may_follow_so : (k : ℕ) (calls : List OpenCall) → is_open k calls ≡ false → runs_outside calls ≡ true → may_follow k calls ≡ true
may_follow_so k [] idle out = refl
may_follow_so k (c ∷ calls) idle out =
    yes_right (nat_eq k c.party) (runs_foreign c && not (is_open k calls)) (both_true (runs_foreign c) (not (is_open k calls)) out (ap not (right_false (nat_eq k c.party) (is_open k calls) idle)))

innermost_follows : (k : ℕ) (calls : List OpenCall) → is_innermost k (parties_of calls) ≡ true → may_follow k calls ≡ true
innermost_follows k [] mine = refl
innermost_follows k (c ∷ calls) mine = yes_left (nat_eq k c.party) (runs_foreign c && not (is_open k calls)) mine

follows_if : (n : Machine) (k : ℕ) (p : Position) (calls : List OpenCall) (is_lent_to : ℕ → Bool) (cut : Bool) (moves : List Move) → Follows n calls is_lent_to cut → slice_get n.parties k ≡ Some p → (b : Bool) → is_at_rest p ≡ b
    → may_step (at_whole n (parties_of calls) cut moves) k p ≡ true → may_follow k calls ≡ true
follows_if n k p calls is_lent_to cut moves f here true rests may =
    may_follow_so k calls (f.within k ∙ (ap in_call here ∙ ap not rests)) (f.inside (rw rests at may))
follows_if n k p calls is_lent_to cut moves f here false rests may = innermost_follows k calls (rw rests at may)

may_of : (w : Whole) (s : Step) (p : Position) (m : Machine) (v : Whole) → stepped w s (Some p) (Some m) ≡ Some v → may_step w s.party p ≡ true
may_of w s p m v is = by (may_step w s.party p) refl is
  where
    by : (b : Bool) → may_step w s.party p ≡ b → (if b then at_next w s p (slice_get m.parties s.party) m else None) ≡ Some v → may_step w s.party p ≡ true
    by true g made = g
    by false g made = absurd (cc)

nest_on : (limit : ℕ) (e : Entry) (earlier : List Entry) (m : Machine) (r : Reaches limit (e ∷ earlier) m) (w : Whole) (v : Option Whole) → whole limit (steps_of earlier) ≡ v
    → whole_from v (record { party = e.party; act = e.deed.act } ∷ []) ≡ Some w → ((u : Whole) → whole limit (steps_of earlier) ≡ Some u → calls_nest earlier ≡ true) → calls_nest (e ∷ earlier) ≡ true
nest_on limit e earlier m r w None before is nests = absurd (cc)
nest_on limit e earlier m r w (Some u) before is nests =
    let s : Step = record { party = e.party; act = e.deed.act } in
    let a : After limit earlier r.0 = after_log limit earlier r.0 r.1 (nests u before) in
    let here : Whole = at_whole r.0 (parties_of (open_calls earlier)) a.cut a.moves in
    let x : Moved r.0 m e = moved r.0 m e r.3 in
    let on : stepped here s (slice_get (r.0).parties e.party) (step r.0 s) ≡ Some w = ap (λ (y : Option Whole). whole_from y (s ∷ [])) (sym a.is ∙ before) ∙ is in
    let made : stepped here s (Some x.at) (Some m) ≡ Some w = sym (ap (λ (at : Option Position). stepped here s at (step r.0 s)) x.here ∙ ap (stepped here s (Some x.at)) r.3) ∙ on in
    both_true (may_follow e.party (open_calls earlier)) (calls_nest earlier)
    (follows_if r.0 e.party x.at (open_calls earlier) (λ k. is_lent k earlier) a.cut a.moves a.follows x.here (is_at_rest x.at) refl (may_of here s x.at m w made)) (nests u before)

pub whole_runs_nest : WholeRunsNest
whole_runs_nest limit [] m r w is = refl
whole_runs_nest limit (e ∷ earlier) m r w is =
    nest_on limit e earlier m r w (whole limit (steps_of earlier)) refl
    (sym (whole_append (Some (at_whole (opening limit) [] true [])) (steps_of earlier) (record { party = e.party; act = e.deed.act } ∷ [])) ∙ is) (whole_runs_nest limit earlier r.0 r.1)
