-- The acts of a call of the code are those of its party in the interleaving, between the first deed of the call and its answer.
use Rattle.std.proofs.Common.{◌≡◌, ℕ, eqb, Bool, true, false, Option, Some, None, List, [], ◌∷◌, ◌++◌, sym, refl, ap, ◌∙◌, subst, append_assoc, append-nil}
use Rattle.std.specs.Prelude.{slice_get, if◌then◌else◌}
use mathlib.Core.Option.{some}
use lib.ListN.{get_elem?}
use Rattle.atomic_table.specs.Table.{State as Board}
use Rattle.task_core.specs.Word.{State}
use Rattle.task_core.specs.declared.acts.Act.{Act}
use Rattle.task_core.specs.declared.acts.Act.TheVariants.{Look, LookFinished, EndCall}
use Rattle.task_laws.specs.declared.positions.Position.{Position}
use Rattle.task_laws.specs.Machine.{Machine, Step, opening, scene, after as left_by, moves, step, run_from, run}
use Rattle.task_laws.specs.Table.{rule}
use Rattle.task_steps.specs.declared.table.Deed.{Deed}
use Rattle.task_steps.specs.declared.table.Member.{Member}
use Rattle.task_steps.specs.declared.table.View.{View}
use Rattle.task_steps.specs.Deeds.{act, after}
use Rattle.task_steps.specs.Rule.{Entry, Reaches, steps_of, noted_if, deeds_of}
use Rattle.task_steps.proofs.Explains.{runs, got}
use Rattle.task_atomic.specs.Small.{SmallAct, NoAct}
use Rattle.task_atomic.specs.Atomic.{act_of, SmallStep, act_in, act_at, small_steps}
use Rattle.task_atomic.specs.Calls.{and_act}
use Rattle.task_atomic.specs.Deeds.{act_by, acts_of}
use Rattle.task_steps.specs.Values.{Values}
use Rattle.task_atomic.specs.CodeActs.{IsAct, acts_by, newest, oldest, IsCall, CallsAreActs, CellsAreRuns}
use Rattle.task_atomic.proofs.SmallRuns.{stands_after, steps_are_runs}
use Rattle.task_atomic.proofs.NextDeeds.{deeds_are_acts, same_party}

-- lists of deeds, the newest or the oldest first
after_more : (path l rest : List Deed) → after path l ++ rest ≡ after path (l ++ rest)
after_more [] l rest = refl
after_more (d ∷ path) l rest = after_more path (d ∷ l) rest

after_onto : (path l rest : List Deed) → after (after path l) rest ≡ after l (path ++ rest)
after_onto [] l rest = refl
after_onto (d ∷ path) l rest = after_onto path (d ∷ l) rest

after_end : (path : List Deed) (d : Deed) (l : List Deed) → after (path ++ d ∷ []) l ≡ d ∷ after path l
after_end [] d l = refl
after_end (x ∷ path) d l = after_end path d (x ∷ l)

deeds_append : (k : ℕ) (later earlier : List Entry) → deeds_of k (later ++ earlier) ≡ deeds_of k later ++ deeds_of k earlier
deeds_append k [] earlier = refl
deeds_append k (e ∷ later) earlier = by (eqb e.party k) (deeds_append k later earlier)
  where
    by : (b : Bool) → deeds_of k (later ++ earlier) ≡ deeds_of k later ++ deeds_of k earlier → noted_if b e.deed (deeds_of k (later ++ earlier)) ≡ noted_if b e.deed (deeds_of k later) ++ deeds_of k earlier
    by true h = ap (λ (l : List Deed). e.deed ∷ l) h
    by false h = h

-- one deed of a party, found in the interleaving
record FoundAt (k : ℕ) (log : List Entry) (newer : List Deed) (d : Deed) (older : List Deed) : Type 0 where
  since : List Entry
  entry : Entry
  earlier : List Entry
  cut : log ≡ since ++ entry ∷ earlier
  later : deeds_of k since ≡ newer
  mine : eqb entry.party k ≡ true
  is : entry.deed ≡ d
  before : deeds_of k earlier ≡ older

found_at : (k : ℕ) (log : List Entry) (newer : List Deed) (d : Deed) (older : List Deed) → deeds_of k log ≡ newer ++ d ∷ older → FoundAt k log newer d older
found_at k [] [] d older e = absurd (cc)
found_at k [] (n ∷ newer) d older e = absurd (cc)
found_at k (x ∷ log) newer d older e = by (eqb x.party k) refl newer e (found_at k log)
  where
    further : (newer : List Deed) (f : FoundAt k log newer d older) (all : List Deed) → deeds_of k (x ∷ f.since) ≡ all → FoundAt k (x ∷ log) all d older
    further newer f all e = record { since = x ∷ f.since; entry = f.entry; earlier = f.earlier; cut = ap (λ (l : List Entry). x ∷ l) f.cut; later = e; mine = f.mine; is = f.is; before = f.before }

    by : (b : Bool) → eqb x.party k ≡ b → (newer : List Deed) → noted_if b x.deed (deeds_of k log) ≡ newer ++ d ∷ older
        → ((newer : List Deed) (d : Deed) (older : List Deed) → deeds_of k log ≡ newer ++ d ∷ older → FoundAt k log newer d older) → FoundAt k (x ∷ log) newer d older
    by true is [] e rest = record { since = []; entry = x; earlier = log; cut = refl; later = refl; mine = is; is = cc; before = cc }
    by true is (n ∷ newer) e rest =
        let f = rest newer d older (cc) in
        let same : x.deed ≡ n = cc in
        further newer f (n ∷ newer) (ap (λ (b : Bool). noted_if b x.deed (deeds_of k f.since)) is ∙ ap (λ (y : Deed). y ∷ deeds_of k f.since) same ∙ ap (λ (l : List Deed). n ∷ l) f.later)
    by false is newer e rest =
        let f = rest newer d older e in
        further newer f newer (ap (λ (b : Bool). noted_if b x.deed (deeds_of k f.since)) is ∙ f.later)

-- a party's deeds, found in the interleaving: one, and those before it
oldest_end : (x : Entry) (later : List Entry) (e : Entry) (earlier : List Entry) → oldest (x ∷ (later ++ e ∷ earlier)) ≡ oldest (e ∷ earlier)
oldest_end x [] e earlier = refl
oldest_end x (y ∷ later) e earlier = oldest_end y later e earlier

record FoundAll (k : ℕ) (e : Entry) (log : List Entry) (ds older : List Deed) : Type 0 where
  during : List Entry
  before : List Entry
  cut : log ≡ during ++ before
  did : deeds_of k during ≡ ds
  begins : oldest (e ∷ during) ≡ Some k

found_all : (k : ℕ) (ds older : List Deed) (e : Entry) (log : List Entry) → eqb e.party k ≡ true → deeds_of k log ≡ ds ++ older → FoundAll k e log ds older
found_all k [] older e log mine did = record { during = []; before = log; cut = refl; did = refl; begins = ap (λ (n : ℕ). Some n) (same_party e.party k mine) }
found_all k (d ∷ ds) older e log mine did =
    let f : FoundAt k log [] d (ds ++ older) = found_at k log [] d (ds ++ older) did in
    let g : FoundAll k f.entry f.earlier ds older = found_all k ds older f.entry f.earlier f.mine f.before in
    record {
      during = f.since ++ f.entry ∷ g.during;
      before = g.before;
      cut = f.cut ∙ ap (λ (l : List Entry). f.since ++ f.entry ∷ l) g.cut ∙ sym (append_assoc f.since (f.entry ∷ g.during) g.before);
      did = deeds_append k f.since (f.entry ∷ g.during) ∙ ap (λ (l : List Deed). l ++ deeds_of k (f.entry ∷ g.during)) f.later
          ∙ ap (λ (b : Bool). noted_if b f.entry.deed (deeds_of k g.during)) f.mine ∙ ap (λ (l : List Deed). f.entry.deed ∷ l) g.did ∙ ap (λ (y : Deed). y ∷ ds) f.is;
      begins = oldest_end e f.since f.entry g.during ∙ g.begins;
    }

-- the acts of two lists of steps in a row
steps_append : (later earlier : List Entry) → steps_of (later ++ earlier) ≡ steps_of earlier ++ steps_of later
steps_append [] earlier = sym (append-nil (steps_of earlier))
steps_append (e ∷ later) earlier = ap (λ (l : List Step). l ++ record { party = e.party; act = e.deed.act } ∷ []) (steps_append later earlier)
    ∙ append_assoc (steps_of earlier) (steps_of later) (record { party = e.party; act = e.deed.act } ∷ [])

run_append : (m : Option Machine) (xs ys : List Step) → run_from m (xs ++ ys) ≡ run_from (run_from m xs) ys
run_append m [] ys = refl
run_append None (x ∷ xs) [] = refl
run_append None (x ∷ xs) (y ∷ ys) = refl
run_append (Some m) (x ∷ xs) ys = run_append (step m x) xs ys

small_append : (m : Option Machine) (xs ys : List Step) → small_steps m (xs ++ ys) ≡ small_steps m xs ++ small_steps (run_from m xs) ys
small_append m [] ys = refl
small_append None (x ∷ xs) [] = refl
small_append None (x ∷ xs) (y ∷ ys) = refl
small_append (Some m) (x ∷ xs) ys = ap (λ (l : List SmallStep). record { party = x.party; act = act_at x (step m x) } ∷ l) (small_append (step m x) xs ys)

small_one : (m : Option Machine) (s : Step) (n : Machine) → run_from m (s ∷ []) ≡ Some n → small_steps m (s ∷ []) ≡ record { party = s.party; act = act_at s (Some n) } ∷ []
small_one None s n e = absurd (cc)
small_one (Some m) s n e = ap (λ (left : Option Machine). record { party = s.party; act = act_at s left } ∷ []) e

by_end : (k : ℕ) (steps : List SmallStep) (s : SmallStep) → acts_by k (steps ++ s ∷ []) ≡ acts_by k steps ++ acts_by k (s ∷ [])
by_end k [] s = refl
by_end k (x ∷ steps) s = by (eqb x.party k) x.act (by_end k steps s)
  where
    joined : (a : SmallAct) (all acts rest : List SmallAct) → all ≡ acts ++ rest → and_act a all ≡ and_act a acts ++ rest
    joined NoAct all acts rest e = e
    joined a all acts rest e = ap (λ (l : List SmallAct). a ∷ l) e

    by : (b : Bool) (a : SmallAct) → acts_by k (steps ++ s ∷ []) ≡ acts_by k steps ++ acts_by k (s ∷ [])
        → (if b then and_act a (acts_by k (steps ++ s ∷ [])) else acts_by k (steps ++ s ∷ [])) ≡ (if b then and_act a (acts_by k steps) else acts_by k steps) ++ acts_by k (s ∷ [])
    by true a h = joined a (acts_by k (steps ++ s ∷ [])) (acts_by k steps) (acts_by k (s ∷ [])) h
    by false a h = h

-- a step of an interleaving, after those before it
record StepOf (limit : ℕ) (e : Entry) (during before : List Entry) : Type 0 where
  left : Machine
  ends : run limit (steps_of (e ∷ (during ++ before))) ≡ Some left
  acts : small_steps (run limit (steps_of before)) (steps_of (e ∷ during))
      ≡ small_steps (run limit (steps_of before)) (steps_of during) ++ record { party = e.party; act = act_at (record { party = e.party; act = e.deed.act }) (Some left) } ∷ []

step_of : (limit : ℕ) (e : Entry) (during before : List Entry) (m : Machine) → Reaches limit (e ∷ (during ++ before)) m → StepOf limit e during before
step_of limit e during before m r =
    let s : Step = record { party = e.party; act = e.deed.act } in
    let from : Option Machine = run limit (steps_of before) in
    let ends : run limit (steps_of (e ∷ (during ++ before))) ≡ Some m = runs limit (e ∷ (during ++ before)) m r in
    let on : run_from from (steps_of during ++ s ∷ []) ≡ Some m =
    sym (run_append (Some (opening limit)) (steps_of before) (steps_of during ++ s ∷ [])) ∙ ap (λ (l : List Step). run limit l) (sym (steps_append (e ∷ during) before)) ∙ ends in
    record {
      left = m;
      ends = ends;
      acts = small_append from (steps_of during) (s ∷ [])
          ∙ ap (λ (l : List SmallStep). small_steps from (steps_of during) ++ l) (small_one (run_from from (steps_of during)) s m (sym (run_append from (steps_of during) (s ∷ [])) ∙ on));
    }

-- an interleaving reached its earlier machines
reached : (limit : ℕ) (later earlier : List Entry) (m : Machine) → Reaches limit (later ++ earlier) m → (n : Machine) × Reaches limit earlier n
reached limit [] earlier m r = (m, r)
reached limit (e ∷ later) earlier m r = reached limit later earlier r.0 r.1

-- the act of a deed that is not its party's last
act_is : (limit : ℕ) (earlier : List Entry) (e : Entry) (next : Deed) (n : Machine) → IsAct limit earlier e next → run limit (steps_of (e ∷ earlier)) ≡ Some n
    → act_at (record { party = e.party; act = e.deed.act }) (Some n) ≡ act_by e.deed.act e.deed.found (next ∷ [])
act_is limit earlier e next n i ran =
    let s : Step = record { party = e.party; act = e.deed.act } in
    let stepped : step i.machine s ≡ left_by i.machine e.party i.at (Some i.left) =
    ap (λ (at : Option Position). moves i.machine e.party e.deed.act at) i.stands ∙ ap (left_by i.machine e.party i.at) i.leaves in
    let ran_on : run limit (steps_of (e ∷ earlier)) ≡ step i.machine s =
    run_append (Some (opening limit)) (steps_of earlier) (s ∷ []) ∙ ap (λ (m : Option Machine). run_from m (s ∷ [])) (runs limit earlier i.machine i.reached) in
    ap (act_at s) (sym ran ∙ ran_on ∙ stepped) ∙ ap (act_in e.deed.act) (stands_after i.machine.parties e.party i.at i.left i.stands) ∙ i.is

by_next : (act : Act) (found : Option State) (next : Deed) (path : List Deed) → act_by act found (next ∷ []) ≡ act_by act found (next ∷ path)
by_next LookFinished found next path = refl
by_next Look found next path = refl
by_next act found next path = refl

acts_joined : (a b : SmallAct) (acts rest : List SmallAct) → a ≡ b → (acts ++ and_act a []) ++ rest ≡ acts ++ and_act b rest
acts_joined a b acts rest e = append_assoc acts (and_act a []) rest ∙ ap (λ (l : List SmallAct). acts ++ l) (one a) ∙ ap (λ (x : SmallAct). acts ++ and_act x rest) e
  where
    one : (x : SmallAct) → and_act x [] ++ rest ≡ and_act x rest
    one NoAct = refl
    one x = refl

-- the acts of the deeds of a party, up to a later one
acts_until : (limit k : ℕ) (during later before : List Entry) (m : Machine) → Reaches limit (later ++ (during ++ before)) m → (newer : List Deed) (next : Deed) (path : List Deed)
    → deeds_of k later ≡ newer ++ next ∷ [] → acts_by k (small_steps (run limit (steps_of before)) (steps_of during)) ++ acts_of (next ∷ path) ≡ acts_of (after (deeds_of k during) (next ∷ path))
acts_until limit k [] later before m r newer next path e = refl
acts_until limit k (x ∷ during) later before m r newer next path e =
    let whole : Reaches limit ((later ++ x ∷ []) ++ (during ++ before)) m = subst (λ (l : List Entry). Reaches limit l m) (sym (append_assoc later (x ∷ []) (during ++ before))) r in
    let there = reached limit later (x ∷ (during ++ before)) m r in
    let s : StepOf limit x during before = step_of limit x during before there.0 there.1 in
    let split = ap (acts_by k) s.acts ∙ by_end k (small_steps (run limit (steps_of before)) (steps_of during)) (record { party = x.party; act = act_at (record { party = x.party; act = x.deed.act }) (Some s.left) }) in
    by (eqb x.party k) refl s split (λ newer next path e. acts_until limit k during (later ++ x ∷ []) before m whole newer next path (deeds_append k later (x ∷ []) ∙ e))
  where
    begun : List SmallAct
    begun = acts_by k (small_steps (run limit (steps_of before)) (steps_of during))

    by : (b : Bool) → eqb x.party k ≡ b → (s : StepOf limit x during before)
        → acts_by k (small_steps (run limit (steps_of before)) (steps_of (x ∷ during))) ≡ begun ++ (if b then and_act (act_at (record { party = x.party; act = x.deed.act }) (Some s.left)) [] else [])
        → ((newer : List Deed) (next : Deed) (path : List Deed) → deeds_of k later ++ noted_if b x.deed [] ≡ newer ++ next ∷ [] → begun ++ acts_of (next ∷ path) ≡ acts_of (after (deeds_of k during) (next ∷ path)))
        → acts_by k (small_steps (run limit (steps_of before)) (steps_of (x ∷ during))) ++ acts_of (next ∷ path) ≡ acts_of (after (noted_if b x.deed (deeds_of k during)) (next ∷ path))
    by false is s split rest =
        ap (λ (l : List SmallAct). l ++ acts_of (next ∷ path)) (split ∙ append-nil begun) ∙ rest newer next path (append-nil (deeds_of k later) ∙ e)
    by true is s split rest =
        let same : x.party ≡ k = same_party x.party k is in
        let i : IsAct limit (during ++ before) x next = deeds_are_acts limit later (during ++ before) x m r newer next (ap (λ (j : ℕ). deeds_of j later) same ∙ e) in
        ap (λ (l : List SmallAct). l ++ acts_of (next ∷ path)) split
        ∙ acts_joined _ (act_by x.deed.act x.deed.found (next ∷ path)) begun (acts_of (next ∷ path)) (act_is limit (during ++ before) x next s.left i s.ends ∙ by_next x.deed.act x.deed.found next path)
        ∙ rest (deeds_of k later) x.deed (next ∷ path) refl

-- the end of a call is no act
ends_by_none : (k : ℕ) (o : Option Machine) → act_at (record { party = k; act = EndCall }) o ≡ NoAct
ends_by_none k None = refl
ends_by_none k (Some m) = by (slice_get m.parties k)
  where
    by : (at : Option Position) → act_in EndCall at ≡ NoAct
    by None = refl
    by (Some p) = refl

none_by : (b : Bool) → (if b then and_act NoAct [] else []) ≡ []
none_by true = refl
none_by false = refl

-- so the acts of a call are those of its path
ended : (limit k : ℕ) (log : List Entry) (m : Machine) → Reaches limit log m → (newer path rest : List Deed) → (f : FoundAt k log newer (act EndCall) (after path [] ++ rest))
    → (g : FoundAll k f.entry f.earlier (after path []) rest) → acts_by k (small_steps (run limit (steps_of g.before)) (steps_of (f.entry ∷ g.during))) ≡ acts_of (path ++ act EndCall ∷ [])
ended limit k log m r newer path rest f g =
    let whole : Reaches limit (f.since ++ f.entry ∷ (g.during ++ g.before)) m = subst (λ (l : List Entry). Reaches limit l m) (f.cut ∙ ap (λ (l : List Entry). f.since ++ f.entry ∷ l) g.cut) r in
    let there = reached limit f.since (f.entry ∷ (g.during ++ g.before)) m whole in
    let s : StepOf limit f.entry g.during g.before = step_of limit f.entry g.during g.before there.0 there.1 in
    let begun : List SmallAct = acts_by k (small_steps (run limit (steps_of g.before)) (steps_of g.during)) in
    let last : SmallStep = record { party = f.entry.party; act = act_at (record { party = f.entry.party; act = f.entry.deed.act }) (Some s.left) } in
    let none : acts_by k (last ∷ []) ≡ [] =
    ap (λ (a : SmallAct). acts_by k (record { party = f.entry.party; act = a } ∷ [])) (ap (λ (d : Deed). act_at (record { party = f.entry.party; act = d.act }) (Some s.left)) f.is ∙ ends_by_none f.entry.party (Some s.left))
    ∙ none_by (eqb f.entry.party k) in
    let noted : deeds_of k (f.since ++ f.entry ∷ []) ≡ newer ++ act EndCall ∷ [] =
    deeds_append k f.since (f.entry ∷ []) ∙ ap (λ (l : List Deed). l ++ deeds_of k (f.entry ∷ [])) f.later ∙ ap (λ (b : Bool). newer ++ noted_if b f.entry.deed []) f.mine ∙ ap (λ (d : Deed). newer ++ d ∷ []) f.is in
    let acts : begun ++ acts_of (act EndCall ∷ []) ≡ acts_of (after (deeds_of k g.during) (act EndCall ∷ [])) =
    acts_until limit k g.during (f.since ++ f.entry ∷ []) g.before m (subst (λ (l : List Entry). Reaches limit l m) (sym (append_assoc f.since (f.entry ∷ []) (g.during ++ g.before))) whole) newer (act EndCall) [] noted in
    ap (acts_by k) s.acts ∙ by_end k (small_steps (run limit (steps_of g.before)) (steps_of g.during)) last ∙ ap (λ (l : List SmallAct). begun ++ l) none ∙ acts
    ∙ ap (λ (l : List Deed). acts_of (after l (act EndCall ∷ []))) g.did ∙ ap acts_of (after_onto path [] (act EndCall ∷ []))

-- a run of the small task, cut in three
cut_in_three : (limit : ℕ) (log since during before : List Entry) → log ≡ since ++ (during ++ before)
    → small_steps (Some (opening limit)) (steps_of log)
    ≡ small_steps (Some (opening limit)) (steps_of before) ++ (small_steps (run limit (steps_of before)) (steps_of during) ++ small_steps (run limit (steps_of (during ++ before))) (steps_of since))
cut_in_three limit log since during before cut =
    let opened : Option Machine = Some (opening limit) in
    let rest : List SmallStep = small_steps (run limit (steps_of (during ++ before))) (steps_of since) in
    ap (λ (l : List Entry). small_steps opened (steps_of l)) cut ∙ ap (small_steps opened) (steps_append since (during ++ before)) ∙ small_append opened (steps_of (during ++ before)) (steps_of since)
    ∙ ap (λ (l : List SmallStep). l ++ rest) (ap (small_steps opened) (steps_append during before) ∙ small_append opened (steps_of before) (steps_of during))
    ∙ append_assoc (small_steps opened (steps_of before)) (small_steps (run limit (steps_of before)) (steps_of during)) rest

is_call : (limit k : ℕ) (log : List Entry) (m : Machine) → Reaches limit log m → (newer path rest : List Deed) → deeds_of k log ≡ newer ++ act EndCall ∷ (after path [] ++ rest)
    → IsCall limit k newer (path ++ act EndCall ∷ []) log
is_call limit k log m r newer path rest e =
    let f : FoundAt k log newer (act EndCall) (after path [] ++ rest) = found_at k log newer (act EndCall) (after path [] ++ rest) e in
    let g : FoundAll k f.entry f.earlier (after path []) rest = found_all k (after path []) rest f.entry f.earlier f.mine f.before in
    let cut : log ≡ f.since ++ ((f.entry ∷ g.during) ++ g.before) = f.cut ∙ ap (λ (l : List Entry). f.since ++ f.entry ∷ l) g.cut in
    record {
      since = f.since;
      during = f.entry ∷ g.during;
      before = g.before;
      cut = cut;
      later = f.later;
      did = ap (λ (b : Bool). noted_if b f.entry.deed (deeds_of k g.during)) f.mine ∙ ap (λ (d : Deed). d ∷ deeds_of k g.during) f.is ∙ ap (λ (l : List Deed). act EndCall ∷ l) g.did ∙ sym (after_end path (act EndCall) []);
      begins = g.begins;
      answers = ap (λ (n : ℕ). Some n) (same_party f.entry.party k f.mine);
      part = cut_in_three limit log f.since (f.entry ∷ g.during) g.before cut;
      acts = ended limit k log m r newer path rest f g;
    }

pub calls_are_acts : CallsAreActs
calls_are_acts limit log m r k ds did newer path older is =
    let rest : List Deed = did.0 in
    let d : Deed = act EndCall in
    let all : deeds_of k log ≡ newer ++ d ∷ (after path [] ++ (older ++ rest)) =
    did.1 ∙ ap (λ (l : List Deed). l ++ rest) is ∙ append_assoc newer (after (path ++ d ∷ []) older) rest
    ∙ ap (λ (l : List Deed). newer ++ l) (ap (λ (l : List Deed). l ++ rest) (after_end path d older) ∙ ap (λ (l : List Deed). d ∷ l) (after_more path older rest ∙ sym (after_more path [] (older ++ rest)))) in
    is_call limit k log m r newer path (older ++ rest) all

pub cells_are_runs : (F T A : Type 0) (values : Values F T) → CellsAreRuns values A
cells_are_runs F T A values limit s holds id index v u seat there =
    let r = holds.running in
    let k = r.told.each id index v u seat there in
    record {
      machine = r.machine;
      log = r.log;
      reached = r.told.reaches;
      word_is = r.word_is;
      runs = steps_are_runs limit (steps_of r.log) r.machine (runs limit r.log r.machine r.told.reaches);
      party = k.0;
      stands = got r.machine.parties k.0 u.at k.1.at;
      did = k.1.did;
    }
