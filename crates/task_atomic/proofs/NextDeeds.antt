-- Each deed of a party is an act on the small task: the next one tells what its look saw, since the party stands there until then.
use Rattle.std.proofs.Common.{◌≡◌, ℕ, eqb, Bool, true, false, Option, Some, None, List, [], ◌∷◌, ◌++◌, sym, refl, ap, ◌∙◌, subst, arith}
use Rattle.std.specs.Prelude.{slice_get, slice_set, nat_eq}
use Rattle.std.proofs.lemmas.Bool.Decides.{nat_tests}
use Rattle.task_core.specs.Word.{State}
use Rattle.task_core.specs.declared.acts.Act.{Act}
use Rattle.task_core.specs.declared.acts.Act.TheVariants.{Look, LookFinished}
use Rattle.task_laws.specs.declared.positions.Position.{Position}
use Rattle.task_laws.specs.Machine.{Machine, Step, scene, begins, after, moves, step}
use Rattle.task_laws.specs.Table.{Outcome, Scene, rule}
use Rattle.task_laws.proofs.Cuts.{get_put, get_other, get_append}
use Rattle.task_steps.specs.declared.table.Deed.{Deed}
use Rattle.task_steps.specs.Deeds.{row}
use Rattle.task_steps.specs.Rule.{Entry, Reaches, steps_of, found_by, noted_if, deeds_of}
use Rattle.task_steps.proofs.Explains.{next_machine, runs}
use Rattle.task_atomic.specs.Deeds.{act_by}
use Rattle.task_atomic.specs.CodeActs.{IsAct, DeedsAreActs}
use Rattle.task_atomic.proofs.Atoms.{steps_are_atomic}
use Rattle.task_atomic.proofs.Deeds.{deeds_are_steps}

-- a step, taken apart
record Moved (n m : Machine) (k : ℕ) (act : Act) : Type 0 where
  at : Position
  left : Outcome
  here : slice_get n.parties k ≡ Some at
  is : rule (scene n) act at ≡ Some left
  parties : m.parties ≡ slice_set n.parties k left.next ++ left.born

after_moved : (n m : Machine) (k : ℕ) (act : Act) (p : Position) (x : Option Outcome) → slice_get n.parties k ≡ Some p → rule (scene n) act p ≡ x → after n k p x ≡ Some m → Moved n m k act
after_moved n m k act p None here is e = absurd (cc)
after_moved n m k act p (Some o) here is e = let same : next_machine n k p o ≡ m = cc in record { at = p; left = o; here = here; is = is; parties = sym (ap (λ (y : Machine). y.parties) same) }

moves_moved : (n m : Machine) (k : ℕ) (act : Act) (x : Option Position) → slice_get n.parties k ≡ x → moves n k act x ≡ Some m → Moved n m k act
moves_moved n m k act None here e = absurd (cc)
moves_moved n m k act (Some p) here e = after_moved n m k act p (rule (scene n) act p) here refl e

moved : (n m : Machine) (k : ℕ) (act : Act) → step n (record { party = k; act = act }) ≡ Some m → Moved n m k act
moved n m k act e = moves_moved n m k act (slice_get n.parties k) refl e

-- where its party stands after it, and where any other does
here_after : (n m : Machine) (k : ℕ) (act : Act) (x : Moved n m k act) → slice_get m.parties k ≡ Some x.left.next
here_after n m k act x = subst (λ (ps : List Position). slice_get ps k ≡ Some x.left.next) (sym x.parties)
    (get_append (slice_set n.parties k x.left.next) x.left.born k x.left.next (get_put n.parties k x.at x.left.next x.here))

apart : (i j : ℕ) → eqb i j ≡ false → nat_eq i j ≡ false
apart i j e = grind (arith, nat_tests)

other_after : (n m : Machine) (k j : ℕ) (act : Act) (q : Position) → Moved n m k act → eqb k j ≡ false → slice_get n.parties j ≡ Some q → slice_get m.parties j ≡ Some q
other_after n m k j act q x other at = subst (λ (ps : List Position). slice_get ps j ≡ Some q) (sym x.parties)
    (get_append (slice_set n.parties k x.left.next) x.left.born j q (get_other n.parties k j x.left.next (apart k j other) ∙ at))

-- an interleaving from a machine on
abbrev ReachesFrom : Machine → List Entry → Machine → Type 0
ReachesFrom n [] m = m ≡ n
ReachesFrom n (e ∷ later) m = (t : Machine) × ReachesFrom n later t × (step t (record { party = e.party; act = e.deed.act }) ≡ Some m)

-- an interleaving, cut at one of its steps
record CutAt (limit : ℕ) (later earlier : List Entry) (e : Entry) (m : Machine) : Type 0 where
  before : Machine
  next : Machine
  reached : Reaches limit earlier before
  found : e.deed.found ≡ found_by e.deed.act before.word
  steps : step before (record { party = e.party; act = e.deed.act }) ≡ Some next
  on : ReachesFrom next later m

cut_at : (limit : ℕ) (later earlier : List Entry) (e : Entry) (m : Machine) → Reaches limit (later ++ e ∷ earlier) m → CutAt limit later earlier e m
cut_at limit [] earlier e m r = record { before = r.0; next = m; reached = r.1; found = r.2; steps = r.3; on = refl }
cut_at limit (x ∷ later) earlier e m r = let c = cut_at limit later earlier e r.0 r.1 in
    record { before = c.before; next = c.next; reached = c.reached; found = c.found; steps = c.steps; on = (r.0, c.on, r.3) }

-- a party that makes no step stays where it is
stays_by : (k : ℕ) (q : Position) (n : Machine) (x : Entry) (later : List Entry) (m : Machine) (b : Bool) → eqb x.party k ≡ b → (r : ReachesFrom n (x ∷ later) m)
    → (deeds_of k later ≡ [] → slice_get (r.0).parties k ≡ Some q) → noted_if b x.deed (deeds_of k later) ≡ [] → slice_get m.parties k ≡ Some q
stays_by k q n x later m true is r before none = absurd (cc)
stays_by k q n x later m false is r before none = other_after r.0 m x.party k x.deed.act q (moved r.0 m x.party x.deed.act r.2) is (before none)

stays_at : (k : ℕ) (q : Position) (n : Machine) (later : List Entry) (m : Machine) → ReachesFrom n later m → deeds_of k later ≡ [] → slice_get n.parties k ≡ Some q → slice_get m.parties k ≡ Some q
stays_at k q n [] m r none at = subst (λ (x : Machine). slice_get x.parties k ≡ Some q) (sym r) at
stays_at k q n (x ∷ later) m r none at = stays_by k q n x later m (eqb x.party k) refl r (λ still. stays_at k q n later r.0 r.1 still at) none

-- its next step is made from there
pub record NextFrom (q : Position) (act : Act) : Type 0 where
  pub scene : Scene
  pub left : Outcome
  pub is : rule scene act q ≡ Some left

pub same_party : (i j : ℕ) → eqb i j ≡ true → i ≡ j
same_party i j e = grind (arith, nat_tests)

not_none : (newer : List Deed) (next : Deed) → [] ≡ newer ++ next ∷ [] → ⊥
not_none [] next e = cc
not_none (d ∷ newer) next e = cc

next_by : (k : ℕ) (q : Position) (n : Machine) (x : Entry) (later : List Entry) (m : Machine) (b : Bool) → eqb x.party k ≡ b → (r : ReachesFrom n (x ∷ later) m) → slice_get n.parties k ≡ Some q
    → ((newer : List Deed) (next : Deed) → deeds_of k later ≡ newer ++ next ∷ [] → NextFrom q next.act) → (newer : List Deed) (next : Deed) → noted_if b x.deed (deeds_of k later) ≡ newer ++ next ∷ [] → NextFrom q next.act
next_by k q n x later m false is r at before newer next e = before newer next e
next_by k q n x later m true is r at before (d ∷ newer) next e = before newer next (cc)
next_by k q n x later m true is r at before [] next e =
    let none : deeds_of k later ≡ [] = cc in
    let same : x.deed ≡ next = cc in
    let s : Moved r.0 m x.party x.deed.act = moved r.0 m x.party x.deed.act r.2 in
    let there : slice_get (r.0).parties k ≡ Some q = stays_at k q n later r.0 r.1 none at in
    let stood : Some s.at ≡ Some q = sym s.here ∙ ap (slice_get (r.0).parties) (same_party x.party k is) ∙ there in
    let q_is : s.at ≡ q = cc in
    record { scene = scene r.0; left = s.left; is = ap (λ (y : Position). rule (scene r.0) next.act y) (sym q_is) ∙ ap (λ (y : Deed). rule (scene r.0) y.act s.at) (sym same) ∙ s.is }

next_from : (k : ℕ) (q : Position) (n : Machine) (later : List Entry) (m : Machine) → ReachesFrom n later m → slice_get n.parties k ≡ Some q → (newer : List Deed) (next : Deed) → deeds_of k later ≡ newer ++ next ∷ [] → NextFrom q next.act
next_from k q n [] m r at newer next e = absurd (not_none newer next e)
next_from k q n (x ∷ later) m r at newer next e = next_by k q n x later m (eqb x.party k) refl r at (next_from k q n later r.0 r.1 at) newer next e

-- of a deed that is no look of a poll the act does not hang on the next, and what is found matters to `is_finished` alone
same_act : (act : Act) (found : Option State) (w v : State) (next : Deed) → found ≡ found_by act w → act_by act found (next ∷ []) ≡ act_by act (Some w) (row next.act v ∷ [])
same_act LookFinished found w v next e = ap (λ (x : Option State). act_by LookFinished x (next ∷ [])) e
same_act Look found w v next e = refl
same_act act found w v next e = refl

pub deeds_are_acts : DeedsAreActs
deeds_are_acts limit later earlier e m r newer next is =
    let c : CutAt limit later earlier e m = cut_at limit later earlier e m r in
    let s : Moved c.before c.next e.party e.deed.act = moved c.before c.next e.party e.deed.act c.steps in
    let f : NextFrom s.left.next next.act = next_from e.party s.left.next c.next later m c.on (here_after c.before c.next e.party e.deed.act s) newer next is in
    record {
      machine = c.before;
      reached = c.reached;
      at = s.at;
      stands = s.here;
      left = s.left;
      leaves = s.is;
      is = sym (same_act e.deed.act e.deed.found c.before.word (f.scene).word next c.found
          ∙ deeds_are_steps (scene c.before) f.scene e.deed.act next.act s.at s.left f.left [] s.is f.is);
      atomic = steps_are_atomic limit (steps_of earlier) c.before (runs limit earlier c.before c.reached) e.party s.at s.here e.deed.act s.left s.is;
    }
