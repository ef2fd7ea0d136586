-- Who has emptied the slots was the last: the trace has it, so nobody has a place, and nothing is in the machine's slots.
use Rattle.std.proofs.Common.{◌≡◌, ℕ, ◌+◌, ◌≤◌, Bool, true, false, ◌||◌, ◌⊎◌, inl, inr, eqb, Option, Some, None, List, [], ◌∷◌, ◌++◌, refl, sym, ap, ◌∙◌, subst, ⊎_elim, arith}
use Rattle.std.specs.Prelude.{slice_get}
use Rattle.std.proofs.lemmas.Bool.Decides.{nat_tests}
use mathlib.Core.Option.{some}
use lib.ListN.{get_elem?}
use Rattle.atomic_table.specs.Table.{State as Board}
use Rattle.task_core.specs.Word.{State, bit}
use Rattle.task_core.specs.declared.acts.Act.{Act}
use Rattle.task_core.specs.declared.acts.Act.TheVariants.{EmptySlots}
use Rattle.task_laws.specs.declared.positions.Position.{Position}
use Rattle.task_laws.specs.declared.positions.Position.TheVariants.{Emptier}
use Rattle.task_laws.specs.Event.{Event}
use Rattle.task_laws.specs.Event as event
use Rattle.task_laws.specs.Holders.{owns_awaiter}
use Rattle.task_laws.specs.Laws.{how_often}
use Rattle.task_laws.specs.Machine.{Machine, scene, begins, after, moves, step, how_many}
use Rattle.task_laws.specs.Table.{Outcome, Scene, Slots, rule}
use Rattle.task_laws.proofs.Census.{Census, census, weigh}
use Rattle.task_laws.proofs.Invariant.{Holds}
use Rattle.task_laws.proofs.Runs.{Invariant}
use Rattle.task_steps.specs.declared.table.Deed.{Deed}
use Rattle.task_steps.specs.declared.table.Member.{Member}
use Rattle.task_steps.specs.declared.table.View.{View}
use Rattle.task_steps.specs.Values.{Values}
use Rattle.task_steps.specs.Rule.{TaskPlace, Entry, Reaches, noted_if, deeds_of, has_work, Lies, Waits, Running}
use Rattle.task_steps.specs.Shares.{is_emptying, has_emptied}
use Rattle.task_steps.specs.Left.{EmptyAtClose, NothingLies}
use Rattle.task_steps.proofs.Explains.{next_machine}
use Rattle.task_steps.proofs.Facts.{law, works}

-- a step, taken apart
record Moved (n m : Machine) (k : ℕ) (act : Act) : Type 0 where
  at : Position
  left : Outcome
  is : rule (scene n) act at ≡ Some left
  trace : m.trace ≡ left.told ++ (begins at ++ n.trace)

after_moved : (n m : Machine) (k : ℕ) (act : Act) (p : Position) (x : Option Outcome) → rule (scene n) act p ≡ x → after n k p x ≡ Some m → Moved n m k act
after_moved n m k act p None is e = absurd (cc)
after_moved n m k act p (Some o) is e = let same : next_machine n k p o ≡ m = cc in record { at = p; left = o; is = is; trace = sym (ap (λ (y : Machine). y.trace) same) }

moves_moved : (n m : Machine) (k : ℕ) (act : Act) (x : Option Position) → moves n k act x ≡ Some m → Moved n m k act
moves_moved n m k act None e = absurd (cc)
moves_moved n m k act (Some p) e = after_moved n m k act p (rule (scene n) act p) refl e

moved : (n m : Machine) (k : ℕ) (act : Act) → step n (record { party = k; act = act }) ≡ Some m → Moved n m k act
moved n m k act e = moves_moved n m k act (slice_get n.parties k) e

-- an event that was told stays told
often_append : (e : Event) (xs ys : List Event) → how_often e (xs ++ ys) ≡ how_often e xs + how_often e ys
often_append e [] ys = omega arith
often_append e (x ∷ xs) ys = let h = often_append e xs ys in omega arith

more : (e : Event) (xs ys zs : List Event) → how_often e zs ≤ how_often e (xs ++ (ys ++ zs))
more e xs ys zs = omega (arith, often_append e xs (ys ++ zs), often_append e ys zs)

-- who empties the slots tells it
tells : (s : Scene) (p : Position) (o : Outcome) → rule s EmptySlots p ≡ Some o → 1 ≤ how_often event.Empties o.told
tells s (Emptier hand answer) o e = grind (arith, nat_tests)
tells s _ o e = absurd (cc)

either : (a b : Bool) → (a || b) ≡ true → (a ≡ true) ⊎ (b ≡ true)
either true b e = inl refl
either false b e = inr e

is_that : (a : Act) → is_emptying a ≡ true → a ≡ EmptySlots
is_that EmptySlots e = refl
is_that _ e = absurd (cc)

log_empties : (limit k : ℕ) (log : List Entry) (m : Machine) → Reaches limit log m → has_emptied (deeds_of k log) ≡ true → 1 ≤ how_often event.Empties m.trace
log_empties limit k [] m r e = absurd (cc)
log_empties limit k (x ∷ log) m r e =
    let s = moved r.0 m x.party x.deed.act r.3 in
    by (λ did. now s (is_that x.deed.act did)) (λ before. kept s (log_empties limit k log r.0 r.1 before)) (eqb x.party k) e
  where
    now : (s : Moved r.0 m x.party x.deed.act) → x.deed.act ≡ EmptySlots → 1 ≤ how_often event.Empties m.trace
    now s is = let h = tells (scene r.0) s.at s.left (ap (λ a. rule (scene r.0) a s.at) (sym is) ∙ s.is) in
        subst (λ t. 1 ≤ how_often event.Empties t) (sym s.trace) (omega (arith, h, often_append event.Empties s.left.told (begins s.at ++ (r.0).trace)))

    kept : Moved r.0 m x.party x.deed.act → 1 ≤ how_often event.Empties (r.0).trace → 1 ≤ how_often event.Empties m.trace
    kept s h = subst (λ t. 1 ≤ how_often event.Empties t) (sym s.trace) (omega (arith, h, more event.Empties s.left.told (begins s.at) (r.0).trace))

    by : (is_emptying x.deed.act ≡ true → 1 ≤ how_often event.Empties m.trace) → (has_emptied (deeds_of k log) ≡ true → 1 ≤ how_often event.Empties m.trace) → (b : Bool) → has_emptied (noted_if b x.deed (deeds_of k log)) ≡ true → 1 ≤ how_often event.Empties m.trace
    by here before true e = ⊎_elim here before (either (is_emptying x.deed.act) (has_emptied (deeds_of k log)) e)
    by here before false e = before e

more_at : (ds older : List Deed) (b : Bool) → (has_emptied ds ≡ true → has_emptied (ds ++ older) ≡ true) → (b || has_emptied ds) ≡ true → (b || has_emptied (ds ++ older)) ≡ true
more_at ds older true before h = refl
more_at ds older false before h = before h

more_deeds : (ds older : List Deed) → has_emptied ds ≡ true → has_emptied (ds ++ older) ≡ true
more_deeds [] older e = absurd (cc)
more_deeds (d ∷ ds) older e = more_at ds older (is_emptying d.act) (more_deeds ds older) e

-- who claims an output is the Task, and who owns the awaiter's place is a run, the Task, or empties
claims_one : (p : Position) → (weigh p).claims ≤ (weigh p).tasks
claims_one p = grind arith

claimed : (ps : List Position) → (census ps).claims ≤ (census ps).tasks
claimed [] = omega arith
claimed (p ∷ ps) = omega (arith, claims_one p, claimed ps)

owner_one : (p : Position) → bit (owns_awaiter p) ≤ (weigh p).finishing + (weigh p).tasks + (weigh p).emptiers
owner_one p = grind arith

owners : (ps : List Position) → how_many owns_awaiter ps ≤ (census ps).finishing + (census ps).tasks + (census ps).emptiers
owners [] = omega arith
owners (p ∷ ps) = omega (arith, owner_one p, owners ps)

-- once the slots were emptied, nobody has anything
pub record Nobody (slots : Slots) (c : Census) : Type 0 where
  pub queued : c.queued ≡ 0
  pub work : c.starting + c.polling + c.pending + c.ready + c.unstored + c.stored + c.cleared + c.in_hand + c.gone + c.outputs ≡ 0
  pub finishing : c.finishing ≡ 0
  pub tasks : c.tasks ≡ 0
  pub emptiers : c.emptiers ≡ 0
  pub future : slots.future ≡ false
  pub output : c.claims ≤ c.tasks → slots.output ≡ false

nobody : (limit : ℕ) (w : State) (slots : Slots) (t : List Event) (c : Census) → Holds limit w slots t c → 1 ≤ how_often event.Empties t → Nobody slots c
nobody limit w slots t c h e = record {
  queued = grind (arith, nat_tests);
  work = grind (arith, nat_tests);
  finishing = grind (arith, nat_tests);
  tasks = grind (arith, nat_tests);
  emptiers = grind (arith, nat_tests);
  future = grind (arith, nat_tests);
  output = λ few. grind (arith, nat_tests);
}

module _ (F T A : Type 0) (values : Values F T) (limit : ℕ) (s : Board (TaskPlace F T A) View) (r : Running {A = A} values limit s) (empties : 1 ≤ how_often event.Empties r.machine.trace) where
  abbrev m : Machine
  m = r.machine

  i : Invariant m
  i = law limit r.log m r.told.reaches

  n : Nobody m.slots (census m.parties)
  n = nobody m.limit m.word m.slots m.trace (census m.parties) i.holds empties

  taken : m.slots.awaiter ≡ None
  taken = ⊎_elim (λ (z : how_often event.Empties m.trace ≡ 0). absurd (omega (arith, z, empties))) (λ z. z) ((i.shakes 0).left_empty)

  pub nothing_lies : NothingLies s
  nothing_lies = let c = claimed m.parties in let w = n.work in let t = n.tasks in let f = n.finishing in let e = n.emptiers in
      let idle : how_many has_work m.parties ≡ 0 = omega (arith, works m.parties) in let free : how_many owns_awaiter m.parties ≡ 0 = omega (arith, owners m.parties) in
      let y = r.housed.work idle in let a = r.housed.awaiter free in record {
        work = (y.0, y.1, subst (λ (b : Bool × Bool). Lies values b.0 b.1 y.0) (λ i. (n.future i, n.output c i)) y.2);
        awaiter = (a.0, a.1, subst (λ v. Waits v a.0) taken a.2);
      }

at_first : (v : View) (u : Member) (us : List Member) → v.members ≡ u ∷ us → get_elem? v.members 0 ≡ some u
at_first v u us e = ap (λ l. get_elem? l 0) e

pub empty_at_close : (F T A : Type 0) (values : Values F T) → EmptyAtClose values A
empty_at_close F T A values limit s rule id v u us seat first did =
    let r = rule.running in
    let k = r.told.each id 0 v u seat (at_first v u us first) in
    nothing_lies F T A values limit s r (log_empties limit k.0 r.log r.machine r.told.reaches (ap has_emptied k.1.did.1 ∙ more_deeds u.deeds k.1.did.0 did))
