-- The steps of the table that a party may make: what each owes is one obligation on the machine that it finds.
use Rattle.std.proofs.Common.{◌≡◌, ℕ, suc, ◌<◌, true, Option, Some, None, List, ◌∷◌, ◌++◌, length, map, get_or, set, sym, ap, ◌∙◌, subst, refl, arith, length-set, get_or-set_same}
use mathlib.Core.Option.{some}
use lib.ListN.{get_elem?}
use Rattle.atomic_table.specs.Table.{State as Board, Me, Act as Move, keeps, stepped, carried_after, Allows}
use Rattle.atomic_table.proofs.Lists as lists
use Rattle.task_steps.proofs.Vocabulary.{State, state_of, number_of, Position, Act, Outcome, Machine, scene, owns_awaiter, state_of_number_of, laws_of, TaskPlace, Deed, Tries, Member, View}
use Rattle.task_steps.specs.Values.{Values}
use Rattle.task_steps.specs.Rule.{member, trying, view, fresh, Explains, has_work, Running, RuleHolds}
use Rattle.task_steps.specs.Attempt.{Attempt, word_after, acts_on}
use Rattle.task_steps.specs.Steps.{head_of, leaves_by, all_fit, noted, acted, next_of, born_of, Carried, Makes}
use Rattle.task_steps.proofs.Explains.{inside}
use Rattle.task_steps.proofs.Numbers.{same_word}
use Rattle.task_steps.proofs.Facts.{law, many_at, one_work}
use Rattle.task_steps.proofs.Acts.{leads, leads_leave, leads_fit, follows}
use Rattle.task_steps.proofs.Seen.{over_stays, closed_stays, ended_stays}
use Rattle.task_steps.proofs.Advance.{Steps, keeps_places, places_before, places_after, Finds, Result, After, places, stays_put}

module _ (F T A : Type 0) (values : Values F T) (limit : ℕ) where
  abbrev M : Type 0
  M = Me (TaskPlace F T A) View

  abbrev B : Type 0
  B = Board (TaskPlace F T A) View

  abbrev Rule : B → Type 0
  Rule = RuleHolds {A = A} values limit

  abbrev now : B → ℕ
  now s = get_or s.words 0 0

  -- what the first party of a seat finds, whatever it has seen since its last act
  pub finds_trying : (s : B) (c : limit < 36028797018963968) (r : Running {A = A} values limit s) (id : ℕ) (v : View) (l : ℕ) (p : Position) (ds : List Deed) (t : Option Tries) (us : List Member) → get_elem? s.views id ≡ some v → v ≡ view l (trying p ds t ∷ us) → Finds limit p ds us r.machine
  finds_trying s c r id v l p ds t us at is = let k = r.told.each id 0 v (trying p ds t) at (ap (λ (w : View). get_elem? w.members 0) is) in record {
    invariant = law limit r.log r.machine r.told.reaches;
    limited = r.limited;
    capped = c;
    number = k.0;
    stands = k.1.at;
    over = λ e. over_stays limit k.0 r.log r.machine ds r.told.reaches k.1.did e;
    closed = λ e. closed_stays limit k.0 r.log r.machine ds r.told.reaches k.1.did e;
    ended = λ e. ended_stays limit k.0 r.log r.machine ds r.told.reaches k.1.did e;
    beside = λ j u e. let x = r.told.each id (suc j) v u at (ap (λ (w : View). get_elem? w.members (suc j)) is ∙ e) in (x.0, x.1.at);
  }

  pub finds : (s : B) (c : limit < 36028797018963968) (r : Running {A = A} values limit s) (id : ℕ) (v : View) (l : ℕ) (p : Position) (ds : List Deed) (us : List Member) → get_elem? s.views id ≡ some v → v ≡ view l (member p ds ∷ us) → Finds limit p ds us r.machine
  finds s c r id v l p ds us at is = finds_trying s c r id v l p ds None us at is

  advance : (s : B) (c : limit < 36028797018963968) (r : Running {A = A} values limit s) (id : ℕ) (me : M) (l : ℕ) (p : Position) (ds : List Deed) (us : List Member) (acts : List Act) (new : ℕ)
      → get_elem? s.views id ≡ some me.0 → me.0 ≡ view l (member p ds ∷ us) → length s.homes ≡ 2 → Steps values r.machine p acts new me.1
      → Result F T A values limit s id me new (Makes values acts r.machine.word me)
  advance s c r id me l p ds us acts new at is two x = let m : Machine = r.machine in let o : Outcome = x.outcome in let v : View = view l (member p ds ∷ us) in
      let lt = inside s.views id me.0 at in
      let t0 = subst (λ vs. Explains limit vs r.log m) (sym (ap (λ z. set s.views id z) (sym is) ∙ lists.set_again s.views id me.0 at)) r.told in
      let f = follows limit s.views id l acts p ds us r.log m o t0 lt x.leads_to in let q : Machine = f.machine in
      let i = law limit f.log q f.told.reaches in let k = (finds s c r id me.0 l p ds us at is) in
      let a : After F T A values limit m p o q = record {
        works = (let e = f.counts has_work in let z = x.idle.0 in omega arith);
        owners = (let e = f.counts owns_awaiter in let z = x.idle.1 in omega arith);
        here = many_at has_work m.parties k.number p k.stands;
        here_too = many_at owns_awaiter m.parties k.number p k.stands;
        slots_is = f.slots_is;
        never_both = (laws_of m k.invariant).never_both;
        one_worker = one_work q i;
        one_owner = (laws_of q i).awaiter;
      } in
      let w : View = view l (member o.next (noted m.word acts ds) ∷ (us ++ map fresh o.born)) in
      let z = places F T A values limit m p o s me.1 q a r.housed two x.placing in
      let limited = r.told.limited id 0 me.0 (member p ds) at (ap (λ (y : View). get_elem? y.members 0) is) in
      let same : l ≡ m.limit = sym (ap (λ (y : View). y.limit) is) ∙ (limited ∙ sym r.limited) in
      let left : leaves_by l m.word m.slots acts p ≡ Some o = subst (λ (n : ℕ). leaves_by n m.word m.slots acts p ≡ Some o) (sym same) (leads_leave m.limit m.word m.slots acts p o x.leads_to) in (
        w,
        z.move,
        z.valid,
        record {
          capped = c;
          running = record {
            log = f.log;
            machine = q;
            limited = f.limit_is ∙ r.limited;
            told = f.told;
            wide = length-set s.words 0 new ∙ r.wide;
            word_is = get_or-set_same s.words 0 new 0 (let h = r.wide in omega arith) ∙ (x.writes ∙ ap number_of (sym f.word_is));
            housed = z.housed;
          };
        },
        record {
          slots = m.slots;
          fits = subst (λ (n : ℕ). all_fit n m.word acts ≡ true) (r.limited ∙ sym limited) (leads_fit (scene m) acts p o x.leads_to);
          viewed = ap (λ y. view l (member (next_of y) (noted m.word acts ds) ∷ (us ++ map fresh (born_of y)))) (sym left) ∙ ap (acted m.word m.slots acts) (sym is);
          carried = subst (λ (y : Position). Carried values y o.next me.1 (carried_after me.1 z.move)) (sym (ap (λ (y : View). (head_of y.members).at) is)) z.carried;
        },
      )

  -- private acts that keep the word and the places change the view alone
  pub noted_only : (s : B) (c : limit < 36028797018963968) (r : Running {A = A} values limit s) (id : ℕ) (me : M) (l : ℕ) (p : Position) (ds : List Deed) (us : List Member) (acts : List Act) → get_elem? s.views id ≡ some me.0 → me.0 ≡ view l (member p ds ∷ us) → length s.homes ≡ 2
      → (o : Outcome) → leads (scene r.machine) acts p ≡ Some o → o.word ≡ r.machine.word → places_after o ≡ places_before r.machine p → (w : View) × Rule (stepped s 0 (now s) id me.1 w keeps) × Makes values acts r.machine.word me (w, me.1)
  unfolding advance keeps_places
  noted_only s c r id me l p ds us acts at is two o e kept same = let a = advance s c r id me l p ds us acts (now s) at is two (keeps_places values o e (r.word_is ∙ ap number_of (sym kept)) same) in
      let put : a.1 ≡ keeps = stays_put F T A values limit _ _ _ _ _ _ _ _ _ _ _ _ _ in
      (a.0, subst (λ (move : Move (TaskPlace F T A)). Rule (stepped s 0 (now s) id me.1 a.0 move)) put a.3, subst (λ (move : Move (TaskPlace F T A)). Makes values acts r.machine.word me (a.0, carried_after me.1 move)) put a.4)

  -- what the party at p owes that makes these acts by the word that it finds, and writes this number
  abbrev pub Owes : (State → List Act) → (ℕ → ℕ) → Position → List Deed → List Member → List (ℕ × TaskPlace F T A) → Type 0
  Owes acts write p ds us held = (m : Machine) → Finds limit p ds us m → (n : ℕ) → n ≡ number_of m.word → n < 18446744073709551616 → Steps values m p (acts m.word) (write n) held

  -- what the party owes where the word that it finds ends its attempt
  abbrev pub OwesEnd : {Row : Type 0} → Attempt Row → Position → List Deed → List Member → List (ℕ × TaskPlace F T A) → Type 0
  OwesEnd a p ds us held = (m : Machine) → Finds limit p ds us m → (n : ℕ) → n ≡ number_of m.word → n < 18446744073709551616 → a.ends limit m.word ≡ true → Steps values m p (a.acts_at_end m.word) n held

  -- what the party owes where its change applies to the word that it finds
  abbrev pub OwesChange : {Row : Type 0} → Attempt Row → Position → List Deed → List Member → List (ℕ × TaskPlace F T A) → Type 0
  OwesChange a p ds us held = (m : Machine) → Finds limit p ds us m → a.applies limit m.word ≡ true → Steps values m p (acts_on a m.word) (number_of (word_after m.word (acts_on a m.word))) held

  -- the word that the change writes on the one that was seen, where this is the machine's
  pub makes_change : {Row : Type 0} (a : Attempt Row) (p : Position) (ds : List Deed) (us : List Member) (held : List (ℕ × TaskPlace F T A)) → OwesChange a p ds us held
      → (w : State) → a.applies limit w ≡ true → (m : Machine) → Finds limit p ds us m → number_of w ≡ number_of m.word → Steps values m p (acts_on a m.word) (number_of (word_after w (acts_on a w))) held
  makes_change a p ds us held owes w applied m f e = let same = same_word m.word w (number_of w) refl e in
      subst (λ (v : State). Steps values m p (acts_on a m.word) (number_of (word_after v (acts_on a v))) held) same (owes m f (subst (λ (v : State). a.applies limit v ≡ true) (sym same) applied))

  pub result : (s : B) (id : ℕ) (me : M) (l : ℕ) (p : Position) (ds : List Deed) (us : List Member) (acts : State → List Act) (write : ℕ → ℕ) → Rule s
      → get_elem? s.views id ≡ some me.0 → me.0 ≡ view l (member p ds ∷ us) → length s.homes ≡ 2 → now s < 18446744073709551616
      → ((m : Machine) → Finds limit p ds us m → now s ≡ number_of m.word → Steps values m p (acts m.word) (write (now s)) me.1)
      → Result F T A values limit s id me (write (now s)) (Makes values (acts (state_of (now s))) (state_of (now s)) me)
  result s id me l p ds us acts write r at is two fits owes = let run = r.running in let m : Machine = run.machine in
      let same : m.word ≡ state_of (now s) = sym (ap state_of run.word_is ∙ state_of_number_of m.word) in
      subst (λ (w : State). Result F T A values limit s id me (write (now s)) (Makes values (acts w) w me)) same
      (advance s r.capped run id me l p ds us (acts m.word) (write (now s)) at is two (owes m (finds s r.capped run id me.0 l p ds us at is) run.word_is))

  -- a load, a fetch or a store
  pub steps_always : (slots id : ℕ) (me : M) (l : ℕ) (p : Position) (ds : List Deed) (us : List Member) (acts : State → List Act) (write : ℕ → ℕ) → slots ≡ 2
      → me.0 ≡ view l (member p ds ∷ us) → Owes acts write p ds us me.1 → Allows Rule slots id me 0 write (λ r m. Makes values (acts (state_of r)) (state_of r) me m)
  steps_always slots id me l p ds us acts write two is owes s r deep at fits = result s id me l p ds us acts write r at is (deep ∙ two) fits (λ m f e. owes m f (now s) e fits)
