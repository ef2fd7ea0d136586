-- How parties change their seats, and what the rule owes for it.
use Rattle.std.proofs.Common.{◌≡◌, ℕ, zero, suc, ◌+◌, ◌<◌, ◌≢◌, true, false, Some, None, List, [], ◌∷◌, ◌++◌, length, set, sym, refl, ap, ◌∙◌, subst, ⊎_elim, ◌⊎◌, inl, inr, arith, length-set}
use mathlib.Core.Option.{some, some-injective, some-ne-none}
use native.Mathlib.Decide.{ℕ_discrete}
use lib.ListN.{get_elem?}
use Rattle.atomic_table.specs.Table.{State as Board, Splits}
use Rattle.atomic_table.proofs.Lists.{at_set, set_here, set_else, set_again}
use Rattle.task_steps.proofs.Vocabulary.{number_of, Event, HandedOver, Position, OnceDelivered, At, Deliverer, CallEnding, Runnable, Ended, HandOver, ThenEnds, ThenTask, ThenNotifies, Nothing, Outcome, leaves_slots, after_handing_over, Machine, scene, owns_awaiter, laws_of, TaskPlace, Deed, Member}
use Rattle.task_steps.proofs.Vocabulary.{View}
use Rattle.task_steps.specs.Values.{Values}
use Rattle.task_steps.specs.Rule.{deed, member, view, fresh, Entry, Explains, has_work, HomesAgree, Running, RuleHolds}
use Rattle.task_steps.specs.Standing.{hands_over, handed_over}
use Rattle.task_steps.specs.Seats.{handing_over, runnable_of}
use Rattle.task_steps.proofs.Explains.{inside, at_append, regroups}
use Rattle.task_steps.proofs.Facts.{law, many_at, one_work}
use Rattle.task_steps.proofs.Acts.{follows, leads}
use Rattle.task_steps.proofs.Advance.{After as Afterwards, same_work, same_awaiter}
use Rattle.task_steps.proofs.Allowed.{finds}

-- a party gets a seat of its own
abbrev moved : (id q new s j : ℕ) → Dec (s ≡ id) → Dec (j ≡ q) → ℕ × ℕ
moved id q new s j (yes d) (yes e) = (new, 0)
moved id q new s j (yes d) (no e) = (s, j)
moved id q new s j (no d) e = (s, j)

moved_there : (id q new s j : ℕ) (d : Dec (s ≡ id)) (e : Dec (j ≡ q)) → s ≡ id → j ≡ q → moved id q new s j d e ≡ (new, 0)
moved_there id q new s j (yes d) (yes e) x y = refl
moved_there id q new s j (yes d) (no e) x y = absurd (e y)
moved_there id q new s j (no d) e x y = absurd (d x)

moved_not : (id q new s j : ℕ) (d : Dec (s ≡ id)) (e : Dec (j ≡ q)) → (s ≢ id) ⊎ (j ≢ q) → moved id q new s j d e ≡ (s, j)
moved_not id q new s j (yes d) (yes e) (inl x) = absurd (x d)
moved_not id q new s j (yes d) (yes e) (inr y) = absurd (y e)
moved_not id q new s j (yes d) (no e) x = refl
moved_not id q new s j (no d) e x = refl

pub leaves : (limit : ℕ) (views : List View) (seat l : ℕ) (log : List Entry) (m : Machine) (ms ns : List Member) (b : Member) (q : ℕ) → Explains limit (set views seat (view l ms)) log m → seat < length views → get_elem? ms q ≡ some b
    → ((j : ℕ) (u : Member) → get_elem? ns j ≡ some u → (get_elem? ms j ≡ some u) × (j ≢ q)) → Explains limit (set views seat (view l ns) ++ view l (b ∷ []) ∷ []) log m
leaves limit views seat l log m ms ns b q t lt there from = let here = set_here views seat (view l ms) lt in let new : ℕ = length views in
    let V : List View = set views seat (view l ns) in let to : ℕ × ℕ → ℕ × ℕ = (λ p. moved seat q new p.0 p.1 (ℕ_discrete p.0 seat) (ℕ_discrete p.1 q)) in
    regroups limit (set views seat (view l ms)) (V ++ view l (b ∷ []) ∷ []) log m to t
    (λ s j v u f g. ⊎_elim
    (λ (h : get_elem? V s ≡ some v). ⊎_elim
    (λ (y : (s ≡ seat) × (view l ns ≡ v)). let x = from j u (ap (λ (w : View). get_elem? w.members j) y.1 ∙ g) in
    (seat, j, view l ms, here, x.0, moved_not seat q new seat j (ℕ_discrete seat seat) (ℕ_discrete j q) (inr x.1) ∙ ap (λ (z : ℕ). (z, j)) (sym y.0), ap (λ (w : View). w.limit) (sym y.1)))
    (λ (y : (s ≢ seat) × (get_elem? views s ≡ some v)). (s, j, v, set_else views seat s (view l ms) y.0 ∙ y.1, g, moved_not seat q new s j (ℕ_discrete s seat) (ℕ_discrete j q) (inl y.0), refl))
    (at_set views seat s (view l ns) v h))
    (λ (h : (n : ℕ) × (s ≡ length V + n) × (get_elem? (view l (b ∷ []) ∷ []) n ≡ some v)). let x = newest h.0 j v u h.2 g in
    let e : new ≡ s = (let a = h.1 in let c = x.0 in let d = length-set views seat (view l ns) in omega arith) in
    (seat, q, view l ms, here, there ∙ ap (λ z. some z) x.2, moved_there seat q new seat q (ℕ_discrete seat seat) (ℕ_discrete q q) refl refl ∙ (λ i. (e i, sym x.1 i)), one h.0 v h.2))
    (at_append V (view l (b ∷ []) ∷ []) s v f))
  where
    one : (n : ℕ) (v : View) → get_elem? (view l (b ∷ []) ∷ []) n ≡ some v → v.limit ≡ l
    one zero v e = ap (λ (x : View). x.limit) (sym (some-injective (view l (b ∷ [])) v e))
    one (suc n) v e = absurd (some-ne-none v (sym e))

    first : (j : ℕ) (u : Member) → get_elem? (b ∷ []) j ≡ some u → (j ≡ 0) × (b ≡ u)
    first zero u e = (refl, some-injective b u e)
    first (suc j) u e = absurd (some-ne-none u (sym e))

    newest : (n j : ℕ) (v : View) (u : Member) → get_elem? (view l (b ∷ []) ∷ []) n ≡ some v → get_elem? v.members j ≡ some u → (n ≡ 0) × (j ≡ 0) × (b ≡ u)
    newest zero j v u e f = let x = first j u (ap (λ (w : View). get_elem? w.members j) (some-injective (view l (b ∷ [])) v e) ∙ f) in (refl, x.0, x.1)
    newest (suc n) j v u e f = absurd (some-ne-none v (sym e))

pub just : {X : Type 0} (v : X) (n : ℕ) (w : X) → get_elem? (v ∷ []) n ≡ some w → (n ≡ 0) × (v ≡ w)
just v zero w e = (refl, some-injective v w e)
just v (suc n) w e = absurd (some-ne-none w (sym e))

module _ (F T A : Type 0) (values : Values F T) (limit : ℕ) where
  abbrev B : Type 0
  B = Board (TaskPlace F T A) View

  abbrev Rule : B → Type 0
  Rule = RuleHolds {A = A} values limit

  -- the rule once the views tell of this machine
  pub retold : (s : B) (c : limit < 36028797018963968) (r : Running {A = A} values limit s) (views : List View) (log : List Entry) (m : Machine) → Explains limit views log m → m.word ≡ r.machine.word → m.limit ≡ limit → HomesAgree values m s.homes
      → Rule record { words = s.words; homes = s.homes; views = views }
  retold s c r views log m t is limited housed = record {
    capped = c;
    running = record {
      log = log;
      machine = m;
      limited = limited;
      told = t;
      wide = r.wide;
      word_is = r.word_is ∙ ap number_of (sym is);
      housed = housed;
    };
  }

  no_work_after : (next : OnceDelivered) → has_work (after_handing_over next) ≡ false
  no_work_after (ThenEnds answer) = refl
  no_work_after (ThenTask n) = refl
  no_work_after (ThenNotifies n) = refl

  no_awaiter_after : (next : OnceDelivered) → owns_awaiter (after_handing_over next) ≡ false
  no_awaiter_after (ThenEnds answer) = refl
  no_awaiter_after (ThenTask n) = refl
  no_awaiter_after (ThenNotifies n) = refl

  -- a party hands a Runnable over
  hands_over_at : (id : ℕ) (v : View) (l : ℕ) (ds : List Deed) (p q : Position) (told : List Event) → v ≡ view l (member p ds ∷ [])
      → ((m : Machine) → leads (scene m) (HandOver ∷ []) p ≡ Some (leaves_slots (scene m) m.word q (At Runnable ∷ []) told)) → handed_over p ≡ q
      → has_work p ≡ false → has_work q ≡ false → owns_awaiter p ≡ false → owns_awaiter q ≡ false
      → Splits Rule id v (handing_over v) (runnable_of v)
  hands_over_at id v l ds p q told is allows there w0 w1 a0 a1 s r at =
      let run = r.running in let m : Machine = run.machine in let lt = inside s.views id v at in
      let t0 = subst (λ vs. Explains limit vs run.log m) (sym (ap (λ z. set s.views id z) (sym is) ∙ set_again s.views id v at)) run.told in
      let o : Outcome = leaves_slots (scene m) m.word q (At Runnable ∷ []) told in
      let f = follows limit s.views id l (HandOver ∷ []) p ds [] run.log m o t0 lt (allows m) in
      let k = finds F T A values limit s r.capped run id v l p ds [] at is in
      let i = law limit f.log f.machine f.told.reaches in
      let a : Afterwards F T A values limit m p o f.machine = record {
        works = (let e = f.counts has_work in omega arith);
        owners = (let e = f.counts owns_awaiter in omega arith);
        here = many_at has_work m.parties k.number p k.stands;
        here_too = many_at owns_awaiter m.parties k.number p k.stands;
        slots_is = f.slots_is;
        never_both = (laws_of m k.invariant).never_both;
        one_worker = one_work f.machine i;
        one_owner = (laws_of f.machine i).awaiter;
      } in
      let u : Member = member q (deed HandOver None ∷ ds) in let n : Member = fresh (At Runnable) in
      let t1 = leaves limit s.views id l f.log f.machine (u ∷ n ∷ []) (u ∷ []) n 1 f.told lt refl (only u n) in
      let housed : HomesAgree values f.machine s.homes = record {
        work = same_work F T A values limit m p o f.machine s.homes s.homes a run.housed (w1 ∙ sym w0) (inr (refl, refl)) refl;
        awaiter = same_awaiter F T A values limit m p o f.machine s.homes s.homes a run.housed (a1 ∙ sym a0) (inr refl) refl;
      } in
      let views : set s.views id (view l (u ∷ [])) ++ view l (n ∷ []) ∷ [] ≡ set s.views id (handing_over v) ++ runnable_of v ∷ [] =
      (λ j. set s.views id ((ap (λ z. view l (member z (deed HandOver None ∷ ds) ∷ [])) (sym there) ∙ ap handing_over (sym is)) j) ++ (ap runnable_of (sym is)) j ∷ []) in
      subst (λ vs. Rule record { words = s.words; homes = s.homes; views = vs }) views
      (retold s r.capped run (set s.views id (view l (u ∷ [])) ++ view l (n ∷ []) ∷ []) f.log f.machine t1 f.word_is (f.limit_is ∙ run.limited) housed)
    where
      only : (u n : Member) (j : ℕ) (x : Member) → get_elem? (u ∷ []) j ≡ some x → (get_elem? (u ∷ n ∷ []) j ≡ some x) × (j ≢ 1)
      only u n zero x e = (e, λ z. omega arith)
      only u n (suc j) x e = absurd (some-ne-none x (sym e))

  pub splits : (id : ℕ) (v : View) (l : ℕ) (ds : List Deed) (p : Position) → hands_over p ≡ true → v ≡ view l (member p ds ∷ []) → Splits Rule id v (handing_over v) (runnable_of v)
  splits id v l ds (Deliverer woken next) e is = hands_over_at id v l ds (Deliverer woken next) (after_handing_over next) (HandedOver woken ∷ []) is (λ m. refl) refl refl (no_work_after next) refl (no_awaiter_after next)
  splits id v l ds (At Runnable) e is = hands_over_at id v l ds (At Runnable) (CallEnding Nothing Ended) (HandedOver false ∷ []) is (λ m. refl) refl refl refl refl refl
  splits id v l ds _ e is = absurd (cc)
