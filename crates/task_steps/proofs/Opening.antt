-- The rule of a table that was just made: the machine stands at its opening, and the future lies in its place.
use Rattle.std.proofs.Common.{◌≡◌, ℕ, zero, suc, ◌<◌, ◌≢◌, None, [], ◌∷◌, sym, refl, ap, ◌∙◌, subst, arith}
use mathlib.Core.Option.{some, some-injective, some-ne-none}
use lib.ListN.{get_elem?}
use Rattle.atomic_table.specs.Table.{opening}
use Rattle.task_steps.proofs.Vocabulary.{At, Runnable, Task, First, Second, Future, Member, View}
use Rattle.task_laws.specs.Machine.{opening as opening_machine}
use Rattle.task_steps.specs.Values.{Values}
use Rattle.task_steps.specs.Rule.{fresh, opening_view, lender, DidLast, Tried, Explains, RuleHolds}
use Rattle.task_steps.proofs.Explains.{did_nothing}
use Rattle.task_steps.proofs.Seats.{just}

-- the Runnable and the Task of the opening seat have done nothing
opening_told : (limit : ℕ) → Explains limit (opening_view limit ∷ []) [] (opening_machine limit)
opening_told limit = record {
  holder = λ k. (0, k);
  reaches = refl;
  lends = refl;
  limited = λ seat index v u f g. ap (λ (w : View). w.limit) (sym (just (opening_view limit) seat v f).1);
  each = λ seat index v u f g. let e = just (opening_view limit) seat v f in let k = stands index u (ap (λ (w : View). get_elem? w.members index) e.1 ∙ g) in
      (index, record { seated = λ i. (sym e.0 i, index); apart = k.0; at = k.1; did = subst (DidLast index []) (sym k.2) (did_nothing index []); tried = k.3 });
}
  where
    stands : (index : ℕ) (u : Member) → get_elem? (opening_view limit).members index ≡ some u → (index ≢ lender) × (get_elem? (opening_machine limit).parties index ≡ some u.at) × (u.deeds ≡ []) × Tried index [] (opening_machine limit).word u.tries
    stands zero u e = let x = some-injective (fresh (At Runnable)) u e in ((λ z. omega arith), ap (λ (w : Member). some w.at) x, sym (ap (λ (w : Member). w.deeds) x), subst (λ (w : Member). Tried zero [] (opening_machine limit).word w.tries) x tt)
    stands (suc zero) u e = let x = some-injective (fresh (At (Task 0))) u e in ((λ z. omega arith), ap (λ (w : Member). some w.at) x, sym (ap (λ (w : Member). w.deeds) x), subst (λ (w : Member). Tried (suc zero) [] (opening_machine limit).word w.tries) x tt)
    stands (suc (suc n)) u e = absurd (some-ne-none u (sym e))

module _ {F T A : Type 0} (values : Values F T) (limit : ℕ) where
  -- the future, no awaiter, and the opening word
  pub opens : (future : F) → values.future future → limit < 36028797018963968 → RuleHolds {A = A} values limit (opening (273 ∷ []) (First (Future future) ∷ Second None ∷ []) (opening_view limit))
  opens future is capped = record {
    capped = capped;
    running = record {
      log = [];
      machine = opening_machine limit;
      limited = refl;
      told = opening_told limit;
      wide = refl;
      word_is = refl;
      housed = record { work = λ n. (Future future, refl, is); awaiter = λ n. (None, refl, tt) };
    };
  }
