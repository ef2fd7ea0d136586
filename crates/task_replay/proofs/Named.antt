-- The entries are those of the constant, and what a text finds is written so.
use Rattle.std.proofs.Common.{◌≡◌, ℕ, ◌∙◌, Bool, true, false, cond, List, [], ◌∷◌, Option, Some, None, refl, ap, map}
use Rattle.std.specs.List.{find, list_all}
use Rattle.std.specs.Borrow.{Bor}
use Rattle.std.specs.Option.{option_map}
use Rattle.std.specs.Prelude.{IfSome, ◌&&◌}
use Rattle.std.specs.Str.{bytes_eq}
use Rattle.std.proofs.lemmas.Slice.Eq.{bytes_eq-Decides}
use Rattle.task_core.specs.declared.acts.Act.{Act}
use Rattle.task_replay.specs.Names.{entries, name_of}

-- an entry of the code, as the specs have it
abbrev pub seen : Act × Bor (List ℕ) → Act × List ℕ
seen entry = (entry.0, entry.1.now)

find_seen : (test : Act × List ℕ → Bool) (xs : List (Act × Bor (List ℕ))) → option_map seen (find (λ x. test (seen x)) xs) ≡ find test (map seen xs)
find_seen test [] = refl
find_seen test (x ∷ xs) = at (test (seen x)) (find_seen test xs)
  where
    at : (b : Bool) → option_map seen (find (λ y. test (seen y)) xs) ≡ find test (map seen xs) → option_map seen (cond b (Some x) (find (λ y. test (seen y)) xs)) ≡ cond b (Some (seen x)) (find test (map seen xs))
    at true later = refl
    at false later = later

pub found_seen : (test : Act × List ℕ → Bool) (xs : List (Act × Bor (List ℕ))) (r : Option (Bor (Act × Bor (List ℕ)))) → map seen xs ≡ entries → option_map (λ y. y.now) r ≡ find (λ x. test (seen x)) xs
    → option_map (λ y. seen y.now) r ≡ find test entries
found_seen test xs r is e = at r ∙ (ap (option_map seen) e ∙ (find_seen test xs ∙ ap (find test) is))
  where
    at : (r : Option (Bor (Act × Bor (List ℕ)))) → option_map (λ y. seen y.now) r ≡ option_map seen (option_map (λ y. y.now) r)
    at None = refl
    at (Some y) = refl

both : (a b : Bool) → (a && b) ≡ true → (a ≡ true) × (b ≡ true)
both true b e = (refl, e)
both false b e = absurd (cc)

found_so : (name : Act → List ℕ) (text : List ℕ) (xs : List (Act × List ℕ)) → list_all (λ entry. bytes_eq (name entry.0) entry.1) xs ≡ true
    → IfSome (find (λ entry. bytes_eq entry.1 text) xs) (λ entry. name entry.0 ≡ text)
found_so name text [] e = tt
found_so name text (x ∷ xs) e = at (bytes_eq x.1 text) refl (found_so name text xs (both _ _ e).1)
  where
    at : (b : Bool) → bytes_eq x.1 text ≡ b → IfSome (find (λ entry. bytes_eq entry.1 text) xs) (λ entry. name entry.0 ≡ text) → IfSome (cond b (Some x) (find (λ entry. bytes_eq entry.1 text) xs)) (λ entry. name entry.0 ≡ text)
    at true is later = (bytes_eq-Decides (name x.0) x.1).0 (both _ _ e).0 ∙ (bytes_eq-Decides x.1 text).0 is
    at false is later = later

pub named_so : (text : List ℕ) → IfSome (find (λ entry. bytes_eq entry.1 text) entries) (λ entry. name_of entry.0 ≡ text)
named_so text = found_so name_of text entries refl
