-- What a step of a party does to the number of shares that are out, by the words before and after its acts.
use Rattle.std.proofs.Common.{◌≡◌, ℕ, ◌+◌, ◌<◌, Bool, true, false, not, ◌&&◌, None, List, ◌∷◌, ◌⊎◌, inl, inr, ⊎_elim, sym, refl, ap, ◌∙◌, subst, arith, eqb, eq-eqb, ne_eqb}
use Rattle.std.specs.Prelude.{if◌then◌else◌}
use native.Mathlib.Decide.{ℕ_discrete}
use mathlib.Core.Logic.{dite}
use prog.Atomic.{either}
use Rattle.atomic_table.specs.Table.{State as Board}
use Rattle.counted_block.specs.Blocks.{word_of}
use Rattle.counted_block.specs.Counts.{Same, Less}
use Rattle.task_steps.proofs.Vocabulary.{State, state_of, number_of, state_of_number_of, Position, Act, Machine, scene, TaskPlace, Deed, Member, View}
use Rattle.task_steps.specs.Values.{Values}
use Rattle.task_steps.specs.Rule.{view, trying, member, Running, RuleHolds}
use Rattle.task_steps.specs.Shares.{handles, shares_out, MayBring, MayGive}
use Rattle.task_steps.proofs.Facts.{low, law, bit_le}
use Rattle.task_steps.specs.Attempt.{Attempt, word_after, acts_on, counts_on, lasts_on}
use Rattle.task_steps.proofs.Numbers.{same_word}
use Rattle.task_steps.proofs.Acts.{leads_word}
use Rattle.task_steps.proofs.Advance.{Finds, Steps}
use Rattle.task_steps.proofs.Allowed.{Owes, OwesChange, makes_change, finds_trying}
use Rattle.task_core.specs.Word.{HasRoom}

-- how many shares belong to a word
abbrev pub shares_of : State → ℕ
shares_of w = handles w

-- acts that keep the number, whichever of two they are
pub keeps_either : (b : Bool) (x y : List Act) (w : State) → shares_of (word_after w x) ≡ shares_of w → shares_of (word_after w y) ≡ shares_of w → shares_of (word_after w (if b then x else y)) ≡ shares_of w
keeps_either true x y w e f = e
keeps_either false x y w e f = f

-- a step brings a share where it says so
abbrev pub Brings : Bool → ℕ → ℕ → Type 0
Brings b before after = (b ≡ false) × (after ≡ before) ⊎ (b ≡ true) × (after ≡ before + 1)

-- a step gives one share up, which is the last where the flag says so
abbrev pub Parts : Bool → ℕ → ℕ → Type 0
Parts last before after = (after + 1 ≡ before) × (last ≡ eqb after 0)

abbrev pub Gives : Bool → Bool → ℕ → ℕ → Type 0
Gives b last before after = (b ≡ false) × (after ≡ before) ⊎ (b ≡ true) × (after + 1 ≡ before) × (last ≡ eqb after 0)

below : (w : State) → HasRoom w → number_of w < 18446744073709551616
below w h = let h1 = bit_le w.scheduled in let h2 = bit_le w.running in let h3 = bit_le w.completed in let h4 = bit_le w.closed in let h5 = bit_le w.task in let h6 = bit_le w.awaiter in let h7 = bit_le w.registering in let h8 = bit_le w.notifying in omega arith

-- an exchange that was made counts by its change, and one that missed changes nothing
abbrev ExchangeBrings : ℕ → ℕ → Bool → Bool → Type 0
ExchangeBrings n new c b = (b && c ≡ false) × (shares_out (either b new n) ≡ shares_out n) ⊎ (b && c ≡ true) × (shares_out (either b new n) ≡ shares_out n + 1) × (shares_out n + 1 < 4611686018427387904)

abbrev ExchangeGives : ℕ → ℕ → Bool → Bool → Bool → Type 0
ExchangeGives n new c last b = (b && c ≡ false) × (shares_out (either b new n) ≡ shares_out n) ⊎ (b && c ≡ true) × (shares_out (either b new n) + 1 ≡ shares_out n) × (last ≡ eqb (shares_out (either b new n)) 0)

module _ (F T A : Type 0) (values : Values F T) (limit : ℕ) where
  abbrev B : Type 0
  B = Board (TaskPlace F T A) View

  abbrev Rule : B → Type 0
  Rule = RuleHolds {A = A} values limit

  shares_after : (m : Machine) (p : Position) (acts : List Act) (new : ℕ) (l : List (ℕ × TaskPlace F T A)) → Steps values m p acts new l → shares_out new ≡ shares_of (word_after m.word acts)
  shares_after m p acts new l x = ap shares_out x.writes ∙ ap shares_of (state_of_number_of x.outcome.word ∙ leads_word (scene m) acts p x.outcome x.leads_to)

  shares_now : (s : B) (r : Running {A = A} values limit s) → shares_out (word_of s) ≡ shares_of r.machine.word
  shares_now s r = ap shares_out r.word_is ∙ ap shares_of (state_of_number_of r.machine.word)

  few : (s : B) (c : Rule s) → c.running.machine.word.references < 36028797018963969
  few s c = let r = c.running in let h = low r.machine (law limit r.log r.machine r.told.reaches) in let e = r.limited in let k = c.capped in omega arith

  fits : (s : B) (c : Rule s) → word_of s < 18446744073709551616
  fits s c = let w = c.running.machine.word in let b = below w (let h = few s c in omega arith) in let e = c.running.word_is in omega arith

  room : (s : B) (c : Rule s) → shares_out (word_of s) + 1 < 4611686018427387904
  room s c = let w = c.running.machine.word in let h = few s c in let e = shares_now s c.running in let b = bit_le w.task in
      let n : handles w < 36028797018963971 = omega arith in omega arith

  -- a step that keeps its acts' words, whatever they are, keeps the number
  pub keeps_shares : (id : ℕ) (v : View) (l : ℕ) (p : Position) (ds : List Deed) (us : List Member) (held : List (ℕ × TaskPlace F T A)) (acts : State → List Act) (write : ℕ → ℕ) → v ≡ view l (member p ds ∷ us) → Owes F T A values limit acts write p ds us held
      → ((m : Machine) → Finds limit p ds us m → shares_of (word_after m.word (acts m.word)) ≡ shares_of m.word) → Same Rule shares_out id v write
  keeps_shares id v l p ds us held acts write is owes same s c at = let run = c.running in let m : Machine = run.machine in let f = finds_trying F T A values limit s c.capped run id v l p ds None us at is in
      shares_after m p (acts m.word) (write (word_of s)) held (owes m f (word_of s) run.word_is (fits s c)) ∙ (same m f ∙ sym (shares_now s run))

  -- a step gives a share up
  pub parts_shares : (id : ℕ) (v : View) (l : ℕ) (p : Position) (ds : List Deed) (us : List Member) (held : List (ℕ × TaskPlace F T A)) (acts : State → List Act) (write : ℕ → ℕ) (gives : State → Bool) → v ≡ view l (member p ds ∷ us) → Owes F T A values limit acts write p ds us held
      → ((m : Machine) → Finds limit p ds us m → Parts (not (gives m.word)) (shares_of m.word) (shares_of (word_after m.word (acts m.word)))) → Less Rule shares_out id v write (λ _. true) (λ n. not (gives (state_of n)))
  parts_shares id v l p ds us held acts write gives is owes moves s c at = let run = c.running in let m : Machine = run.machine in let f = finds_trying F T A values limit s c.capped run id v l p ds None us at is in
      let before = shares_now s run in let after = shares_after m p (acts m.word) (write (word_of s)) held (owes m f (word_of s) run.word_is (fits s c)) in
      let word : m.word ≡ state_of (word_of s) = sym (ap state_of run.word_is ∙ state_of_number_of m.word) in let z = moves m f in
      inr (refl, ap (λ n. n + 1) after ∙ (z.0 ∙ sym before), ap (λ w. not (gives w)) (sym word) ∙ (z.1 ∙ ap (λ n. eqb n 0) (sym after)))

  -- what a change of an attempt does to the number: by the word that it is made on
  abbrev pub Moves : {Row : Type 0} → (Bool → Bool → ℕ → ℕ → Type 0) → Attempt Row → Position → List Deed → List Member → Type 0
  Moves By a p ds us = (m : Machine) → Finds limit p ds us m → a.applies limit m.word ≡ true → By (counts_on a m.word) (lasts_on a m.word) (shares_of m.word) (shares_of (word_after m.word (acts_on a m.word)))

  -- an exchange, by whether it was made
  exchange : (P : Bool → Type 0) (n old : ℕ) → (n ≡ old → P true) → P false → P (eqb n old)
  exchange P n old hit miss = dite (ℕ_discrete n old) (λ e. subst P (sym (eq-eqb n old e)) (hit e)) (λ ne. subst P (sym (ne_eqb n old ne)) miss)

  pub may_bring : {Row : Type 0} (id l : ℕ) (p : Position) (ds : List Deed) (us : List Member) (held : List (ℕ × TaskPlace F T A)) (a : Attempt Row) → OwesChange F T A values limit a p ds us held → Moves (λ b _. Brings b) a p ds us → MayBring values limit id (view l (member p ds ∷ us), held) a
  may_bring id l p ds us held a changes moves t w applied names s c at = let v = word_after w (acts_on a w) in let run = c.running in let m : Machine = run.machine in let f = finds_trying F T A values limit s c.capped run id (view l (trying p ds t ∷ us)) l p ds t us at refl in
      exchange (ExchangeBrings (word_of s) (number_of v) (counts_on a (state_of (word_of s)))) (word_of s) (number_of w)
      (λ hit. let here : number_of w ≡ number_of m.word = sym hit ∙ run.word_is in let now : m.word ≡ w = same_word m.word w (number_of w) refl here in let word : m.word ≡ state_of (word_of s) = sym (ap state_of run.word_is ∙ state_of_number_of m.word) in
      let after = shares_after m p (acts_on a m.word) (number_of v) held (makes_change F T A values limit a p ds us held changes w applied m f here) in let before = shares_now s run in
      ⊎_elim (λ (z : (counts_on a m.word ≡ false) × (shares_of (word_after m.word (acts_on a m.word)) ≡ shares_of m.word)). inl (ap (counts_on a) (sym word) ∙ z.0, after ∙ (z.1 ∙ sym before)))
      (λ (z : (counts_on a m.word ≡ true) × (shares_of (word_after m.word (acts_on a m.word)) ≡ shares_of m.word + 1)). inr (ap (counts_on a) (sym word) ∙ z.0, after ∙ (z.1 ∙ ap (λ k. k + 1) (sym before)), room s c))
      (moves m f (subst (λ (z : State). a.applies limit z ≡ true) (sym now) applied)))
      (inl (refl, refl))

  pub may_give : {Row : Type 0} (id l : ℕ) (p : Position) (ds : List Deed) (us : List Member) (held : List (ℕ × TaskPlace F T A)) (a : Attempt Row) → OwesChange F T A values limit a p ds us held → Moves Gives a p ds us → MayGive values limit id (view l (member p ds ∷ us), held) a
  may_give id l p ds us held a changes moves t w applied names s c at = let v = word_after w (acts_on a w) in let run = c.running in let m : Machine = run.machine in let f = finds_trying F T A values limit s c.capped run id (view l (trying p ds t ∷ us)) l p ds t us at refl in
      exchange (ExchangeGives (word_of s) (number_of v) (counts_on a (state_of (word_of s))) (lasts_on a (state_of (word_of s)))) (word_of s) (number_of w)
      (λ hit. let here : number_of w ≡ number_of m.word = sym hit ∙ run.word_is in let now : m.word ≡ w = same_word m.word w (number_of w) refl here in let word : m.word ≡ state_of (word_of s) = sym (ap state_of run.word_is ∙ state_of_number_of m.word) in
      let after = shares_after m p (acts_on a m.word) (number_of v) held (makes_change F T A values limit a p ds us held changes w applied m f here) in let before = shares_now s run in
      ⊎_elim (λ (z : (counts_on a m.word ≡ false) × (shares_of (word_after m.word (acts_on a m.word)) ≡ shares_of m.word)). inl (ap (counts_on a) (sym word) ∙ z.0, after ∙ (z.1 ∙ sym before)))
      (λ (z : (counts_on a m.word ≡ true) × (shares_of (word_after m.word (acts_on a m.word)) + 1 ≡ shares_of m.word) × (lasts_on a m.word ≡ eqb (shares_of (word_after m.word (acts_on a m.word))) 0)). inr (ap (counts_on a) (sym word) ∙ z.0, ap (λ k. k + 1) after ∙ (z.1 ∙ sym before), ap (lasts_on a) (sym word) ∙ (z.2 ∙ ap (λ k. eqb k 0) (sym after))))
      (moves m f (subst (λ (z : State). a.applies limit z ≡ true) (sym now) applied)))
      (inl (refl, refl))
