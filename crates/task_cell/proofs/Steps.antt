-- The steps that the rule allows a party, alone on its seat.
use Rattle.task_steps.specs.Values.{Values}
use Rattle.task_cell.proofs.Vocabulary.{◌≡◌, ℕ, Bool, List, [], refl, sym, ap, subst, not, Machine, Position, State, Act, Party, Finds, Owes, steps_knowing, deeds, limit_of, StandsWith, MayAct, MayMake, MayGiveUp, MayNote, TaskPlace}
use Rattle.task_steps.specs.Attempt.{word_after}
use Rattle.task_steps.proofs.Known.{OwesNote, may_note as may_note_at}
use Rattle.task_steps.proofs.Shares.{shares_of, Parts, keeps_shares, parts_shares}

module _ {F T A : Type 0} where
  -- it is enough that the party keeps what a step from there owes
  pub may_act : {values : Values F T} (limit : ℕ) (p : Party F T A) (at : Position) (held : List (ℕ × TaskPlace F T A)) (acts : State → List Act) (write : ℕ → ℕ) → StandsWith at held p → Owes F T A values limit acts write at (deeds p) [] held → MayAct values limit acts write p
  may_act {values = values} limit p at held acts write s owes =
      steps_knowing F T A values limit 2 p.seat.id p.seat.me (limit_of p) at (deeds p) [] acts write refl (ap (λ m. m.0) s) (subst (λ l. Owes F T A values limit acts write at (deeds p) [] l) (sym (ap (λ m. m.1) s)) owes)

  -- it is enough that the party's acts leave as many handles
  pub may_make : {values : Values F T} (limit : ℕ) (p : Party F T A) (at : Position) (held : List (ℕ × TaskPlace F T A)) (acts : State → List Act) (write : ℕ → ℕ) → StandsWith at held p → Owes F T A values limit acts write at (deeds p) [] held
      → ((m : Machine) → Finds limit at (deeds p) [] m → shares_of (word_after m.word (acts m.word)) ≡ shares_of m.word) → MayMake values limit acts write p
  may_make {values = values} limit p at held acts write s owes same = (
    may_act limit p at held acts write s owes,
    keeps_shares F T A values limit p.seat.id p.seat.me.0 (limit_of p) at (deeds p) [] held acts write (ap (λ m. m.0) s) owes same,
  )

  -- it is enough that the party's acts give a handle up, the last one unless others are left
  pub may_give_up : {values : Values F T} (limit : ℕ) (p : Party F T A) (at : Position) (held : List (ℕ × TaskPlace F T A)) (acts : State → List Act) (gives : State → Bool) (write : ℕ → ℕ) → StandsWith at held p → Owes F T A values limit acts write at (deeds p) [] held
      → ((m : Machine) → Finds limit at (deeds p) [] m → Parts (not (gives m.word)) (shares_of m.word) (shares_of (word_after m.word (acts m.word)))) → MayGiveUp values limit acts gives write p
  may_give_up {values = values} limit p at held acts gives write s owes moves = (
    may_act limit p at held acts write s owes,
    parts_shares F T A values limit p.seat.id p.seat.me.0 (limit_of p) at (deeds p) [] held acts write gives (ap (λ m. m.0) s) owes moves,
  )

  -- private acts
  pub may_note : {values : Values F T} (limit : ℕ) (p : Party F T A) (at : Position) (held : List (ℕ × TaskPlace F T A)) (acts : List Act) → StandsWith at held p → OwesNote limit acts at (deeds p) [] → MayNote values limit (λ _. acts) p
  may_note {values = values} limit p at held acts s owes = may_note_at F T A values limit p.seat.id p.seat.me (limit_of p) at (deeds p) [] acts (ap (λ m. m.0) s) owes
