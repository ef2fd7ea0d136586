-- The paths of a whole poll, put together from those of its looks, its registering and its end.
use Rattle.task_steps.specs.Values.{Values}
use Rattle.task_cell.proofs.Vocabulary.{◌≡◌, ℕ, Bool, true, false, Option, Some, None, List, [], ◌∷◌, ◌++◌, sym, ap, ◌∙◌, subst, inl, inr, ◌⊎◌, ⊎_elim, if◌then◌else◌, Result, Ok, Err, State, TaskPoll}
use Rattle.task_cell.proofs.Vocabulary.{OfPoll, Notifier, Looking, Registrar, Look, ClaimOutput, HandOutOutput, RefuseClone, EndCall, first_look, Deed, Party, position, Did, row, act, as_task}
use Rattle.task_cell.proofs.Vocabulary.{poll_number, has_output, has_ended, has_to_wait, TakePath, TakePathIf, RegisterPath, AnswerPath, PollPath, ClaimsOutput, Looks, claims_output, sees_none}
use Rattle.task_cell.proofs.Vocabulary.{LooksAgain, claims_output_now, has_to_wait_on, sees_end, Registers, is_registered, clone_refused, never}
use Rattle.task_core.specs.declared.traits.TaskPoll.TheVariants.{Ready, Refused}
use Rattle.task_cell.specs.PollPaths as paths
use Rattle.task_cell.proofs.PollWays.{ends, then_goes, claimed_out}

module _ {F T A : Type 0} where
  -- a look that has found no output
  abbrev pub SeesNone : State → Party F T A → Party F T A → Type 0
  SeesNone w p q = (has_output w ≡ false) × Did (row Look w ∷ []) (first_look w (poll_number (position p))) p q

  -- a look, by its answer
  abbrev pub Seen : Values F T → Party F T A → Party F T A → Result State State → Type 0
  Seen values p q (Ok w) = ClaimsOutput values w (row ClaimOutput w ∷ []) p q
  Seen values p q (Err w) = SeesNone w p q

  pub seen : {values : Values F T} (p q : Party F T A) (x : Result State State) → Looks values p q x → Seen values p q x
  seen p q (Ok w) (claims_output _ c) = c
  seen p q (Err w) (sees_none _ e g) = (e, g)

  -- a look, by whether it found the task ended
  pub saw : (w : State) (p q : Party F T A) (b : Bool) → SeesNone w p q → has_ended w ≡ b → Did (row Look w ∷ []) (if b then Notifier (OfPoll (poll_number (position p))) else Registrar (poll_number (position p))) p q
  saw w p q b s h = let n : ℕ = poll_number (position p) in subst (λ at. Did (row Look w ∷ []) at p q) (ap (λ (b : Bool). if b then Notifier (OfPoll n) else Registrar n) h) s.1

  -- the look of a poll that has registered, and has found no output
  abbrev pub SeesNoneAgain : State → Party F T A → Party F T A → Type 0
  SeesNoneAgain w p q = ((has_to_wait w ≡ true) × Did (row Look w ∷ act EndCall ∷ []) (ends (position p)) p q) ⊎ ((has_to_wait w ≡ false) × (has_ended w ≡ true) × Did (row Look w ∷ []) (Notifier (OfPoll (poll_number (position p)))) p q)

  -- the same look, by its answer
  abbrev pub SeenAgain : Values F T → Party F T A → Party F T A → Result State State → Type 0
  SeenAgain values p q (Ok w) = ClaimsOutput values w (row Look w ∷ row ClaimOutput w ∷ []) p q
  SeenAgain values p q (Err w) = SeesNoneAgain w p q

  pub seen_again : {values : Values F T} (p q : Party F T A) (x : Result State State) → LooksAgain values p q x → SeenAgain values p q x
  seen_again p q (Ok w) (claims_output_now _ c) = c
  seen_again p q (Err w) (has_to_wait_on _ e g) = inl (e, g)
  seen_again p q (Err w) (sees_end _ e f g) = inr (e, f, g)

  pub waited : (w : State) (p q : Party F T A) → SeesNoneAgain w p q → has_to_wait w ≡ true → Did (row Look w ∷ act EndCall ∷ []) (ends (position p)) p q
  waited w p q s f = ⊎_elim (λ x. x.1) (λ x. never (sym x.0 ∙ f)) s

  pub saw_end : (w : State) (p q : Party F T A) → SeesNoneAgain w p q → has_to_wait w ≡ false → (has_ended w ≡ true) × Did (row Look w ∷ []) (Notifier (OfPoll (poll_number (position p)))) p q
  saw_end w p q s f = ⊎_elim (λ x. never (sym f ∙ x.0)) (λ x. (x.1, x.2)) s

  module _ {B K : Type 0} (cloned : B → Result B K → Type 0) (woken woken_by_ref : B → K → Type 0) (compared : B → B → Bool → Type 0) (awaiter : B) where
    abbrev pub Answers : ℕ → TaskPoll (Option T) → Party F T A → Party F T A → Type 0
    Answers n answer p r = (path : List Deed) × AnswerPath woken compared awaiter path answer × Did path (as_task n) p r

    pub answers_ended : (w : State) (n : ℕ) (taken : List Deed) (p q r : Party F T A) → has_ended w ≡ true → TakePath woken compared awaiter taken → Did (row Look w ∷ []) (Notifier (OfPoll n)) p q → Did (taken ++ (act EndCall ∷ [])) (ends (position q)) q r
        → Answers n (Ready None) p r
    answers_ended w n taken p q r e t g h = (row Look w ∷ taken ++ (act EndCall ∷ []), paths.has_ended_since w taken e t, then_goes p q r (row Look w ∷ []) (taken ++ (act EndCall ∷ [])) (Notifier (OfPoll n)) [] [] ends g h)

    pub answers_output : {values : Values F T} (w : State) (x : T) (taken : List Deed) (p q r : Party F T A) → ClaimsOutput values w (row Look w ∷ row ClaimOutput w ∷ []) p q → TakePathIf woken compared awaiter w.awaiter taken
        → Did (taken ++ (act HandOutOutput ∷ act EndCall ∷ [])) (ends (position q)) q r → Answers (poll_number (position p)) (Ready (Some x)) p r
    answers_output w x taken p q r c t o = let rest : List Deed = taken ++ (act HandOutOutput ∷ act EndCall ∷ []) in
        (row Look w ∷ row ClaimOutput w ∷ rest, paths.has_output_since w (row ClaimOutput w ∷ rest) x (paths.claims taken c.there t), claimed_out w (row Look w ∷ row ClaimOutput w ∷ []) rest p q r c o)

    abbrev pub Polled : ℕ → TaskPoll (Option T) → Party F T A → Party F T A → Type 0
    Polled n answer p r = (path : List Deed) × PollPath cloned woken woken_by_ref compared awaiter path answer × Did path (as_task n) p r

    pub polled_output : {values : Values F T} (w : State) (x : T) (taken : List Deed) (p q r : Party F T A) → ClaimsOutput values w (row ClaimOutput w ∷ []) p q → TakePathIf woken compared awaiter w.awaiter taken
        → Did (taken ++ (act HandOutOutput ∷ act EndCall ∷ [])) (ends (position q)) q r → Polled (poll_number (position p)) (Ready (Some x)) p r
    polled_output w x taken p q r c t o = let rest : List Deed = taken ++ (act HandOutOutput ∷ act EndCall ∷ []) in
        (row ClaimOutput w ∷ rest, paths.finds_output w (row ClaimOutput w ∷ rest) x (paths.claims taken c.there t), claimed_out w (row ClaimOutput w ∷ []) rest p q r c o)

    pub polled_ended : (w : State) (n : ℕ) (taken : List Deed) (p q r : Party F T A) → has_ended w ≡ true → TakePath woken compared awaiter taken → Did (row Look w ∷ []) (Notifier (OfPoll n)) p q → Did (taken ++ (act EndCall ∷ [])) (ends (position q)) q r
        → Polled n (Ready None) p r
    polled_ended w n taken p q r e t g h = (row Look w ∷ taken ++ (act EndCall ∷ []), paths.finds_ended w taken e t, then_goes p q r (row Look w ∷ []) (taken ++ (act EndCall ∷ [])) (Notifier (OfPoll n)) [] [] ends g h)

    -- what the registering came to
    abbrev pub Came : Party F T A → Party F T A → Bool → Type 0
    Came p q true = (path : List Deed) × RegisterPath cloned woken woken_by_ref awaiter path × Did path (Looking (poll_number (position p))) p q
    Came p q false = (told : K) × cloned awaiter (Err told) × Did (act RefuseClone ∷ act EndCall ∷ []) (ends (position p)) p q

    came_by : {Comes : Type 0} (p q : Party F T A) (b : Bool) → Registers cloned woken woken_by_ref awaiter Comes p q b → Came p q b
    came_by p q true (is_registered path r g kept) = (path, r, g)
    came_by p q false (clone_refused told c g) = (told, c, g)

    pub came : {Comes : Type 0} (p q : Party F T A) (b c : Bool) → Registers cloned woken woken_by_ref awaiter Comes p q b → b ≡ c → Came p q c
    came {Comes} p q b c r e = came_by p q c (subst (λ b. Registers cloned woken woken_by_ref awaiter Comes p q b) e r)

    pub comes : {Comes : Type 0} (p q : Party F T A) (b : Bool) → Registers cloned woken woken_by_ref awaiter Comes p q b → b ≡ true → Comes
    comes p q true (is_registered path r g kept) e = kept
    comes p q false (clone_refused told c g) e = never e

    pub polled_refused : (w : State) (n : ℕ) (p q r : Party F T A) → has_output w ≡ false → has_ended w ≡ false → Did (row Look w ∷ []) (Registrar n) p q → Came q r false → Polled n Refused p r
    polled_refused w n p q r e f g h = (row Look w ∷ act RefuseClone ∷ act EndCall ∷ [], paths.is_refused w h.0 e f h.1, then_goes p q r (row Look w ∷ []) (act RefuseClone ∷ act EndCall ∷ []) (Registrar n) [] [] ends g h.2)

    pub is_looking : (w : State) (n : ℕ) (path : List Deed) (p q r : Party F T A) → Did (row Look w ∷ []) (Registrar n) p q → Did path (Looking (poll_number (position q))) q r → Did ((row Look w ∷ []) ++ path) (Looking n) p r
    is_looking w n path p q r g h = then_goes p q r (row Look w ∷ []) path (Registrar n) [] [] (λ x. Looking (poll_number x)) g h

    pub polled_again : (w : State) (n : ℕ) (answer : TaskPoll (Option T)) (p q r t : Party F T A) → has_output w ≡ false → has_ended w ≡ false → Did (row Look w ∷ []) (Registrar n) p q → Came q r true
        → Answers (poll_number (position r)) answer r t → Polled n answer p t
    polled_again w n answer p q r t e f g h k = (
      row Look w ∷ h.0 ++ k.0,
      paths.looks_again w h.0 k.0 answer e f h.1 k.1,
      then_goes p r t ((row Look w ∷ []) ++ h.0) k.0 (Looking n) [] [] ends (is_looking w n h.0 p q r g h.2) k.2,
    )
