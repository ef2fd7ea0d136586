-- What the parts of a run come to, put together from its exports.
use Rattle.std.proofs.Common.{◌≡◌, ℕ, Bool, true, false, List, [], ◌∷◌, ◌++◌, Option, Some, None, if◌then◌else◌, refl, sym, subst}
use Rattle.std.specs.Prelude.{IfSome, is_some, nat_eq}
use Rattle.task_exports.specs.Unknown.{unknown}
use Rattle.task_core.specs.Word.{State}
use Rattle.task_core.specs.declared.acts.Act.{Act}
use Rattle.task_core.specs.declared.acts.Act.TheVariants.{AnswerPending, AnswerReady, BeginNotify, Complete, CompleteDetached, DropFuture, DropOutput, EmptySlots, EndCall, EndClosed, EndNotify, GiveUpLastReference, GiveUpReference, StartPoll, StartRun, StoreOutput, TakeAwaiter, TakeUpClosed, Unschedule, WakeAwaiter}
use Rattle.task_core.specs.declared.traits.Poll.{Poll}
use Rattle.task_core.specs.declared.traits.Poll.TheVariants.{Pending as Unready, Ready as Answered}
use Rattle.task_cell.proofs.Moved.{did_then, stands}
use Rattle.task_cell.specs.Calls.{Did, DidWith, Fits, Stands, StandsWith}
use Rattle.task_cell.specs.RunPaths.{ClosedRunPath, NotifyPath, PendingPath, ReadyPath, ReleasePath, RestPath, RunPath, StorePath, WakePath, closed_run}
use Rattle.task_cell.specs.RunPaths as paths
use Rattle.task_cell.specs.Starts.{TakesUp}
use Rattle.task_cell.specs.Starts as starting
use Rattle.task_exports.proofs.EndsCall.{IsEmptier}
use Rattle.task_exports.proofs.Numbers.{differs, joined}
use Rattle.task_exports.specs.Answers.{Completed, Finishes, GivesBack, GoesOn, Pends, Starts, empties}
use Rattle.task_exports.specs.Answers as answers
use Rattle.task_exports.specs.CallPaths.{Done, EndsTaken, ends_taken, hands_on as hands_on_by}
use Rattle.task_exports.specs.Hands.{IsGone, IsLast, IsLive}
use Rattle.task_exports.specs.Parties.{CellParty, party_in}
use Rattle.task_exports.specs.declared.hand.Hand.{Hand}
use Rattle.task_exports.specs.declared.hand.Record.{Record}
use Rattle.task_laws.specs.declared.positions.Answer.TheVariants.{Ran}
use Rattle.task_laws.specs.declared.positions.NotifyingCall.TheVariants.{OfRun}
use Rattle.task_laws.specs.declared.positions.Position.TheVariants.{Emptier, FutureGone, OutputInHand, PendingFutureDropped, Polling, Releaser}
use Rattle.task_laws.specs.declared.positions.WithoutPoll.TheVariants.{ClosedRun}
use Rattle.task_steps.specs.Deeds.{act, row}
use Rattle.task_steps.specs.Rule.{IsFuture, Waits}
use Rattle.task_steps.specs.Standing.{as_ended, as_runnable}
use Rattle.task_steps.specs.Steps.{awaiter_first, work_first}
use Rattle.task_steps.specs.declared.table.Deed.{Deed}

-- the acts of two paths were done
pub done_then : (did : Act → Type 0) (a b : List Deed) → Done did a → Done did b → Done did (a ++ b)
done_then did [] b x y = y
done_then did (d ∷ a) b x y = (x.0, done_then did a b x.1 y)

module _ (did : Act → Type 0) where
  pub notify_done : (due taken : Bool) (n : List Deed) → NotifyPath due taken n → Done did n
  notify_done _ _ _ paths.not_due = tt
  notify_done _ _ _ (paths.missed w f) = (tt, tt)
  notify_done _ _ _ (paths.none_there w v f) = (tt, (tt, (tt, tt)))
  notify_done _ _ _ (paths.taken w v f) = (tt, (tt, (tt, tt)))

  pub release_done : (r : List Deed) → ReleasePath r → Done did r
  release_done _ (paths.leaves_others w f) = (tt, tt)
  release_done _ (paths.leaves_none w f) = (tt, (tt, tt))

  pub wake_done : (Woken : Type 0) (taken : Bool) (k : List Deed) → WakePath Woken taken k → Done did k
  wake_done Woken _ _ paths.nobody = tt
  wake_done Woken _ _ (paths.woken fact) = (tt, tt)

  -- the rest of a run asks for nothing at the place of the future
  rest_done : (Woken : Type 0) (due : Bool) (rest : List Deed) → RestPath Woken due rest → Done did rest
  rest_done Woken due _ (paths.rests _ taken n r k np rp wp) = done_then did n (r ++ (k ++ act EndCall ∷ [])) (notify_done due taken n np)
      (done_then did r (k ++ act EndCall ∷ []) (release_done r rp) (done_then did k (act EndCall ∷ []) (wake_done Woken taken k wp) (tt, tt)))

-- the place of the awaiter was taken, and given back
pub took : (w v : State) → Fits BeginNotify w → (taken : Bool) → NotifyPath true taken (row BeginNotify w ∷ act TakeAwaiter ∷ row EndNotify v ∷ [])
took w v f false = paths.none_there w v f
took w v f true = paths.taken w v f

-- the deeds of a run up to its end step, which keeps the output
abbrev pub completed : State → List Deed
completed w = act AnswerReady ∷ act DropFuture ∷ act StoreOutput ∷ row Complete w ∷ []

-- the answer where nobody will claim the output
abbrev number : Bool → ℕ
number due = if due then 6 else 5

neither : (X : Type 0) (due : Bool) (m : ℕ) → number due ≡ m → nat_eq 5 m ≡ false → nat_eq 6 m ≡ false → nat_eq m m ≡ true → X
neither X true m e a b is_m = differs 6 m b is_m e
neither X false m e a b is_m = differs 5 m a is_m e

module _ (Woken : Type 0) where
  -- the rest of a run, after these deeds
  abbrev pub Rests : Bool → List Deed → CellParty → CellParty → Type 0
  Rests due before p q = (rest : List Deed) × RestPath Woken due rest × Did (before ++ rest) as_ended p q

  -- the rest of a run that has taken the awaiter's place
  abbrev pub Takes : CellParty → CellParty → Type 0
  Takes p q = (path : List Deed) × EndsTaken Woken path × Did path as_ended p q

  rests_on : (due taken : Bool) (before n r k : List Deed) (p q : CellParty) → NotifyPath due taken n → ReleasePath r → WakePath Woken taken k → Did ((before ++ n) ++ (r ++ (k ++ act EndCall ∷ []))) as_ended p q → Rests due before p q
  rests_on due taken before n r k p q np rp wp d = let more : List Deed = r ++ (k ++ act EndCall ∷ []) in
      (n ++ more, paths.rests due taken n r k np rp wp, subst (λ (l : List Deed). Did l as_ended p q) (sym (joined before n more)) d)

  module _ (x k : Hand) (due : Bool) (before : List Deed) where
    -- by the answer of an end step: the call has ended
    pub left_over : (n : ℕ) → GoesOn OfRun due before x k n → n ≡ 1 → IsGone k × Stands as_ended k.party × Rests due before x.party k.party
    left_over _ (answers.takes w hand y is f live h d) e = differs 7 1 refl refl e
    left_over _ (answers.gives n _ np (answers.others w f gone d)) e = (
      gone,
      stands _ _ _ _ _ d,
      rests_on due false before n (row GiveUpReference w ∷ []) [] x.party k.party np (paths.leaves_others w f) paths.nobody d,
    )
    left_over _ (answers.gives n _ np (answers.none_left w answer y f live d)) e = differs 9 1 refl refl e

    -- by the answer of an end step: it was the last handle
    pub left_last : (n : ℕ) → GoesOn OfRun due before x k n → n ≡ 9 → IsLast k × IsEmptier false k.party × ((q : CellParty) → Did (empties false) as_ended k.party q → Rests due before x.party q)
    left_last _ (answers.takes w hand y is f live h d) e = differs 7 9 refl refl e
    left_last _ (answers.gives n _ np (answers.others w f gone d)) e = differs 1 9 refl refl e
    left_last _ (answers.gives n _ np (answers.none_left w answer y f live d)) e = (
      live,
      (None, answer, y, stands _ _ _ _ _ d, refl),
      λ q g. rests_on due false before n (row GiveUpLastReference w ∷ act EmptySlots ∷ []) [] x.party q np (paths.leaves_none w f) paths.nobody
          (subst (λ (l : List Deed). Did l as_ended x.party q) (sym (joined (before ++ n) (row GiveUpLastReference w ∷ []) (empties false)))
          (did_then x.party k.party q _ (empties false) (Emptier None answer) as_ended (awaiter_first y []) [] d g)),
    )

    -- by the answer of an end step: the awaiter's place is the party's
    pub left_taking : (n : ℕ) → GoesOn OfRun due before x k n → n ≡ 7
        → IsLive k × ((awaiter : Option ℕ) × (y : _) × StandsWith (Releaser awaiter OfRun) (awaiter_first y []) k.party × Waits awaiter y) × ((q : CellParty) → Takes k.party q → Rests due before x.party q)
    left_taking _ (answers.takes w hand y is f live h d) e = (live, (hand, y, stands _ _ _ _ _ d, h), λ q t. subst (λ b. Rests b before x.party q) (sym is) (taking_rests w hand y f d q t.0 t.1 t.2))
      where
        taking_rests : (w : State) (hand : Option ℕ) (y : _) → Fits BeginNotify w → DidWith (before ++ row BeginNotify w ∷ act TakeAwaiter ∷ []) (Releaser hand OfRun) (awaiter_first y []) x.party k.party → (q : CellParty) (path : List Deed) → EndsTaken Woken path → Did path as_ended k.party q → Rests true before x.party q
        taking_rests w hand y f d q _ (ends_taken v taken r l rp wp) g = let past : List Deed = row EndNotify v ∷ (r ++ (l ++ act EndCall ∷ [])) in (
          row BeginNotify w ∷ act TakeAwaiter ∷ past,
          paths.rests true taken (row BeginNotify w ∷ act TakeAwaiter ∷ row EndNotify v ∷ []) r l (took w v f taken) rp wp,
          subst (λ (t : List Deed). Did t as_ended x.party q) (sym (joined before (row BeginNotify w ∷ act TakeAwaiter ∷ []) past))
              (did_then x.party k.party q _ past (Releaser hand OfRun) as_ended (awaiter_first y []) [] d g),
        )
    left_taking _ (answers.gives n _ np (answers.others w f gone d)) e = differs 1 7 refl refl e
    left_taking _ (answers.gives n _ np (answers.none_left w answer y f live d)) e = differs 9 7 refl refl e

  module _ (x k : Hand) where
    -- by the answer of a run that has taken the awaiter out: nothing lay there, and the call has ended
    pub taken_over : (awaiter : Option ℕ) (n : ℕ) → Finishes x k awaiter n → n ≡ 1 → IsGone k × Stands as_ended k.party × Takes x.party k.party
    taken_over _ _ (answers.over v w f gone d) e = (gone, stands _ _ _ _ _ d, (_, ends_taken v false (row GiveUpReference w ∷ []) [] (paths.leaves_others w f) paths.nobody, d))
    taken_over _ _ (answers.wakes v w i f gone d) e = differs 8 1 refl refl e
    taken_over _ _ (answers.last v w y f live d) e = differs 9 1 refl refl e
    taken_over _ _ (answers.last_wakes v w i y f live d) e = differs 15 1 refl refl e

    -- by the answer: the awaiter is to be woken
    pub taken_wakes : (awaiter : Option ℕ) (n : ℕ) → Finishes x k awaiter n → n ≡ 8 → IsGone k × Stands as_ended k.party × (Woken → Takes x.party k.party)
    taken_wakes _ _ (answers.over v w f gone d) e = differs 1 8 refl refl e
    taken_wakes _ _ (answers.wakes v w i f gone d) e = (gone, stands _ _ _ _ _ d, λ fact. (_, ends_taken v true (row GiveUpReference w ∷ []) (act WakeAwaiter ∷ []) (paths.leaves_others w f) (paths.woken fact), d))
    taken_wakes _ _ (answers.last v w y f live d) e = differs 9 8 refl refl e
    taken_wakes _ _ (answers.last_wakes v w i y f live d) e = differs 15 8 refl refl e

    -- by the answer: nothing lay there, and it was the last handle
    pub taken_last : (awaiter : Option ℕ) (n : ℕ) → Finishes x k awaiter n → n ≡ 9 → IsLast k × IsEmptier false k.party × ((q : CellParty) → Did (empties false) as_ended k.party q → Takes x.party q)
    taken_last _ _ (answers.over v w f gone d) e = differs 1 9 refl refl e
    taken_last _ _ (answers.wakes v w i f gone d) e = differs 8 9 refl refl e
    taken_last _ _ (answers.last v w y f live d) e = (
      live,
      (None, Ran false, y, stands _ _ _ _ _ d, refl),
      λ q g. (_, ends_taken v false (row GiveUpLastReference w ∷ act EmptySlots ∷ []) [] (paths.leaves_none w f) paths.nobody, did_then x.party k.party q _ (empties false) (Emptier None (Ran false)) as_ended (awaiter_first y []) [] d g),
    )
    taken_last _ _ (answers.last_wakes v w i y f live d) e = differs 15 9 refl refl e

    -- by the answer: the awaiter is to be woken once the places are empty
    pub taken_last_wakes : (awaiter : Option ℕ) (n : ℕ) → Finishes x k awaiter n → n ≡ 15 → IsLast k × IsEmptier true k.party × ((q : CellParty) → Did (empties true) as_ended k.party q → Woken → Takes x.party q)
    taken_last_wakes _ _ (answers.over v w f gone d) e = differs 1 15 refl refl e
    taken_last_wakes _ _ (answers.wakes v w i f gone d) e = differs 8 15 refl refl e
    taken_last_wakes _ _ (answers.last v w y f live d) e = differs 9 15 refl refl e
    taken_last_wakes _ _ (answers.last_wakes v w i y f live d) e = (
      live,
      (Some i, Ran false, y, stands _ _ _ _ _ d, refl),
      λ q g fact. (_, ends_taken v true (row GiveUpLastReference w ∷ act EmptySlots ∷ []) (act WakeAwaiter ∷ []) (paths.leaves_none w f) (paths.woken fact), did_then x.party k.party q _ (empties true) (Emptier (Some i) (Ran false)) as_ended (awaiter_first y []) [] d g),
    )

  -- a run goes on after its end step by these numbers alone
  goes_by : (X : Type 0) (due : Bool) (before : List Deed) (x k : Hand) (n m : ℕ) → GoesOn OfRun due before x k n → n ≡ m → nat_eq 7 m ≡ false → nat_eq 1 m ≡ false → nat_eq 9 m ≡ false → nat_eq m m ≡ true → X
  goes_by X due before x k _ m (answers.takes w hand y is f live h d) e a b c is_m = differs 7 m a is_m e
  goes_by X due before x k _ m (answers.gives n _ np (answers.others w f gone d)) e a b c is_m = differs 1 m b is_m e
  goes_by X due before x k _ m (answers.gives n _ np (answers.none_left w answer y f live d)) e a b c is_m = differs 9 m c is_m e

  module _ (did : Act → Type 0) where
    -- a run after its poll was ready
    abbrev pub Readied : CellParty → CellParty → Type 0
    Readied p q = (path : List Deed) × ReadyPath Woken path × Done did path × Did path as_ended p q

    -- what the caller has done for it
    abbrev pub Stored : Type 0
    Stored = did DropFuture × did StoreOutput

    readied : (w : State) (s rest : List Deed) (p q : CellParty) → StorePath w s → RestPath Woken w.awaiter rest → Done did s → Did (act AnswerReady ∷ (s ++ rest)) as_ended p q → Readied p q
    readied w s rest p q sp rp done d = (act AnswerReady ∷ (s ++ rest), paths.ready w s rest sp rp, (tt, done_then did s rest done (rest_done did Woken w.awaiter rest rp)), d)

    module _ (x k : Hand) where
      -- somebody may claim the output
      abbrev pub Kept : ℕ → Type 0
      Kept m = (w : State) × (w.task ≡ true) × (w.closed ≡ false) × GoesOn OfRun w.awaiter (completed w) x k m

      pub kept : (m n : ℕ) → Completed x k n → n ≡ m → nat_eq 0 m ≡ false → nat_eq 5 m ≡ false → nat_eq 6 m ≡ false → nat_eq m m ≡ true → Kept m
      kept m _ (answers.complete_missed _) e a b c is_m = differs 0 m a is_m e
      kept m _ (answers.keeps w n t f g) e a b c is_m = (w, t, f, subst (λ l. GoesOn OfRun w.awaiter (completed w) x k l) e g)
      kept m _ (answers.unclaimed w z t f live d) e a b c is_m = neither (Kept m) w.awaiter m e b c is_m
      kept m _ (answers.detached w z t live d) e a b c is_m = neither (Kept m) w.awaiter m e b c is_m

      pub keeps_it : (m : ℕ) (g : Kept m) → Stored → (q : CellParty) → Rests g.0.awaiter (completed g.0) x.party q → Readied x.party q
      keeps_it m g stored q t = readied g.0 (act DropFuture ∷ act StoreOutput ∷ row Complete g.0 ∷ []) t.0 x.party q (paths.kept g.1 g.2) t.1 (stored.0, (stored.1, (tt, tt))) t.2

      -- nobody will claim the output
      abbrev pub Unclaimed : Bool → Type 0
      Unclaimed due = IsLive k × ((z : _) × StandsWith (OutputInHand due) (work_first z []) k.party) × (Stored → did DropOutput → (q : CellParty) → Rests due (act DropOutput ∷ []) k.party q → Readied x.party q)

      not_claimed_by : (w : State) (z : _) → w.task ≡ true → w.closed ≡ true → IsLive k → DidWith (act AnswerReady ∷ act DropFuture ∷ act StoreOutput ∷ row Complete w ∷ []) (OutputInHand w.awaiter) (work_first z []) x.party k.party → Unclaimed w.awaiter
      not_claimed_by w z a b live d = (
        live,
        (z, stands _ _ _ _ _ d),
        λ stored dropped q g. readied w (act DropFuture ∷ act StoreOutput ∷ row Complete w ∷ act DropOutput ∷ []) g.0 x.party q (paths.not_claimed a b) g.1 (stored.0, (stored.1, (tt, (dropped, tt))))
            (did_then x.party k.party q _ (act DropOutput ∷ g.0) (OutputInHand w.awaiter) as_ended (work_first z []) [] d g.2),
      )

      detached_by : (w : State) (z : _) → w.task ≡ false → IsLive k → DidWith (act AnswerReady ∷ act DropFuture ∷ act StoreOutput ∷ row CompleteDetached w ∷ []) (OutputInHand w.awaiter) (work_first z []) x.party k.party → Unclaimed w.awaiter
      detached_by w z a live d = (
        live,
        (z, stands _ _ _ _ _ d),
        λ stored dropped q g. readied w (act DropFuture ∷ act StoreOutput ∷ row CompleteDetached w ∷ act DropOutput ∷ []) g.0 x.party q (paths.detached a) g.1 (stored.0, (stored.1, (tt, (dropped, tt))))
            (did_then x.party k.party q _ (act DropOutput ∷ g.0) (OutputInHand w.awaiter) as_ended (work_first z []) [] d g.2),
      )

      at_due : (b : Bool) → Unclaimed b → number b ≡ 6 → Unclaimed true
      at_due true u e = u
      at_due false u e = differs 5 6 refl refl e

      at_none : (b : Bool) → Unclaimed b → number b ≡ 5 → Unclaimed false
      at_none true u e = differs 6 5 refl refl e
      at_none false u e = u

      pub unclaimed : (n : ℕ) → Completed x k n → n ≡ 5 → Unclaimed false
      unclaimed _ (answers.complete_missed _) e = differs 0 5 refl refl e
      unclaimed _ (answers.keeps w n a b g) e = goes_by (Unclaimed false) w.awaiter _ x k n 5 g e refl refl refl refl
      unclaimed _ (answers.unclaimed w z a b live d) e = at_none w.awaiter (not_claimed_by w z a b live d) e
      unclaimed _ (answers.detached w z a live d) e = at_none w.awaiter (detached_by w z a live d) e

      pub unclaimed_due : (n : ℕ) → Completed x k n → n ≡ 6 → Unclaimed true
      unclaimed_due _ (answers.complete_missed _) e = differs 0 6 refl refl e
      unclaimed_due _ (answers.keeps w n a b g) e = goes_by (Unclaimed true) w.awaiter _ x k n 6 g e refl refl refl refl
      unclaimed_due _ (answers.unclaimed w z a b live d) e = at_due w.awaiter (not_claimed_by w z a b live d) e
      unclaimed_due _ (answers.detached w z a live d) e = at_due w.awaiter (detached_by w z a live d) e

    module _ (Scheduled : Bool → Type 0) where
      -- a run after its poll was pending
      abbrev pub Pended : Bool → CellParty → CellParty → Type 0
      Pended answer p q = (path : List Deed) × PendingPath Woken Scheduled answer path × Done did path × Did path as_ended p q

      -- a run whose task was closed while its poll was pending
      abbrev pub Cleared : CellParty → CellParty → Type 0
      Cleared p q = (w : State) × (rest : List Deed) × (w.closed ≡ true) × RestPath Woken w.awaiter rest × Did (row EndClosed w ∷ rest) as_ended p q

      module _ (x k : Hand) where
        -- a record comes with these answers alone
        pub comes_with : (o : Option Hand) (n : ℕ) → Pends x k (party_in o) n → is_some o ≡ hands_on_by n
        comes_with None _ (answers.pend_missed _) = refl
        comes_with None _ (answers.closed y live d) = refl
        comes_with None _ (answers.idle w a b c gone d) = refl
        comes_with (Some e) _ (answers.woken w ended a b live at d) = refl
        comes_with (Some e) _ (answers.orphaned w ended a b c live at d) = refl

        pub hands_on : (ended : CellParty) (n : ℕ) → Pends x k (Some ended) n → IsLive k × Stands as_runnable k.party × (Scheduled (nat_eq n 11) → Pended (nat_eq n 11) x.party ended)
        hands_on _ _ (answers.woken w ended a b live at d) = (live, at, λ fact. (_, paths.woken_meanwhile w a b fact, (tt, (tt, (tt, (tt, tt)))), d))
        hands_on _ _ (answers.orphaned w ended a b c live at d) = (live, at, λ fact. (_, paths.orphaned w a b c fact, (tt, (tt, (tt, (tt, tt)))), d))

        pub is_idle : (n : ℕ) → Pends x k None n → n ≡ 1 → IsGone k × Stands as_ended k.party × Pended false x.party k.party
        is_idle _ (answers.pend_missed _) e = differs 0 1 refl refl e
        is_idle _ (answers.closed y live d) e = differs 4 1 refl refl e
        is_idle _ (answers.idle w a b c gone d) e = (gone, stands _ _ _ _ _ d, (_, paths.idle w a b c, (tt, (tt, (tt, tt))), d))

        pub is_cleared : (n : ℕ) → Pends x k None n → n ≡ 4 → IsLive k × ((y : _) × StandsWith PendingFutureDropped (work_first y []) k.party) × (did DropFuture → (q : CellParty) → Cleared k.party q → Pended false x.party q)
        is_cleared _ (answers.pend_missed _) e = differs 0 4 refl refl e
        is_cleared _ (answers.closed y live d) e = (
          live,
          (y, stands _ _ _ _ _ d),
          λ fact q g. (
            act AnswerPending ∷ act DropFuture ∷ row EndClosed g.0 ∷ g.1,
            paths.closed_meanwhile g.0 g.1 g.2 g.3,
            (tt, (fact, (tt, rest_done did Woken g.0.awaiter g.1 g.3))),
            did_then x.party k.party q (act AnswerPending ∷ act DropFuture ∷ []) (row EndClosed g.0 ∷ g.1) PendingFutureDropped as_ended (work_first y []) [] d g.4,
          ),
        )
        is_cleared _ (answers.idle w a b c gone d) e = differs 1 4 refl refl e

      module _ {T : Type 0} (Polled : Poll T → Type 0) where
        -- a whole run, and what it answers
        abbrev pub Runs : Bool → CellParty → CellParty → Type 0
        Runs answer p q = (path : List Deed) × RunPath Polled Woken Scheduled answer path × Done did path × Did path as_ended p q

        -- a run of a task that was closed before, after it has taken the future over
        abbrev pub Closes : CellParty → CellParty → Type 0
        Closes p q = (w : State) × (rest : List Deed) × RestPath Woken w.awaiter rest × Did (row Unschedule w ∷ rest) as_ended p q

        module _ (x k : Hand) where
          pub finds_closed : (n : ℕ) → Starts x k n → n ≡ 4 → IsLive k × ((y : _) × StandsWith (FutureGone ClosedRun) (work_first y []) k.party) × (did DropFuture → (q : CellParty) → Closes k.party q → Runs false x.party q)
          finds_closed _ (answers.start_missed _) e = differs 0 4 refl refl e
          finds_closed _ (answers.polls live t) e = differs 3 4 refl refl e
          finds_closed _ (answers.finds_closed live (starting.finds_closed w y a f d)) e = (
            live,
            (y, stands _ _ _ _ _ d),
            λ fact q g. (
              row TakeUpClosed w ∷ act DropFuture ∷ row Unschedule g.0 ∷ g.1,
              paths.finds_closed w (act DropFuture ∷ row Unschedule g.0 ∷ g.1) a (closed_run g.0 g.1 g.2),
              (tt, (fact, (tt, rest_done did Woken g.0.awaiter g.1 g.2))),
              did_then x.party k.party q (row TakeUpClosed w ∷ act DropFuture ∷ []) (row Unschedule g.0 ∷ g.1) (FutureGone ClosedRun) as_ended (work_first y []) [] d g.3,
            ),
          )

          -- the future is polled, and what that answered
          pub data Polls : Type 0 where
            polls : (w : State) (y : _) → w.closed ≡ false → IsFuture unknown y → DidWith (row StartRun w ∷ act StartPoll ∷ []) Polling (work_first y []) x.party k.party → Polls

          pub starts : (n : ℕ) → Starts x k n → n ≡ 3 → IsLive k × Polls
          starts _ (answers.start_missed _) e = differs 0 3 refl refl e
          starts _ (answers.polls live (starting.starts w y a f d)) e = (live, polls w y a f d)
          starts _ (answers.finds_closed live t) e = differs 4 3 refl refl e

          -- the future is polled by the handle that it was lent
          pub is_polling : (p : CellParty) → p ≡ k.party → Polls → (y : _) × StandsWith Polling (work_first y []) p × IsFuture unknown y
          is_polling p e (polls w y a f d) = (y, subst (λ r. StandsWith Polling (work_first y []) r) (sym e) (stands _ _ _ _ _ d), f)

          pub was_ready : (p q : CellParty) (output : T) → p ≡ k.party → Polls → Polled (Answered output) → Readied p q → Runs false x.party q
          was_ready p q output e (polls w y a f d) fact g = (
            row StartRun w ∷ act StartPoll ∷ g.0,
            paths.answers_ready w output g.0 a fact g.1,
            (tt, (tt, g.2)),
            did_then x.party k.party q (row StartRun w ∷ act StartPoll ∷ []) g.0 Polling as_ended (work_first y []) [] d (subst (λ r. Did g.0 as_ended r q) e g.3),
          )

          pub was_pending : (p q : CellParty) (answer : Bool) → p ≡ k.party → Polls → Polled Unready → Pended answer p q → Runs answer x.party q
          was_pending p q answer e (polls w y a f d) fact g = (
            row StartRun w ∷ act StartPoll ∷ g.0,
            paths.answers_pending w answer g.0 a fact g.1,
            (tt, (tt, g.2)),
            did_then x.party k.party q (row StartRun w ∷ act StartPoll ∷ []) g.0 Polling as_ended (work_first y []) [] d (subst (λ r. Did g.0 as_ended r q) e g.3),
          )

-- what holds of a call's record holds of what a run answers that does not give way
pub stays_so : (o : Option Record) (told : Option (Bool × Record)) (P : Record → Type 0) (Q : Bool × Record → Type 0) → IfSome told (λ call. (call.0 ≡ false) × (o ≡ Some call.1)) → IfSome o P → ((ended : Record) → P ended → Q (false, ended)) → IfSome told Q
stays_so o None P Q is h go = tt
stays_so o (Some call) P Q is h go = subst (λ b. Q (b, call.1)) (sym is.0) (go call.1 (subst (λ r. IfSome r P) is.1 h))

-- the record of a call that has woken last
pub woken_last : (o : Option Record) (p : CellParty) (Woken : Type 0) (R : CellParty → Type 0) → IfSome o (λ call. call.party ≡ p) → IfSome o (λ _. Woken) → (Woken → R p) → IfSome o (λ call. R call.party)
woken_last None p Woken R e fact go = tt
woken_last (Some call) p Woken R e fact go = subst R (sym e) (go fact)
