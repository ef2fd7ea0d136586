-- What the parts of a Runnable's drop come to, put together from its exports.
use Rattle.std.proofs.Common.{◌≡◌, ℕ, Bool, true, false, List, [], ◌∷◌, ◌++◌, Option, None, refl, sym, subst}
use Rattle.task_core.specs.Word.{State}
use Rattle.task_core.specs.declared.acts.Act.{Act}
use Rattle.task_core.specs.declared.acts.Act.TheVariants.{BeginNotify, DropFuture, EmptySlots, EndCall, EndNotify, GiveUpLastReference, GiveUpReference, TakeAwaiter, Unschedule, WakeAwaiter}
use Rattle.task_cell.proofs.Moved.{did_then, stands}
use Rattle.task_cell.specs.Calls.{Did, DidWith, Fits, Stands, StandsWith}
use Rattle.task_cell.specs.RunPaths.{DiscardPath, DiscardStart, NotifyPath, ReleasePath, WakePath}
use Rattle.task_cell.specs.RunPaths as paths
use Rattle.task_exports.proofs.EndsCall.{IsEmptier}
use Rattle.task_exports.proofs.Numbers.{differs, joined}
use Rattle.task_exports.proofs.RunCall.{done_then, notify_done, release_done, took, wake_done}
use Rattle.task_exports.specs.Answers.{Discarded, GivesBack, GoesOn, empties}
use Rattle.task_exports.specs.Answers as answers
use Rattle.task_exports.specs.CallPaths.{Done, LeavesPath, WakesAndLeaves, leaves, wakes_and_leaves}
use Rattle.task_exports.specs.Hands.{IsGone, IsLive, IsLast}
use Rattle.task_exports.specs.Parties.{CellParty}
use Rattle.task_exports.specs.declared.hand.Hand.{Hand}
use Rattle.task_laws.specs.declared.positions.NotifyingCall.TheVariants.{OfDrop}
use Rattle.task_laws.specs.declared.positions.Position.TheVariants.{AwaiterInHand, Emptier, FutureGone, Releaser}
use Rattle.task_laws.specs.declared.positions.WithoutPoll.TheVariants.{DroppedRunnable}
use Rattle.task_steps.specs.Deeds.{act, row}
use Rattle.task_steps.specs.Rule.{Waits}
use Rattle.task_steps.specs.Standing.{as_ended}
use Rattle.task_steps.specs.Steps.{awaiter_first, work_first}
use Rattle.task_steps.specs.declared.table.Deed.{Deed}

-- the reference is given up after these deeds, and the call ends
abbrev pub Releases : List Deed → CellParty → CellParty → Type 0
Releases before p q = (r : List Deed) × ReleasePath r × Did (before ++ (r ++ act EndCall ∷ [])) as_ended p q

module _ (before : List Deed) (x k : Hand) where
  -- by the answer: others are left
  pub given_over : (n : ℕ) → GivesBack before x k n → n ≡ 1 → IsGone k × Stands as_ended k.party × Releases before x.party k.party
  given_over _ (answers.others w f gone d) e = (gone, stands _ _ _ _ _ d, (row GiveUpReference w ∷ [], paths.leaves_others w f, d))
  given_over _ (answers.none_left w answer y f live d) e = differs 9 1 refl refl e

  -- by the answer: it was the last handle
  pub given_last : (n : ℕ) → GivesBack before x k n → n ≡ 9 → IsLast k × IsEmptier false k.party × ((q : CellParty) → Did (empties false) as_ended k.party q → Releases before x.party q)
  given_last _ (answers.others w f gone d) e = differs 1 9 refl refl e
  given_last _ (answers.none_left w answer y f live d) e = (
    live,
    (None, answer, y, stands _ _ _ _ _ d, refl),
    λ q g. (
      row GiveUpLastReference w ∷ act EmptySlots ∷ [],
      paths.leaves_none w f,
      subst (λ (l : List Deed). Did l as_ended x.party q) (sym (joined before (row GiveUpLastReference w ∷ []) (empties false))) (did_then x.party k.party q _ (empties false) (Emptier None answer) as_ended (awaiter_first y []) [] d g),
    ),
  )

module _ (Woken : Type 0) where
  -- the rest of a drop whose future was dropped, after these deeds
  abbrev pub Leaves : Bool → List Deed → CellParty → CellParty → Type 0
  Leaves due before p q = (rest : List Deed) × LeavesPath Woken due rest × Did (before ++ rest) as_ended p q

  -- the rest of a drop that has the awaiter's place
  abbrev pub Takes : CellParty → CellParty → Type 0
  Takes p q = (path : List Deed) × WakesAndLeaves Woken path × Did path as_ended p q

  passes_on : (due : Bool) (before n : List Deed) (p q : CellParty) → NotifyPath due false n → Releases (before ++ n) p q → Leaves due before p q
  passes_on due before n p q np g = let more : List Deed = g.0 ++ act EndCall ∷ [] in (n ++ more, leaves due false n [] g.0 np paths.nobody g.1, subst (λ (l : List Deed). Did l as_ended p q) (sym (joined before n more)) g.2)

  module _ (x k : Hand) (due : Bool) (before : List Deed) where
    -- by the answer after the future was dropped: the call has ended
    pub left_over : (n : ℕ) → GoesOn OfDrop due before x k n → n ≡ 1 → IsGone k × Stands as_ended k.party × Leaves due before x.party k.party
    left_over _ (answers.takes w hand y is f live h d) e = differs 7 1 refl refl e
    left_over _ (answers.gives n r np g) e = let z = given_over (before ++ n) x k r g e in (z.0, z.1, passes_on due before n x.party k.party np z.2)

    -- by the answer: the reference was the last handle
    pub left_last : (n : ℕ) → GoesOn OfDrop due before x k n → n ≡ 9 → IsLast k × IsEmptier false k.party × ((q : CellParty) → Did (empties false) as_ended k.party q → Leaves due before x.party q)
    left_last _ (answers.takes w hand y is f live h d) e = differs 7 9 refl refl e
    left_last _ (answers.gives n r np g) e = let z = given_last (before ++ n) x k r g e in (z.0, z.1, λ q d. passes_on due before n x.party q np (z.2 q d))

    -- by the answer: the awaiter's place is the party's
    pub left_taking : (n : ℕ) → GoesOn OfDrop due before x k n → n ≡ 7
        → IsLive k × ((awaiter : Option ℕ) × (y : _) × StandsWith (Releaser awaiter OfDrop) (awaiter_first y []) k.party × Waits awaiter y) × ((q : CellParty) → Takes k.party q → Leaves due before x.party q)
    left_taking _ (answers.takes w hand y is f live h d) e = (live, (hand, y, stands _ _ _ _ _ d, h), λ q t. subst (λ b. Leaves b before x.party q) (sym is) (taking_leaves w hand y f d q t.0 t.1 t.2))
      where
        taking_leaves : (w : State) (hand : Option ℕ) (y : _) → Fits BeginNotify w → DidWith (before ++ row BeginNotify w ∷ act TakeAwaiter ∷ []) (Releaser hand OfDrop) (awaiter_first y []) x.party k.party → (q : CellParty) (path : List Deed) → WakesAndLeaves Woken path → Did path as_ended k.party q → Leaves true before x.party q
        taking_leaves w hand y f d q _ (wakes_and_leaves v taken l r wp rp) g = let past : List Deed = row EndNotify v ∷ (l ++ (r ++ act EndCall ∷ [])) in (
          row BeginNotify w ∷ act TakeAwaiter ∷ past,
          leaves true taken (row BeginNotify w ∷ act TakeAwaiter ∷ row EndNotify v ∷ []) l r (took w v f taken) wp rp,
          subst (λ (t : List Deed). Did t as_ended x.party q) (sym (joined before (row BeginNotify w ∷ act TakeAwaiter ∷ []) past))
              (did_then x.party k.party q _ past (Releaser hand OfDrop) as_ended (awaiter_first y []) [] d g),
        )
    left_taking _ (answers.gives n _ np (answers.others w f gone d)) e = differs 1 7 refl refl e
    left_taking _ (answers.gives n _ np (answers.none_left w answer y f live d)) e = differs 9 7 refl refl e

  module _ (x k : Hand) where
    -- by the answer after the awaiter was taken: nothing lay there, and the call has ended
    pub taken_over : (awaiter : Option ℕ) (n : ℕ) → Discarded x k awaiter n → n ≡ 1 → IsGone k × Stands as_ended k.party × Takes x.party k.party
    taken_over _ _ (answers.wakes_first v i live d) e = differs 14 1 refl refl e
    taken_over _ _ (answers.without_awaiter v r g) e = let z = given_over (row EndNotify v ∷ []) x k r g e in (z.0, z.1, (_, wakes_and_leaves v false [] z.2.0 paths.nobody z.2.1, z.2.2))

    -- by the answer: nothing lay there, and it was the last handle
    pub taken_last : (awaiter : Option ℕ) (n : ℕ) → Discarded x k awaiter n → n ≡ 9 → IsLast k × IsEmptier false k.party × ((q : CellParty) → Did (empties false) as_ended k.party q → Takes x.party q)
    taken_last _ _ (answers.wakes_first v i live d) e = differs 14 9 refl refl e
    taken_last _ _ (answers.without_awaiter v r g) e = let z = given_last (row EndNotify v ∷ []) x k r g e in (z.0, z.1, λ q d. let g : Releases (row EndNotify v ∷ []) x.party q = z.2 q d in (_, wakes_and_leaves v false [] g.0 paths.nobody g.1, g.2))

    -- by the answer: the awaiter is to be woken
    pub taken_wakes : (awaiter : Option ℕ) (n : ℕ) → Discarded x k awaiter n → n ≡ 14 → IsLive k × ((i : ℕ) × Stands (AwaiterInHand i OfDrop) k.party) × ((q : CellParty) → Woken × Releases (act WakeAwaiter ∷ []) k.party q → Takes x.party q)
    taken_wakes _ _ (answers.wakes_first v i live d) e = (
      live,
      (i, stands _ _ _ _ _ d),
      λ q g. (
        row EndNotify v ∷ act WakeAwaiter ∷ (g.1.0 ++ act EndCall ∷ []),
        wakes_and_leaves v true (act WakeAwaiter ∷ []) g.1.0 (paths.woken g.0) g.1.1,
        did_then x.party k.party q (row EndNotify v ∷ []) (act WakeAwaiter ∷ (g.1.0 ++ act EndCall ∷ [])) (AwaiterInHand i OfDrop) as_ended [] [] d g.1.2,
      ),
    )
    taken_wakes _ _ (answers.without_awaiter v _ (answers.others w f gone d)) e = differs 1 14 refl refl e
    taken_wakes _ _ (answers.without_awaiter v _ (answers.none_left w answer y f live d)) e = differs 9 14 refl refl e

  module _ (did : Act → Type 0) where
    -- the whole drop of a Runnable
    abbrev pub Discards : CellParty → CellParty → Type 0
    Discards p q = (path : List Deed) × DiscardPath Woken path × Done did path × Did path as_ended p q

    -- the whole drop, from its first deed and what came after the future was dropped
    pub discards : (x k q : CellParty) → ((d : Deed) × (y : _) × DiscardStart d × DidWith (d ∷ act DropFuture ∷ []) (FutureGone DroppedRunnable) (work_first y []) x k) → did DropFuture → ((w : State) × (rest : List Deed) × LeavesPath Woken w.awaiter rest × Did (row Unschedule w ∷ rest) as_ended k q) → Discards x q
    discards x k q s fact g = discards_by g.0 g.1 g.2 (did_then x k q (s.0 ∷ act DropFuture ∷ []) (row Unschedule g.0 ∷ g.1) (FutureGone DroppedRunnable) as_ended (work_first s.1 []) [] s.3 g.3)
      where
        start_done : (d : Deed) → DiscardStart d → (path : List Deed) → Done did path → Done did (d ∷ path)
        start_done _ (paths.found_open w e) path x = (tt, x)
        start_done _ (paths.found_closed w e) path x = (tt, x)

        discards_due : (w : State) (due : Bool) (rest : List Deed) → w.awaiter ≡ due → LeavesPath Woken due rest → Did (s.0 ∷ act DropFuture ∷ row Unschedule w ∷ rest) as_ended x q → Discards x q
        discards_due w due _ is (leaves _ taken n l r np wp rp) d = let more : List Deed = l ++ (r ++ act EndCall ∷ []) in (
          s.0 ∷ act DropFuture ∷ row Unschedule w ∷ (n ++ more),
          paths.discards s.0 w taken n l r s.2 (subst (λ b. NotifyPath b taken n) (sym is) np) wp rp,
          start_done s.0 s.2 (act DropFuture ∷ row Unschedule w ∷ (n ++ more))
              (fact, (tt, done_then did n more (notify_done did due taken n np) (done_then did l (r ++ act EndCall ∷ []) (wake_done did Woken taken l wp) (done_then did r (act EndCall ∷ []) (release_done did r rp) (tt, tt))))),
          d,
        )

        discards_by : (w : State) (rest : List Deed) → LeavesPath Woken w.awaiter rest → Did (s.0 ∷ act DropFuture ∷ row Unschedule w ∷ rest) as_ended x q → Discards x q
        discards_by w rest p d = discards_due w w.awaiter rest refl p d
