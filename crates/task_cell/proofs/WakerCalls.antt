-- A waker's drop, put together from its steps, and what answers of a waker's calls hold.
use Rattle.task_cell.proofs.Vocabulary.{◌≡◌, true, is_some, never, Option, Some, None, Result, Ok, Err, IfSome, IfOk, IfErr}
use Rattle.task_cell.proofs.Vocabulary.{false, List, [], ◌∷◌, ◌++◌, State, Nothing, Deliverer, OrphanHolder, ThenEnds, DropWaker, DropLastWaker, OrphanTask, CloseOrphan, EmptySlots}
use Rattle.task_cell.proofs.Vocabulary.{EndCall, HandOver, Deed, Party, Shared, Last, Did, row, act, as_ended, WakerDropPath, leaves_others, leaves_none, leaves_orphan, DropsWaker}
use Rattle.task_steps.specs.declared.found.Dropped.TheVariants.{Orphaned}
use Rattle.task_cell.proofs.Moved.{did_then}
use Rattle.task_cell.proofs.TaskCalls.{Empties, empties}

-- what an answer holds that is there
pub is_given : {X : Type 0} (P : X → Type 0) (r : Option X) → is_some r ≡ true → IfSome r P → (x : X) × P x
is_given P (Some x) e p = (x, p)
is_given P None e p = never e

-- what a clone says, of either answer
pub clone_says : {X Y : Type 0} (A B C : X → Type 0) (D : Type 0) (E : Y → Type 0) (r : Result X Y) → IfOk r A → IfOk r B → IfOk r C → IfOk r (λ _. D) → IfErr r E → IfOk r (λ x. A x × B x × C x × D) × IfErr r E
clone_says A B C D E (Ok x) a b c d e = ((a, b, c, d), e)
clone_says A B C D E (Err y) a b c d e = (a, e)

module _ {F T A : Type 0} where
  -- a waker's drop goes such a path
  abbrev pub DroppingWaker : Type 0 → Party F T A → Party F T A → Type 0
  DroppingWaker Scheduled p q = (path : List Deed) × WakerDropPath Scheduled path × Did path as_ended p q

  pub drops_shared : (Scheduled : Type 0) (p q : Party F T A) → DropsWaker p q Shared → DroppingWaker Scheduled p q
  drops_shared Scheduled p q x = (row DropWaker x.0 ∷ act EndCall ∷ [], leaves_others x.0 x.1, x.2)

  -- the last handle of a task that is over
  pub drops_last : (Scheduled : Type 0) (p q r : Party F T A) → DropsWaker p q Last → Empties q r → DroppingWaker Scheduled p r
  drops_last Scheduled p q r x e = (row DropLastWaker x.0 ∷ act EmptySlots ∷ act EndCall ∷ [], leaves_none x.0 x.2 x.3, empties p q r (row DropLastWaker x.0 ∷ []) x.1 x.4 e)

  -- the last handle of an open task
  pub orphan_closed : (p q r : Party F T A) (x : DropsWaker p q Orphaned) (y : (v : State) × Did (row CloseOrphan v ∷ []) (Deliverer false (ThenEnds Nothing)) q r) → Did (row OrphanTask x.0 ∷ row CloseOrphan y.0 ∷ []) (Deliverer false (ThenEnds Nothing)) p r
  orphan_closed p q r x y = did_then p q r (row OrphanTask x.0 ∷ []) (row CloseOrphan y.0 ∷ []) OrphanHolder (Deliverer false (ThenEnds Nothing)) [] [] x.3 y.1

  pub drops_orphaned : (Scheduled : Type 0) (p q r t : Party F T A) → DropsWaker p q Orphaned → (v : State) × Did (row CloseOrphan v ∷ []) (Deliverer false (ThenEnds Nothing)) q r → Scheduled
      → Did (act HandOver ∷ act EndCall ∷ []) as_ended r t → DroppingWaker Scheduled p t
  drops_orphaned Scheduled p q r t x y fact h = let path : List Deed = row OrphanTask x.0 ∷ row CloseOrphan y.0 ∷ [] in let more : List Deed = act HandOver ∷ act EndCall ∷ [] in
      (path ++ more, leaves_orphan x.0 y.0 x.1 x.2 fact, did_then p r t path more (Deliverer false (ThenEnds Nothing)) as_ended [] [] (orphan_closed p q r x y) h)
