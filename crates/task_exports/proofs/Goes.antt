-- What the ends of calls come to, put together from their steps.
use Rattle.task_cell.proofs.Vocabulary.{◌≡◌, ℕ, Bool, true, false, List, [], ◌∷◌, ◌++◌, None, refl, ap, subst, Answer, Position, Emptier, GivingUp}
use Rattle.task_cell.proofs.Vocabulary.{GiveUpReference, GiveUpLastReference, EndCall, BeginNotify, MissNotify, TakeAwaiter, Releaser, Notifier, NotifyingCall, Deed, DidWith, Did, Stands, row, act, as_ended}
use Rattle.task_cell.proofs.Vocabulary.{limit_of, way_of, after_taking, awaiter_first}
use Rattle.task_cell.proofs.Moved as moved
use Rattle.task_cell.proofs.RunRest.{at_way}
use Rattle.task_cell.specs.Calls.{BeginsNotify, finds_another, takes_place}
use Rattle.task_cell.specs.RunPaths.{not_due, missed}
use Rattle.task_exports.specs.Hands.{IsLive}
use Rattle.task_exports.specs.Answers.{GivesBack, others, none_left, GoesOn, takes, gives, BeginsDue, is_past, GivesUpNext}
use Rattle.task_exports.specs.Answers as answers
use Rattle.task_exports.specs.declared.hand.Hand.{Hand}

joined : (a b c : List Deed) → a ++ (b ++ c) ≡ (a ++ b) ++ c
joined [] b c = refl
joined (d ∷ a) b c = ap (λ l. d ∷ l) (joined a b c)

-- the deeds of a call go on
pub gives_on : (before more : List Deed) (at : Position) (held : _) (x m k : Hand) (r : ℕ) → DidWith before at held x.party m.party → GivesBack more m k r → GivesBack (before ++ more) x k r
gives_on before more at held x m k _ g (others w f gone d) = let rest : List Deed = row GiveUpReference w ∷ act EndCall ∷ [] in
    others w f gone (subst (λ (l : List Deed). Did l as_ended x.party k.party) (joined before more rest) (moved.did_then x.party m.party k.party before (more ++ rest) at as_ended held [] g d))
gives_on before more at held x m k _ g (none_left w answer y f live d) = let rest : List Deed = row GiveUpLastReference w ∷ [] in
    none_left w answer y f live (subst (λ (l : List Deed). DidWith l (Emptier None answer) (awaiter_first y []) x.party k.party) (joined before more rest) (moved.did_then x.party m.party k.party before (more ++ rest) at (Emptier None answer) held (awaiter_first y []) g d))

pub goes_on : (way : NotifyingCall) (due : Bool) (before : List Deed) (at : Position) (held : _) (x m k : Hand) (r : ℕ) → DidWith before at held x.party m.party → GoesOn way due [] m k r → GoesOn way due before x k r
goes_on way due before at held x m k _ g (takes w hand y is f live waits d) = takes w hand y is f live waits (moved.did_then x.party m.party k.party before _ at _ held (awaiter_first y []) g d)
goes_on way due before at held x m k _ g (gives n r p b) = gives n r p (gives_on before n at held x m k r g b)

-- the awaiter's place was asked for, or nothing was due
pub begun_due : (way : NotifyingCall) (x k : Hand) (b : Bool) → Stands (Notifier way) x.party → BeginsNotify x.party k.party b → BeginsDue way true x k b
begun_due way x k true s (takes_place w hand y f h g) = answers.takes_place w hand y refl f h (subst (λ (z : NotifyingCall × _). DidWith (row BeginNotify w ∷ act TakeAwaiter ∷ []) (Releaser hand z.0) (awaiter_first y z.1) x.party k.party)
    (λ i. (ap way_of (moved.position_is x.party (Notifier way) [] s) i, moved.held_is x.party (Notifier way) [] s i)) g)
begun_due way x k false s (finds_another w f g) = is_past (row MissNotify w ∷ []) (missed w f) (at_way way None (row MissNotify w ∷ []) x.party k.party s g)

pub not_begun : (way : NotifyingCall) (x : Hand) → Stands (after_taking None way) x.party → BeginsDue way false x x false
not_begun way x s = is_past [] not_due (record { cell = refl; is = s })

-- past the awaiter, the reference is given up
pub past_gives_up : (way : NotifyingCall) (due : Bool) (x k : Hand) (b : Bool) → GivesUpNext way → BeginsDue way due x k b → b ≡ false → (answer : Answer) × Stands (GivingUp None answer) k.party
past_gives_up way due x k true up (answers.takes_place w hand y is f h g) e = absurd (cc)
past_gives_up way due x k false up (is_past n p g) e = (up.0, subst (λ at. Stands at k.party) up.1 (moved.stands x.party k.party n (after_taking None way) [] g))

pub past_goes_on : (way : NotifyingCall) (due : Bool) (x m k : Hand) (b : Bool) (r : ℕ) → BeginsDue way due x m b → b ≡ false → GivesBack [] m k r → GoesOn way due [] x k r
past_goes_on way due x m k true r (answers.takes_place w hand y is f h g) e back = absurd (cc)
past_goes_on way due x m k false r (is_past n p g) e back = gives n r p (subst (λ (l : List Deed). GivesBack l x k r) (ends_so n) (gives_on n [] (after_taking None way) [] x m k r g back))
  where
    ends_so : (l : List Deed) → l ++ [] ≡ l
    ends_so [] = refl
    ends_so (d ∷ l) = ap (λ r. d ∷ r) (ends_so l)

pub taken_goes_on : (way : NotifyingCall) (due : Bool) (x k : Hand) (b : Bool) → IsLive k → BeginsDue way due x k b → b ≡ true → GoesOn way due [] x k 7
taken_goes_on way due x k true live (answers.takes_place w hand y is f h g) e = takes w hand y is f live h g
taken_goes_on way due x k false live (is_past n p g) e = absurd (cc)

pub begun_lives : (x : Hand) (q : _) (b : Bool) → BeginsNotify x.party q b → (q.seat.block ≡ x.party.seat.block) × (limit_of q ≡ limit_of x.party)
begun_lives x q true (takes_place w hand y f h g) = (g.cell, moved.limit_is _ _ _ _ _ g)
begun_lives x q false (finds_another w f g) = (g.cell, moved.limit_is _ _ _ _ _ g)
