-- Attempts that are allowed, and some that are not.
use Rattle.std.specs.Prelude.{◌≡◌, ℕ, true, false, List, [], ◌∷◌, ◌++◌, Some, None, is_some, refl}
use Rattle.task_progress.proofs.Vocabulary.{GainReference, DropWaker, CancelBusy, TakeUpClosed, EndCall, opening}
use Rattle.task_progress.specs.Attempts.{Attempt, Looks, Makes, Misses, WithSeen, attempts_from, misses_of}

-- the Runnable has looked; the Task closes the task; the run's exchange misses, and then finds the task closed
abbrev race : List Attempt
race = Looks 0 ∷ Looks 1 ∷ Makes (record { party = 1; act = CancelBusy }) ∷ Misses 0 ∷ Makes (record { party = 0; act = TakeUpClosed }) ∷ []

abbrev nothing_seen : ℕ → WithSeen
nothing_seen limit = record { machine = opening limit; seen = λ i. None }

is_allowed : is_some (attempts_from (Some (nothing_seen 4)) race) ≡ true
is_allowed = refl

one_miss : misses_of 0 race ≡ 1
one_miss = refl

-- where nobody has written, no exchange misses; nor one of a party that has not looked
no_second : is_some (attempts_from (Some (nothing_seen 4)) (Looks 0 ∷ Looks 1 ∷ Makes (record { party = 1; act = CancelBusy }) ∷ Misses 0 ∷ Misses 0 ∷ [])) ≡ false
no_second = refl

no_cause : is_some (attempts_from (Some (nothing_seen 4)) (Looks 0 ∷ Misses 0 ∷ [])) ≡ false
no_cause = refl

not_looked : is_some (attempts_from (Some (nothing_seen 4)) (Makes (record { party = 1; act = CancelBusy }) ∷ Misses 0 ∷ [])) ≡ false
not_looked = refl

-- No bound on the misses of one party: while others gain and drop wakers again and again, its exchange may miss each time.
abbrev gains : ℕ → List Attempt
gains i = Makes (record { party = i; act = GainReference }) ∷ Makes (record { party = i; act = EndCall }) ∷ []

abbrev drops : ℕ → List Attempt
drops i = Makes (record { party = i; act = DropWaker }) ∷ Makes (record { party = i; act = EndCall }) ∷ []

abbrev starved : List Attempt
starved = gains 0 ++ (Looks 0 ∷ gains 3 ++ (Misses 0 ∷ drops 4 ++ (Misses 0 ∷ gains 3 ++ (Misses 0 ∷ drops 5 ++ (Misses 0 ∷ [])))))

is_starved : is_some (attempts_from (Some (nothing_seen 4)) starved) ≡ true
is_starved = refl

four_misses : misses_of 0 starved ≡ 4
four_misses = refl
