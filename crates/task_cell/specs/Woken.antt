-- Which awaiter a call has woken.
use Rattle.task_steps.specs.declared.kept.StoredAwaiter.{StoredAwaiter}

-- an awaiter was woken that a poll has stored, under the number `stored_by`
abbrev pub WokeStored : {A K : Type 0} → (A → K → Type 0) → Type 0
WokeStored {A} {K} woken = (stored : StoredAwaiter A) × (told : K) × woken stored.awaiter told
