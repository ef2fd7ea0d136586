-- A claim about each scene, and how it splits by a flag, by the awaiter's slot or by the count of references.
use Rattle.std.proofs.Common.{◌≡◌, ℕ, zero, suc, Bool, true, false, refl, subst, Option, Some, None, arith}
use Rattle.std.proofs.lemmas.Bool.Decides.{nat_tests}
use Rattle.task_laws.specs.Table.{Scene}

pub ruleset rules = (arith, nat_tests)

pub record InEach (Claim : Scene → Type 0) : Type 0 where
  pub at : (scene : Scene) → Claim scene

-- a flag of the word
pub record Flag : Type 0 where
  pub value : Scene → Bool
  pub put : Bool → Scene → Scene
  pub same : (scene : Scene) → put (value scene) scene ≡ scene

abbrev pub scheduled : Flag
scheduled = record { value = λ scene. scene.word.scheduled; put = λ flag scene. record scene { word = record (scene.word) { scheduled = flag } }; same = λ scene. refl }

abbrev pub running : Flag
running = record { value = λ scene. scene.word.running; put = λ flag scene. record scene { word = record (scene.word) { running = flag } }; same = λ scene. refl }

abbrev pub completed : Flag
completed = record { value = λ scene. scene.word.completed; put = λ flag scene. record scene { word = record (scene.word) { completed = flag } }; same = λ scene. refl }

abbrev pub closed : Flag
closed = record { value = λ scene. scene.word.closed; put = λ flag scene. record scene { word = record (scene.word) { closed = flag } }; same = λ scene. refl }

abbrev pub task : Flag
task = record { value = λ scene. scene.word.task; put = λ flag scene. record scene { word = record (scene.word) { task = flag } }; same = λ scene. refl }

abbrev pub awaiter : Flag
awaiter = record { value = λ scene. scene.word.awaiter; put = λ flag scene. record scene { word = record (scene.word) { awaiter = flag } }; same = λ scene. refl }

abbrev pub registering : Flag
registering = record { value = λ scene. scene.word.registering; put = λ flag scene. record scene { word = record (scene.word) { registering = flag } }; same = λ scene. refl }

abbrev pub notifying : Flag
notifying = record { value = λ scene. scene.word.notifying; put = λ flag scene. record scene { word = record (scene.word) { notifying = flag } }; same = λ scene. refl }

-- where the flag is set, and where it is not
pub by_flag : {Claim : Scene → Type 0} (flag : Flag) → InEach (λ scene. Claim (flag.put true scene)) → InEach (λ scene. Claim (flag.put false scene)) → InEach Claim
by_flag {Claim} flag set clear = record { at = λ scene. subst Claim (flag.same scene) (at_value scene (flag.value scene)) }
  where
    at_value : (scene : Scene) (value : Bool) → Claim (flag.put value scene)
    at_value scene true = set.at scene
    at_value scene false = clear.at scene

abbrev pub with_awaiter : Option ℕ → Scene → Scene
with_awaiter slot scene = record scene { slots = record (scene.slots) { awaiter = slot } }

-- where the awaiter's slot is empty, and where it is not
pub by_slot : {Claim : Scene → Type 0} → InEach (λ scene. Claim (with_awaiter None scene)) → ((old : ℕ) → InEach (λ scene. Claim (with_awaiter (Some old) scene))) → InEach Claim
by_slot {Claim} empty full = record { at = λ scene. at_value scene scene.slots.awaiter }
  where
    at_value : (scene : Scene) (slot : Option ℕ) → Claim (with_awaiter slot scene)
    at_value scene None = empty.at scene
    at_value scene (Some old) = (full old).at scene

abbrev pub with_references : ℕ → Scene → Scene
with_references count scene = record scene { word = record (scene.word) { references = count } }

-- where no reference is counted, and where some are
pub by_references : {Claim : Scene → Type 0} → InEach (λ scene. Claim (with_references 0 scene)) → ((n : ℕ) → InEach (λ scene. Claim (with_references (suc n) scene))) → InEach Claim
by_references {Claim} none some = record { at = λ scene. at_value scene scene.word.references }
  where
    at_value : (scene : Scene) (count : ℕ) → Claim (with_references count scene)
    at_value scene zero = none.at scene
    at_value scene (suc n) = (some n).at scene
