-- What the arguments of the program ask for.
use Rattle.std.specs.Prelude.{◌≡◌, ◌⊎◌, ℕ, List, [], ◌∷◌, String, string_bytes, codes, ⊤}
use Rattle.std.specs.declared.alloc.Global.{Global}

-- the arguments are this one word
abbrev pub IsWord : List ℕ → List (String Global) → Type 0
IsWord text [] = ⊥
IsWord text (word ∷ []) = string_bytes word ≡ text
IsWord text (word ∷ (other ∷ more)) = ⊥

-- the one word asks for each party in each row
abbrev pub AskForAll : List (String Global) → Type 0
AskForAll = IsWord (codes "--all")

-- the one word asks for how far each party is in its call
abbrev pub AskForProgress : List (String Global) → Type 0
AskForProgress = IsWord (codes "--progress")

-- the one word asks for what may be written
abbrev pub AskForHelp : List (String Global) → Type 0
AskForHelp = IsWord (codes "--help")

-- the arguments ask for a trace: there are none, or one of the two for each party
abbrev pub AskForTrace : List (String Global) → Type 0
AskForTrace [] = ⊤
AskForTrace (word ∷ more) = AskForAll (word ∷ more) ⊎ AskForProgress (word ∷ more)
