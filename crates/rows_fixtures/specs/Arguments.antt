use Rattle.std.specs.Prelude.{◌≡◌, ◌⊎◌, ℕ, List, [], ◌∷◌, String, string_bytes, codes, ⊤}
use Rattle.std.specs.declared.alloc.Global.{Global}

-- the arguments are this one word
abbrev pub AreTheWord : List ℕ → List (String Global) → Type 0
AreTheWord text [] = ⊥
AreTheWord text (word ∷ []) = string_bytes word ≡ text
AreTheWord text (word ∷ (other ∷ more)) = ⊥

-- the arguments ask for rows: there are none, or there is one of two words
abbrev pub AskForRows : List (String Global) → Type 0
AskForRows [] = ⊤
AskForRows (word ∷ more) = AreTheWord (codes "threads") (word ∷ more) ⊎ AreTheWord (codes "all") (word ∷ more)

-- the arguments ask for what may be written
abbrev pub AskForHelp : List (String Global) → Type 0
AskForHelp args = AreTheWord (codes "--help") args
