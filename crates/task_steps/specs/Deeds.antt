-- What a party does, as a list of deeds.
use Rattle.std.specs.Prelude.{List, [], ◌∷◌, Some, None}
use Rattle.task_core.specs.Word.{State}
use Rattle.task_core.specs.declared.acts.Act.{Act}
use Rattle.task_steps.specs.declared.table.Deed.{Deed}

-- a row or a load, with the word that it found
abbrev pub row : Act → State → Deed
row a w = record { act = a; found = Some w }

-- a private act
abbrev pub act : Act → Deed
act a = record { act = a; found = None }

-- a list of deeds, the newest first, after the deeds of a path, the oldest first
abbrev pub after : List Deed → List Deed → List Deed
after [] l = l
after (d ∷ path) l = after path (d ∷ l)
