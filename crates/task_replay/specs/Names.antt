-- How each act is written, by the constant NAMES.
use Rattle.std.specs.Prelude.{ℕ, List, [], map}
use Rattle.std.specs.List.{find}
use Rattle.std.specs.Option.{option_map_or}
use Rattle.task_core.specs.declared.acts.Act.{Act}
use Rattle.task_core.specs.contracts.acts.ActPartialEq.TheImpl as act
use Rattle.task_core.specs.declared.acts.TheConstants.{NAMES}

-- each act, and how it is written
abbrev pub entries : List (Act × List ℕ)
entries = map (λ entry. (entry.0, entry.1.now)) NAMES

-- how an act is written: the first entry says it
abbrev pub name_of : Act → List ℕ
name_of a = option_map_or (λ entry. entry.1) (find (λ entry. act.ghosts.eq entry.0 a) entries) []
