-- 9 of 16: the table of moves, from where a party steps, and where it goes.
use Rattle.std.specs.Prelude.{Bool, Option, Some, None}
use Rattle.task_core.specs.Word.{State}
use Rattle.task_core.specs.Rows.{found, written}
use Rattle.task_laws.specs.Position.{Position, Act}
pub use Rattle.task_laws.specs.Scene.{Slots, Scene, Outcome, when, leaves_slots, changes_slots}
pub use Rattle.task_laws.specs.Onward.{after_taking, notifies, after_cancelling, after_handing_over, after_waking, after_giving_up}
pub use Rattle.task_laws.specs.Asks.{is_held, may_ask, may_gain, may_wake, may_drop, after_storing, first_look, second_look}
pub use Rattle.task_laws.specs.Line.{ended_clone, leaves}
use Rattle.task_laws.specs.Lines.{line}

-- The table: what the party may do, act by act, where v is the word that it writes; None where it may not.
abbrev pub outcome_at : Scene → State → Act → Position → Option Outcome
outcome_at s v act p = leaves s v (line act p)

-- a line of the table is taken where the word found is the row's
abbrev pub where_found : Bool → Option Outcome → Option Outcome
where_found b None = None
where_found b (Some o) = when b o

-- what a party leaves by an act, on a word that the act's row fits; None where it may not make it
abbrev pub rule : Scene → Act → Position → Option Outcome
rule s act p = where_found (found s.limit act s.word) (outcome_at s (written act s.word) act p)
