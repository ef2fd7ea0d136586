-- 3 of 6: what each row finds, and what it writes, by the constant ROWS.
use Rattle.std.specs.Prelude.{ℕ, ◌+◌, ◌-◌, Bool, true, false, not, ◌&&◌, ◌||◌, nat_lt, nat_le, nat_eq, Option, Some, None, if◌then◌else◌}
use Rattle.task_core.specs.Word.{State, orphan_word, is_open, with_flags, without_flags}
use Rattle.task_core.specs.Act.{Act}
use Rattle.task_core.specs.declared.table.Flag.{Flag}
use Rattle.task_core.specs.declared.table.Flag.TheVariants.{Scheduled, Running, Completed, Closed, TaskExists, Awaiter, Registering, Notifying}
use Rattle.task_core.specs.declared.table.Test.{Test}
use Rattle.task_core.specs.declared.table.Test.TheVariants.{Always, Is, Not, Open, Over, Busy, SlotBusy, NoOutput, BelowLimit, AtLimit, OthersLeft, LastHandle, NoReference, SomeReference}
use Rattle.task_core.specs.declared.table.Edit.{Edit}
use Rattle.task_core.specs.declared.table.Edit.TheVariants.{Keeps, Sets, Clears}
use Rattle.task_core.specs.declared.table.Count.{Count}
use Rattle.task_core.specs.declared.table.Count.TheVariants.{Stays, Adds, Takes, Orphans}
use Rattle.task_core.specs.declared.table.Row.{Row}
use Rattle.std.specs.List.{find}
use Rattle.task_core.specs.contracts.acts.ActPartialEq.TheImpl as act
use Rattle.task_core.specs.declared.table.TheConstants.{ROWS}

-- whether a flag is set
abbrev pub is_set : Flag → State → Bool
is_set Scheduled w = w.scheduled
is_set Running w = w.running
is_set Completed w = w.completed
is_set Closed w = w.closed
is_set TaskExists w = w.task
is_set Awaiter w = w.awaiter
is_set Registering w = w.registering
is_set Notifying w = w.notifying

-- its place in the number
abbrev pub mask_of : Flag → ℕ
mask_of Scheduled = 1
mask_of Running = 2
mask_of Completed = 4
mask_of Closed = 8
mask_of TaskExists = 16
mask_of Awaiter = 32
mask_of Registering = 64
mask_of Notifying = 128

-- what a test says of the word, where wakers are gained up to `limit` references
abbrev pub meets : ℕ → Test → State → Bool
meets limit Always w = true
meets limit (Is flag) w = is_set flag w
meets limit (Not flag) w = not (is_set flag w)
meets limit Open w = is_open w
meets limit Over w = not (is_open w)
meets limit Busy w = w.scheduled || w.running
meets limit SlotBusy w = w.notifying || w.registering
meets limit NoOutput w = not (w.completed && not w.closed)
meets limit BelowLimit w = nat_lt w.references limit
meets limit AtLimit w = nat_le limit w.references
meets limit OthersLeft w = nat_lt 1 w.references || w.task
meets limit LastHandle w = nat_eq w.references 1 && not w.task
meets limit NoReference w = nat_eq w.references 0
meets limit SomeReference w = nat_lt 0 w.references

-- the word after an edit of its flags
abbrev pub edited : Edit → State → State
edited Keeps w = w
edited (Sets flag) w = with_flags (mask_of flag) w
edited (Clears flag) w = without_flags (mask_of flag) w

-- the word after an edit of its count
abbrev pub counted : Count → State → State
counted Stays w = w
counted Adds w = record w { references = w.references + 1 }
counted Takes w = record w { references = w.references - 1 }
counted Orphans w = orphan_word

-- whether an edit changes anything
abbrev pub changes : Edit → Bool
changes Keeps = false
changes (Sets flag) = true
changes (Clears flag) = true

-- whether a row changes the count of references
abbrev pub recounts : Count → Bool
recounts Stays = false
recounts Adds = true
recounts Takes = true
recounts Orphans = true

-- whether a change of the count gains a reference
abbrev pub gains : Count → Bool
gains Adds = true
gains Stays = false
gains Takes = false
gains Orphans = false

-- a fact and one test more; Always adds nothing
abbrev pub and_meets : ℕ → Bool → Test → State → Bool
and_meets limit b Always w = b
and_meets limit b t w = b && meets limit t w

-- the three tests of a row
abbrev pub meets_all : ℕ → Test × Test × Test → State → Bool
meets_all limit t w = and_meets limit (and_meets limit (meets limit t.0 w) t.1 w) t.2 w

-- the four edits of a row
abbrev pub edit_all : Edit × Edit × Edit × Edit → State → State
edit_all e w = edited e.3 (edited e.2 (edited e.1 (edited e.0 w)))

-- the row of an act; a load and a private act have none
abbrev pub row_of : Act → Option Row
row_of a = find (λ (r : Row). act.ghosts.eq r.0 a) ROWS

-- what the row asks, and what it writes
abbrev pub found_by : ℕ → Option Row → State → Bool
found_by limit None w = true
found_by limit (Some r) w = meets_all limit r.1 w

-- the word that a row leaves
abbrev pub written_by : Option Row → State → State
written_by None w = w
written_by (Some r) w = counted r.3 (edit_all r.2 w)

-- whether a row has an edit of flags or count
abbrev pub writes_by : Option Row → Bool
writes_by None = false
writes_by (Some r) = changes r.2.0 || changes r.2.1 || changes r.2.2 || changes r.2.3 || recounts r.3

-- whether an act gains a reference
abbrev pub gains_by : Option Row → Bool
gains_by None = false
gains_by (Some r) = gains r.3

-- the word found by which a row may be made
abbrev pub found : ℕ → Act → State → Bool
found limit act w = found_by limit (row_of act) w

-- the word written; a load and a private act write nothing
abbrev pub written : Act → State → State
written act w = written_by (row_of act) w

-- whether the act is a row that writes the word
abbrev pub writes_word : Act → Bool
writes_word act = writes_by (row_of act)

-- the word written where the word found is the row's, and None where it is not
abbrev pub row : ℕ → Act → State → Option State
row limit act w = if found limit act w then Some (written act w) else None
