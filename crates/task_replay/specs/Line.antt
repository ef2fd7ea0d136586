-- The lines of the code, as the table has them.
use Rattle.std.specs.Prelude.{◌≡◌, ℕ, Bool, [], ◌∷◌, List, Option, Some, None}
use Rattle.task_core.specs.Word.{State}
use Rattle.task_laws.specs.Scene.{Slots}
use Rattle.task_laws.specs.declared.positions.Position.{Position}
use Rattle.task_laws.specs.Line as table
use Rattle.task_replay.specs.declared.line.Guard.{Guard}
use Rattle.task_replay.specs.declared.line.Guard.TheVariants as guard
use Rattle.task_replay.specs.declared.line.SlotEdit.{SlotEdit}
use Rattle.task_replay.specs.declared.line.SlotEdit.TheVariants as edit
use Rattle.task_replay.specs.declared.line.Next.{Next}
use Rattle.task_replay.specs.declared.line.Next.TheVariants as next
use Rattle.task_replay.specs.declared.line.Line.{Line}

-- what a line asks
abbrev pub guard_of : Guard → table.Guard
guard_of guard.Always = table.Always
guard_of guard.IsClaimed = table.IsClaimed
guard_of guard.IsClosed = table.IsClosed
guard_of guard.IsNotified = table.IsNotified
guard_of (guard.MayAsk r) = table.MayAsk r
guard_of (guard.MayGain r) = table.MayGain r
guard_of (guard.MayWake r) = table.MayWake r
guard_of (guard.MayDrop way) = table.MayDrop way

-- whether a guard holds where that word is found, whatever the limit and the slots are
abbrev pub HoldsAt : State → Guard → Bool → Type 0
HoldsAt w g b = (limit : ℕ) (slots : Slots) → table.holds (record { limit = limit; word = w; slots = slots }) (guard_of g) ≡ b

-- what it does to the slots
abbrev pub edit_of : SlotEdit → table.SlotEdit
edit_of edit.KeepsSlots = table.KeepsSlots
edit_of edit.DropsFuture = table.DropsFuture
edit_of edit.StoresOutput = table.StoresOutput
edit_of edit.EndsOutput = table.EndsOutput
edit_of edit.EmptiesAwaiter = table.EmptiesAwaiter
edit_of (edit.StoresAwaiter i) = table.StoresAwaiter i

-- where the party goes
abbrev pub next_of : Next → table.Next
next_of (next.MovesTo p) = table.MovesTo p
next_of (next.Notifies way) = table.Notifies way
next_of next.EndsRun = table.EndsRun
next_of next.EndsDetached = table.EndsDetached
next_of (next.Delivers n) = table.Delivers n
next_of (next.Answers n) = table.Answers n
next_of (next.LooksFirst i) = table.LooksFirst i
next_of (next.LooksAgain i) = table.LooksAgain i
next_of (next.StoresOver i) = table.StoresOver i
next_of (next.Releases way) = table.Releases way

-- a party, or none, as a list
abbrev pub listed : Option Position → List Position
listed None = []
listed (Some p) = p ∷ []

-- a line of the code tells nothing
abbrev pub line_of : Line → table.Line
line_of l = record { guard = guard_of l.0; slots = edit_of l.1; next = next_of l.2; born = listed l.3; told = []; also = table.NothingElse }

-- a line of the table, without what is told
abbrev pub bare : Option table.Line → Option table.Line
bare None = None
bare (Some l) = Some (record l { told = []; also = table.NothingElse })
