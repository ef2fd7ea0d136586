use Rattle.std.proofs.Common.{◌∙◌, ap, refl, None, true}
use Rattle.std.specs.Option.{option_map}
use Rattle.task_laws.specs.Table.{Slots}
use Rattle.task_replay.specs.Line.{line_of}
use Rattle.task_replay.proofs.Refused.{scene_with, no_line, never, made}
use Rattle.task_replay.proofs.refusal.is_made.Goals as goal

any_slots : Slots
any_slots = record { future = true; output = true; awaiter = None }

pub returns-in-Some-clause-made : goal.returns-in-Some-clause-made
returns-in-Some-clause-made c = λ e.
    made (scene_with 0 any_slots c.from_bits-word.result) c.args.act c.args.position (line_of c.in-Some.line) (c.line_of.ensures ∙ ap (option_map line_of) c.in-Some.is)
    (c.holds.ensures 0 any_slots ∙ e)

pub returns-in-Some-clause-never : goal.returns-in-Some-clause-never
returns-in-Some-clause-never c = λ e.
    never 0 any_slots c.from_bits-word.result c.args.act c.args.position (line_of c.in-Some.line) (c.from_bits-word.ensures ∙ refl)
    (c.line_of.ensures ∙ ap (option_map line_of) c.in-Some.is) (c.holds.ensures 0 any_slots ∙ e)

pub returns-in-None-clause-never : goal.returns-in-None-clause-never
returns-in-None-clause-never c = λ e s. no_line s c.args.act c.args.position (c.line_of.ensures ∙ ap (option_map line_of) c.in-None.is)
