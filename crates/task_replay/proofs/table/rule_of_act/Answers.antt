use Rattle.std.proofs.Common.{◌∙◌, ap, sym}
use Rattle.std.specs.Option.{option_map}
use Rattle.task_replay.specs.Line.{line_of}
use Rattle.task_replay.specs.Replay.{scene_of, untold, outcome_of}
use Rattle.task_replay.proofs.Refused.{ruled, no_row, no_line}
use Rattle.task_replay.proofs.table.rule_of_act.Goals as goal

pub returns-in_err-line : goal.returns-in_err-line
returns-in_err-line c = ap untold (no_line (scene_of c.args.scene) c.args.act c.args.position (c.line_of.ensures ∙ ap (option_map line_of) c.in_err-line.was))
    ∙ sym (ap (option_map outcome_of) c.from_residual.ensures)

pub returns-in_err-written : goal.returns-in_err-written
returns-in_err-written c = no_row (scene_of c.args.scene) c.args.act c.args.position (sym c.by_row.ensures ∙ c.in_err-written.was)
    ∙ sym (ap (option_map outcome_of) c.from_residual-in_err-written.ensures)

pub returns : goal.returns
returns c = ruled (scene_of c.args.scene) c.args.act c.args.position (line_of c.in_ok-line.line) c.in_ok-written.written (c.line_of.ensures ∙ ap (option_map line_of) c.in_ok-line.was)
    (sym c.by_row.ensures ∙ c.in_ok-written.was) ∙ c.leaves.ensures
