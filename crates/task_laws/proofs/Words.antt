-- The word that a step leaves is the one that its act writes.
use Rattle.std.proofs.Common.{◌≡◌, Bool, Option, Some, None, arith}
use Rattle.task_laws.proofs.Vocabulary.{written, Position, Act, Scene, Outcome, rule, where_found, found}
use Rattle.task_laws.specs.Table.{leaves}
use Rattle.task_laws.specs.Line.{Line}
use Rattle.task_laws.specs.Lines.{line}

pub rule_word : (s : Scene) (act : Act) (p : Position) (o : Outcome) → rule s act p ≡ Some o → o.word ≡ written act s.word
rule_word s act p o e = by_line (found s.limit act s.word) (line act p) e
  where
    by_line : (b : Bool) (l : Option Line) → where_found b (leaves s (written act s.word) l) ≡ Some o → o.word ≡ written act s.word
    by_line b None e = grind arith
    by_line b (Some l) e = grind arith
