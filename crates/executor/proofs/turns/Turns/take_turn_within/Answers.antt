use Rattle.std.proofs.Common.{rules}
use Rattle.executor.proofs.Hands.{handed-first}
use Rattle.executor.proofs.turns.Turns.take_turn_within.Goals as goal

pub returns-in-Some-clause-handed : goal.returns-in-Some-clause-handed
returns-in-Some-clause-handed g c = record {
  place = search rules;
  first = handed-first _ _ c.turn.result c.in-Some.due _ c.in-Some.is c.hand_out.ensures.inner c.turn.ensures.takes.first;
  hands = search rules;
}
