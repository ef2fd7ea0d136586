use Rattle.task_cell.proofs.Vocabulary.{◌≡◌, HasLooked, HasSeen}
use Rattle.task_cell.proofs.attempt.Grip.attempt_some.Given as goal
use Rattle.task_core.specs.Word.{HasRoom}

abbrev pub invariant-loop-round : goal.invariant-loop-round
invariant-loop-round g l = record {
  cell : l.party.seat.block ≡ l.fn.party.seat.block;
  seat : l.party.seat.id ≡ l.fn.party.seat.id;
  same : (g.Self.Grip.id l.grip ≡ g.Self.Grip.id l.fn.self) × (g.Self.Grip.value l.grip ≡ g.Self.Grip.value l.fn.self) × (g.Self.Grip.key l.grip ≡ g.Self.Grip.key l.fn.self);
  room : HasRoom l.word;
  seeing : HasSeen l.word l.fn.party.seat.me l.party.seat.me;
  looked : HasLooked l.round l.fn.party.seat.me l.party.seat.me;
}
