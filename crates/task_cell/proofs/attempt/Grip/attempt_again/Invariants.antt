use Rattle.task_cell.proofs.Vocabulary.{◌≡◌, HasSeen}
use Rattle.task_cell.proofs.attempt.Grip.attempt_again.Given as goal
use Rattle.task_core.specs.Word.{HasRoom}

abbrev pub invariant-loop : goal.invariant-loop
invariant-loop g l = record {
  cell : l.party.seat.block ≡ l.fn.party.seat.block;
  seat : l.party.seat.id ≡ l.fn.party.seat.id;
  same : (g.Self.Grip.id l.grip ≡ g.Self.Grip.id l.fn.self) × (g.Self.Grip.value l.grip ≡ g.Self.Grip.value l.fn.self) × (g.Self.Grip.key l.grip ≡ g.Self.Grip.key l.fn.self);
  room : HasRoom l.word;
  seeing : HasSeen l.word l.fn.party.seat.me l.party.seat.me;
}
