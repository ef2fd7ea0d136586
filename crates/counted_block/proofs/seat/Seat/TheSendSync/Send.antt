use denote.RattleType.{RattleType}
use denote.Param.Send.{IsSend}
use Rattle.counted_block.specs.contracts.seat.Seat.{the_row}
use Rattle.counted_block.proofs.Sent.{seat_keyless}

pub send : (S W V : RattleType) → IsSend S → IsSend W → IsSend (the_row S W V)
send S W V s sw = record { owned = λ d vs. ((λ vss. (tt, ((λ uss. (tt, tt)), tt))), seat_keyless S W s sw d.block V.coded.code d.id d.me); leaving = λ k f vs. tt }
