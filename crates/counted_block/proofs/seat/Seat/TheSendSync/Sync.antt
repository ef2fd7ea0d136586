use denote.RattleType.{RattleType}
use denote.Param.Send.{IsSend, IsSync, part_keyless}
use Rattle.counted_block.specs.contracts.seat.Seat.{the_row}
use Rattle.counted_block.proofs.seat.Seat.TheSendSync.Send.{send}

-- a `&` to a seat makes no step
pub sync : (S W V : RattleType) → IsSend S → IsSend W → IsSync (the_row S W V)
sync S W V s sw = record { shared = λ d b o ν q. part_keyless (the_row S W V) (send S W V s sw) q d b o }
