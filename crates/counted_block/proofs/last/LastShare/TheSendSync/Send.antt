use denote.RattleType.{RattleType}
use denote.Param.Send.{IsSend, IsSync, Frees}
use Rattle.std.specs.declared.alloc.Allocator as Alloc
use Rattle.counted_block.specs.declared.rule.BlockRule.{Ghosts}
use Rattle.counted_block.specs.contracts.last.LastShare.{the_row}
use Rattle.counted_block.specs.Blocks.{is_all, of_last}
use Rattle.counted_block.proofs.Sent.{owner_keyless}

pub send : (S W V K P T A : RattleType) (g : Ghosts P.Denot S.Denot W.Denot V.Denot K.Denot) (h : Alloc.Ghosts A.Denot) → IsSend S → IsSend W → IsSend T → IsSend A → IsSync T → IsSync A
    → Frees h h.dealloc_token → IsSend (the_row S W V K P T A g h)
send S W V K P T A g h ss sw s sa y ya f =
    record {
      owned = λ d vs. ((λ vss. (tt, (tt, ((λ uss. (tt, tt)), tt)))), owner_keyless S W T A h f ss sw s y V.coded.code (g.holds d.key) g.out d.heap d.id d.value d.at is_all of_last);
      leaving = λ k w vs. tt;
    }
