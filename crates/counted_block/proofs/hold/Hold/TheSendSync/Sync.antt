use denote.RattleType.{RattleType}
use denote.Param.Send.{IsSend, IsSync, Frees, sendable}
use denote.Struct.Struct.{Struct}
use denote.Struct.Owning.{shape}
use Rattle.std.specs.declared.alloc.Allocator as Alloc
use Rattle.counted_block.specs.declared.rule.BlockRule.{Ghosts}
use Rattle.counted_block.specs.contracts.hold.Hold.{the_row, the_type}
use Rattle.counted_block.specs.Blocks.{is_one, of_holds}
use Rattle.counted_block.proofs.Sent.{shown_keyless}

pub sync : (S W V K P T A : RattleType) (g : Ghosts P.Denot S.Denot W.Denot V.Denot K.Denot) (h : Alloc.Ghosts A.Denot) → IsSend S → IsSend W → IsSend T → IsSend A → IsSync T → IsSync A
    → Frees h h.dealloc_token → IsSync (the_row S W V K P T A g h)
sync S W V K P T A g h ss sw s sa y ya f = let fields : IsSync (Struct (shape (the_type S W V K P T A g h))) = search sendable depth 20 in
    record { shared = λ d b o ν. (fields.shared (d.at, (tt, tt)) b o ν, shown_keyless S W T A h f ss sw s y V.coded.code (g.holds d.key) g.out d.heap d.id d.value d.at is_one of_holds ν) }
