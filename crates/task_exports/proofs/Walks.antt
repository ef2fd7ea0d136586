-- The names that the walks of the places share.
pub use Rattle.std.proofs.Common.{◌≡◌, Bool, true, false, ℕ, List, [], ◌∷◌, ◌++◌, refl, sym, ap, ◌∙◌}
pub use Rattle.std.proofs.raw_atomic.Walks.{proved}
pub use Rattle.std.proofs.VecSteps.Shapes.{after}
pub use Rattle.std.proofs.alloc.Calls.{Goes-blank}
pub use base.Fraction.{full_share}
pub use base.Logic.{id⊢}
pub use base.Fml.{ftrue, fat, flft, froom}
pub use borrow.Table.OneValue.{part_out, part_in}
pub use mir.Syntax.{Ty, named}
pub use mir.Val.{Val, vunit}
pub use contract.Monad.{fact}
pub use contract.Running.{tables}
pub use types.Kit.{‵, raw, ◌⊛◌, some, at_ret, ◌$◌, ◌∵◌, !, qed, done, move, keep, use1, use2, split, join, fsplit, fsplit3, fjoin, feq_i, pick, rewrite, suffices, frame, group}
pub use types.Run.{enter, of_opd, load, look, stop, fld, first, blocks, exec, returns, unit_lit, init, assigns_last}
pub use types.ByLocal.{alloc_all, pass_all, free_all, look_at, get, through, sets, sets_last, env}
pub use types.Part.{whole, sub, look_in}
pub use denote.Exit.{yes, rest}
pub use denote.Laws.{shows, Is}
pub use denote.Memory.{cell_at, part_at, lone}
pub use denote.RawPtr.{Ptr, lies_at, room_at, in_a_block}
pub use denote.RattleType.{RattleType, Valss, owns}
pub use denote.Ref.{MutRef, mut_vals, mut_Tells}
pub use denote.Signature.{plain}
pub use denote.Steps.{nothing, opens, closes, heard, peeks}
pub use denote.Triple.Walked.{Stays, walk_of, says, stay_dropped, stay_ref, Goes-ref, ends_at}
pub use base.Fml.{Fml, feq, fleft, fsep}
pub use base.Logic.{apply∗, ent, sep, wand}
pub use denote.RawPtr.{ptr_val, rawptr_Lawful}
pub use denote.Shadow.{makes_shadow}
pub use denote.Struct.Owning.{shape}
pub use denote.Struct.Struct.{Struct}
pub use lib.Dec.{lit<}
pub use mir.Syntax.{Sym, ty_int, ty_ptr, ty_struct, tcons, tnil, w64}
pub use mir.Val.{of_list, vstruct, vcons, vnil}
pub use seplogic.Ra.Ura.{Ura}
pub use types.ByLocal.{get_in, take_at, give_at}
pub use types.Kit.{Item, mean, by, drop, fpick, fpack, split3, use0}
pub use types.Logic.{Logic}
pub use types.Part.{agg}
pub use types.Run.{addr, and_then, assigns, forget, from, lit, no_more}
