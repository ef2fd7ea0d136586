-- The names that the walks of what is lent share.
pub use Rattle.task_exports.proofs.Walks.{ !, List, ℕ, Fml, Item, Logic, Ura, ent, load, look, named, [], ◌∷◌, ◌≡◌, refl, proved, after, full_share, ftrue, fat, flft, froom, Ty, Val, fact, tables, ‵, raw, ◌⊛◌, some, at_ret, ◌$◌, ◌∵◌, qed, done, move, keep, drop, use0, use1, use2, split, join, fsplit, fjoin, feq_i, pick, rewrite, suffices, frame, group, enter, of_opd, stop, addr, from, forget, init, no_more, assigns, first, blocks, exec, returns, alloc_all, pass_all, free_all, look_at, get, through, sets, sets_last, take_at, give_at, env, yes, shows, Is, lone, Ptr, ptr_val, ty_ptr, rawptr_Lawful, RattleType, plain, nothing, heard, peeks, id⊢, Stays, walk_of, says, stay_dropped, ends_at, apply∗, wand, sep}
pub use base.Logic.{snd∗, ex_e}
pub use base.Before.{before}
pub use base.Fml.{Lft, Share, fsep, fdead}
pub use base.FractionLaws.{common}
pub use contract.BorrowLft.{meet_⊑_left, meet_⊑_right}
pub use types.Kit.{later, await, use3}
pub use types.Logic.{sem}
pub use types.Na.{before-Incl}
pub use types.Run.{and_then}
pub use types.ByLocal.{lands_as}
pub use types.Tokens.{lft_new, lft_end, lft-common}
pub use denote.Bor.{Bor}
pub use denote.RawPtr.{RawPtr, rawptr_vals, rawptr_Tells, block_of, count_of}
pub use denote.Ref.{shr_vals}
pub use denote.Memory.{shared_of}
pub use denote.Struct.Lending.{lent_at}
pub use denote.Triple.Call.{calls_at}
pub use denote.Triple.Clauses.{lasts, ensured}
pub use denote.Triple.Entry.{on_entry}
pub use denote.Triple.Spec.{triple_of}
pub use denote.Triple.Walked.{Goes-dropped}
pub use denote.Triple.Table.{framed}
pub use base.Logic.{emp}
pub use contract.Monad.{fact_i}
pub use types.Kit.{feq_l}
pub use denote.Builtin.{RefOf}
pub use denote.Ref.{shr_Tells}
