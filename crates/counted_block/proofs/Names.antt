-- The names that the walks cite.
pub use Rattle.std.proofs.Common.{◌≡◌, ℕ, ◌+◌, ◌-◌, ◌%◌, ◌^◌, ◌<◌, eqb, List, [], ◌∷◌, ◌++◌, sym, refl, ap, ◌∙◌, subst, lit<, w64, Bool, true, false}
pub use mir.Syntax.{a_type, named, dcons, dnil}
pub use prog.Atomic.{either}
pub use mir.Val.{Val, vunit, vint, vptr, vstruct, vcons, vnil, of_list, has_ty, WT}
pub use mir.MapTy.{inst_fn}
pub use base.Fraction.{full_share}
pub use base.Stored.{Coded}
pub use base.Logic.{SProp, ent, sep, emp, all, all_e, via, id⊢, apply∗, fst∗, never}
pub use base.Fml.{Lft, Share, Fml, ftrue, fsep, fex, feq, flft, fhide, finv, fbor, fobs}
pub use types.Logic.{sem}
pub use types.Kit.{‵, raw, ◌⊛◌, some, given, later, mean, at_ret, ◌$◌, ◌∵◌, !, qed, by, move, keep, drop, split, split3, join, group, fsplit, fsplit3, fjoin, fjoin3, fpick, fpack}
pub use types.Kit.{pick, learn, use0, use1, use2, use3, await, rewrite, feq_i, feq_l, flt_i, suffices, done, Item}
pub use types.Run.{stop, fld, hop, load, addr, lit, of_opd, no_more, and_then, first, blocks, exec, Calls-last, returns, enter, unit_lit}
pub use types.ByLocal.{alloc_all, pass_all, free_all, look_at, get, get_in, through, sets, sets_last, lands_last, lands_as, is, env}
pub use types.Part.{agg, sub, whole, look_in}
pub use types.Tokens.{shr_bor-open, obor_close}
pub use types.Within.{tokens_halve}
pub use Rattle.counted_block.proofs.Counting.{halve}
pub use contract.Running.{tables}
pub use contract.Monad.{fact, fact_i}
pub use contract.BorrowLft.{◌⊑◌}
pub use denote.Exit.{yes, no}
pub use denote.RattleType.{RattleType, Valss, owns}
pub use denote.Signature.{types_at, plain}
pub use denote.RawPtr.{Ptr, InBlock, RawPtr, block_ptr, ptr_val, ◌+ₚ◌, null_ptr, in_a_block}
pub use denote.Steps.{nothing, only, heard, opens, closes}
pub use denote.Opens.{unhide, hide}
pub use denote.Memory.{part_at, hidden_shr, lone, mem}
pub use denote.Param.{Types, param, bounded, layout}
pub use denote.Param.Laws.{param_laws}
pub use denote.Builtin.{RefOf, RefMutOf, u64}
pub use denote.Ref.{shr_vals, shr_Tells, mut_vals, mut_Tells}
pub use denote.Plain.{uint_vals, uint_Tells}
pub use denote.Struct.Lending.{lent_at, Lends-first, Lends-lies, lent_at_shr_laws}
pub use denote.Triple.Entry.{alive}
pub use denote.Triple.Spec.{triple_of}
pub use denote.Triple.Walked.{Stays, stay_dropped, stay_ref, walk_of, Goes-dropped, Goes-ref, Goes-spent_ref}
pub use Rattle.std.proofs.VecSteps.Shapes.{after}
pub use Rattle.atomic_table.proofs.Walks.{proved, proved_at, leaves}
pub use Rattle.atomic_table.proofs.Calls.{picked, fm, seq_cst, found, finds, loads, adds, subs, swaps, ands, ors, exchanges}
pub use Rattle.atomic_table.specs.Table.{Me, step, rest, turned, opening, Allows, Enters, Splits, State, Final}
pub use Rattle.counted_block.specs.declared.place.Place.{Place}
pub use Rattle.counted_block.specs.Blocks.{BlockId, seat_owns, block, life, place, first_body, tracked, of_shares, gripped, parts, parts_if, words_in, word_of, Known, remains_if, hold_parts_if}
pub use Rattle.counted_block.specs.Counts.{Notes, Less, Same, More}
pub use Rattle.counted_block.specs.Held.{content, kept_of, value_there, slots_there, rebox, looked_at}
pub use Rattle.counted_block.proofs.Tokens.{tokens, seven, eight}
pub use Rattle.counted_block.proofs.Fields.{PairData, MarkerData, pair_told, pair_made, marker_made, LedgerData, ledger_lent}
pub use Rattle.counted_block.proofs.Fields.{located, numbered, Kind, share_kind, hold_kind, last_kind, Data, owner_row, lent_self, opens_self, closes_self, ptr_and_marker, marker_val, in_place}
pub use Rattle.counted_block.proofs.Fields.{ptr_typed, pair_typed}
pub use Rattle.counted_block.proofs.Lending.{kept_inv, kept_shows, kept_twice, owner_sees}
pub use types.SemTy.{Body}
pub use denote.Follow.{follows}
pub use denote.Struct.OwningLaws.{part_out}
pub use Rattle.core.proofs.atomic.Steps.{tail}
pub use Rattle.atomic_table.proofs.Through.{hands_out}
pub use Rattle.counted_block.specs.declared.place.Place.TheVariants.{First, Second}
pub use Rattle.counted_block.specs.Layout.{at_first, at_value, at_second}
pub use Rattle.counted_block.specs.Lent.{seat_with}
pub use Rattle.counted_block.proofs.Moving.{holding, Swapped, turns}
pub use mathlib.Core.Bool.{not}
pub use Rattle.counted_block.proofs.Calling.{bumps, left_behind}
pub use denote.SharingLaws.{contraction}
pub use Rattle.std.specs.Box.Ownership.{box_owns}
pub use Rattle.counted_block.proofs.Beginning.{first_counts, unnamed, begun, gathers}
pub use Rattle.counted_block.proofs.Boxing.{unboxes, reboxes}
pub use Rattle.std.specs.Prelude.{bit_or, bit_and}
pub use Rattle.core.proofs.mem.Param.{El, lawful, Good, one, opens_one}
pub use lib.Dec.{T}
pub use prog.Wp.{WpFn}
pub use denote.Triple.Call.{calls_at_last, calls_at}
pub use denote.Triple.Clauses.{Lasts, lasts}
pub use Rattle.std.proofs.alloc.Calls.{token, handle_tells, Goes-blank}
pub use Rattle.std.proofs.BoxSteps.Steps.{box_out, box_in}
pub use Rattle.atomic_table.proofs.Names.{layouts, assigns, look_raw, store_raw}
