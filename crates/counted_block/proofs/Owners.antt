-- What a share, a hold and the last share do alike, by a reference to one, whose kind says which it is; and a fetch by a share. Assumes `Logic`.
use Rattle.counted_block.proofs.Names.{◌≡◌, ℕ, ◌+◌, List, [], ◌∷◌, sym, refl, named, Val, vptr, SProp, ent, emp, Lft, Fml, ftrue, flft, ‵, raw, ◌⊛◌, at_ret, ◌$◌}
use Rattle.counted_block.proofs.Names.{◌∵◌, !, qed, by, move, keep, drop, split, join, fsplit, fjoin, fjoin3, use0, use1, rewrite, feq_i, stop, hop, fld, addr, load, of_opd, first, blocks}
use Rattle.counted_block.proofs.Names.{exec, no_more, and_then, agg, returns, enter, alloc_all, pass_all, free_all, look_at, get, through, sets, env, sub, whole, look_in, tables, yes, RattleType}
use Rattle.counted_block.proofs.Names.{Ptr, owns, types_at, plain, nothing, param, RefOf, RefMutOf, shr_vals, shr_Tells, Stays, stay_dropped, lone, walk_of, Goes-dropped, after, proved, leaves}
use Rattle.counted_block.proofs.Names.{sets_last, hide, param_laws, ◌+ₚ◌, lent_at, lent_at_shr_laws, at_value, BlockId, place, content, looked_at, tokens, Kind, Data, owner_row, owner_sees}
use Rattle.counted_block.proofs.Names.{ptr_and_marker, false, subst, apply∗, all, all_e, sem, split3, fsplit3, use2, no, opens, closes, stay_ref, Goes-ref, shr_bor-open, obor_close, tokens_halve}
use Rattle.counted_block.proofs.Names.{assigns, look_raw, store_raw, tail, El, lawful, Good, one, opens_one, proved_at, Me, rest, Second, Place, at_second, life, tracked, seat_owns, holding}
use Rattle.counted_block.proofs.Names.{Swapped, sep, lent_self, opens_self, closes_self, ◌^◌, lit<, w64, vint, finv, mean, fpick, use3, via, flt_i, lit, Calls-last, lands_last, block_ptr}
use Rattle.counted_block.proofs.Names.{mut_vals, mut_Tells, fm, seq_cst, found, finds, u64, uint_vals, uint_Tells, step, Allows, block, Same, kept_inv, ptr_val, halve, of_shares, share_kind}
use Rattle.counted_block.proofs.Names.{◌++◌, Share, fsep, fex, gripped, located}
use seplogic.Ra.Ura.{Ura}
use types.Logic.{Logic}
use denote.Memory.{pointee}
use denote.Param.Laws.{Laws}
use prog.Wp.{Closed, WpFn}
use prog.Model.{Model}
use contract.Lifetimes.{Lfts, Outlives}
use contract.Running.{Running, MachineTables}
use denote.Triple.Clauses.{Ended, Clauses, closing, at_exit}
use denote.Triple.Entry.{Args, Res, on_entry}
use denote.Triple.Spec.{Meets}
use mir.Syntax as mir
use Rattle.std.specs.declared.alloc.Allocator as Alloc
use Rattle.counted_block.specs.declared.rule.BlockRule as BlockRule
use Rattle.counted_block.specs.contracts.inner.Inner as inner
use Rattle.std.specs.contracts.marker.PhantomData as phantom
use denote.Struct.Tuple.{Tuple}
use Rattle.counted_block.specs.contracts.seat.Seat as seat
use Rattle.counted_block.specs.contracts.share.MaybeShare as maybe_share
use Rattle.std.proofs.Common.{◌<◌, suc}
use Rattle.core.specs.Sync.RawAtomic.{asks, always}
use mathlib.Core.Option as maybe
use Rattle.counted_block.specs.declared.rule.BlockPlay as BlockPlay
use Rattle.counted_block.specs.contracts.share.Share as share
use Rattle.counted_block.proofs.Moving as moving
use Rattle.counted_block.specs.contracts.share.Share.fetch_or.{ended}
use Rattle.core.specs.contracts.atomic.Ordering as Order

-- what a step runs: it takes the word's address and an ordering, and calls c
module _ (share inner : mir.Ty) where
  -- r is where the answer goes, and ks what the call takes between the word's address and the ordering
  abbrev step_body : ℕ → List mir.Opd → mir.Callee → mir.Body
  step_body r ks c = mir.seq (mir.block (mir.seq (mir.assign (mir.place (suc r) []) (mir.addr_of (mir.place 1 (mir.deref share ∷ mir.field 0 ∷ mir.deref inner ∷ mir.field 0 ∷ []))))
      (mir.seq (mir.assign (mir.place (suc (suc r)) []) (mir.aggregate (mir.int mir.w8 4 ∷ [])))
      (mir.call c (mir.copy (mir.place (suc r) []) ∷ (ks ++ (mir.copy (mir.place (suc (suc r)) []) ∷ []))) (mir.place r [])))))
      (mir.seq (mir.assign (mir.place 0 []) (mir.rv_opd (mir.copy (mir.place r [])))) mir.return)

  abbrev fetch_locals : mir.Ty → mir.Ty → mir.Ty → List mir.Local
  fetch_locals own seat order = let one : mir.Ty → mir.Local = λ τ. mir.local τ mir.value_local in let number : mir.Local = one (mir.ty_int mir.w64) in
      number ∷ one (mir.ty_ref (mir.named 0) mir.imm own) ∷ one (mir.ty_ref (mir.named 1) mir.mut seat) ∷ number ∷ number ∷ one mir.ty_ptr ∷ one order ∷ []

module _ {M : Type 1} {𝓤 : Ura M} (𝓛 : Logic 𝓤) (𝓜 : Model 𝓤 𝓛.H) (𝓡 : Running 𝓤 𝓛.H 𝓜) (S₀ W₀ V₀ K₀ Y₀ T₀ A₀ : RattleType)
    (g : BlockRule.Ghosts Y₀.Denot S₀.Denot W₀.Denot V₀.Denot K₀.Denot) (h : Alloc.Ghosts A₀.Denot) where
  abbrev machine : MachineTables 𝓤 𝓛.H 𝓜
  machine = tables 𝓤 𝓛.H 𝓜 𝓡 𝓡.env

  abbrev R : RattleType
  R = param 5 T₀

  abbrev W : RattleType
  W = param 1 W₀

  abbrev SeatRow : RattleType
  SeatRow = seat.the_row (param 0 S₀) W (param 2 V₀)

  abbrev At : Type 0
  At = Me (Place S₀.Denot W₀.Denot) V₀.Denot

  abbrev local : mir.Ty → mir.Local
  local τ = mir.local τ mir.value_local

  module _ (kind : Kind (param 0 S₀) W (param 2 V₀) (param 3 K₀) (param 4 Y₀) R (param 6 A₀)) where
    abbrev OwnRow : RattleType
    OwnRow = owner_row (param 0 S₀) (param 1 W₀) (param 2 V₀) (param 3 K₀) (param 4 Y₀) R (param 6 A₀) g h kind

    abbrev D : RattleType
    D = Data (param 0 S₀) (param 1 W₀) (param 2 V₀) (param 3 K₀) (param 4 Y₀) R (param 6 A₀) g h kind

    -- a place behind the pointer of the reference in local 1
    abbrev behind : ℕ → mir.Place
    behind i = mir.place 1 (mir.deref (lone D.mir) ∷ mir.field 0 ∷ mir.deref (lone (inner.the_row (param 0 S₀) (param 1 W₀) R).mir) ∷ mir.field i ∷ [])

    abbrev own : mir.Ty
    own = mir.ty_ref (mir.named 0) mir.imm (pointee OwnRow.written)

    module _ (outlives : List (Outlives 8)) where
      abbrev value_promise : Ended
      value_promise = record {
        signature = record { lifetimes = 8; outlives = outlives; params = RefOf (0 ∷ []) tt (plain (λ _. OwnRow)) (λ _. tt) ∷ []; result = RefOf (0 ∷ []) tt (plain (λ _. R)) (λ _. tt) };
        kept = (yes, tt);
      }

      -- each shows the value
      abbrev value_routine : mir.Fn → mir.Fn
      value_routine one = record one {
        locals = local (mir.ty_ref (mir.named 0) mir.imm (pointee R.written)) ∷ local own ∷ local (mir.ty_ref mir.erased mir.imm (pointee R.written)) ∷ [];
        body = mir.seq (mir.block (mir.assign (mir.place 2 []) (mir.addr_of (behind 4)))) (mir.seq (mir.assign (mir.place 0 []) (mir.rv_opd (mir.copy (mir.place 2 [])))) mir.return);
      }

      pub value : Laws T₀ → (claims : Clauses 𝓤 value_promise) (one : mir.Fn) (self_name : mir.Callee) → Closed 𝓤 𝓛.H machine.C machine.Λ self_name (value_routine one)
          → ((κs : Lfts 8) (a : Args value_promise.signature κs) (gh : (claims κs a).ghost) (r : Res value_promise.signature κs) → r.now ≡ (kind.see a.0.now).value
          → ent 𝓤 (emp 𝓤) ((claims κs a).ensures gh r (at_exit value_promise κs a (tt, tt)))) → Meets 𝓛 value_promise.signature (machine.C self_name) (closing 𝓛 value_promise claims)
      value LT claims one self_name closed told =
          let S = param 0 S₀ in let V = param 2 V₀ in let K = param 3 K₀ in let Y = param 4 Y₀ in let A = param 6 A₀ in let routine = value_routine one in let self = RefOf (0 ∷
          []) tt (plain (λ _. OwnRow)) (λ _. tt) in let staying : Stays value_promise.signature.params value_promise.kept = (stay_dropped self yes, tt) in
          proved 𝓛 value_promise staying claims 𝓜 𝓡 (Goes-dropped 𝓛 8 self yes (λ κs x f. refl), tt) self_name routine closed (λ κs. (shr_vals, tt)) (λ κs.
          (shr_Tells (named 0) κs.0 OwnRow, tt)) (λ κs qs bounds a gh are. let self_block : ℕ = a.0.ref_ptr.0 in let self_offset : ℕ = a.0.ref_ptr.1 in let κ : Lft = κs.0 in
          let s = kind.see a.0.now in let x : R.Denot = s.value in let k = h.dealloc_token s.heap in let z : BlockId = s.id in let pb : ℕ = z.block in let e : ℕ = z.offset + at_value S W R in
          let Beside : Fml = tokens 7 κs.1 qs.1 in let start : (walk_of 𝓛 value_promise staying claims).Ghost = ((κs, qs, bounds, a, (vptr self_block self_offset ∷ [], tt)), gh) in
          let returned : Val → SProp 𝓤 = (walk_of 𝓛 value_promise staying claims).post start in qed 𝓛 (((‵ (flft κ qs.0) ⊛ ‵ Beside) ⊛
          ‵ (owns (types_at value_promise.signature.params κs) a start.0.4)) ∷ raw ((claims κs a).requires gh) ∷ []) ∵ keep ! (0 ∷ []) $ split ! $ split ! $ move ! (2 ∷ []) $
          fsplit ! $ fsplit ! $ keep ! (1 ∷ 3 ∷ 4 ∷ []) $ enter ! machine.C machine.Λ routine (vptr self_block self_offset ∷ []) returned $
          alloc_all ! (λ l. pass_all ! refl ((tt, tt), tt) $ let here = env routine.locals l in lent_self S W V K Y R A g h kind ! a.0.now self_block self_offset $
          use1 𝓛 (‵ (lent_at R (place z +ₚ at_value S W R) x κ)) (owner_sees S W V.coded.code (g.holds s.key) g.out (content S W R k z x) z (looked_at S W R k z x) (lent_at_shr_laws R
          (param_laws 5 T₀ LT).shr_laws (place z +ₚ at_value S W R) x) 𝓛 kind.much kind.grip κ) $ fsplit ! $ drop ! $ hide ! $ move ! (1 ∷ 2 ∷ []) $
          opens_self S W V K Y R A g h kind ! tt (place z) self_block self_offset (λ q. first ! $ blocks ! $ sets_last ! (addr ! (through ! refl (fld ! refl (hop ! (look_in ! 0 (sub ! 0 refl (whole
          !))) (fld ! refl (stop !)))))) refl (tt, tt) $ exec ! machine.C machine.Λ here (after 1 routine.body) (at_ret here returned) $ sets ! (of_opd ! (get ! refl)) refl (tt, tt) $
          closes_self S W V K Y R A g h kind ! tt q (place z) self_block self_offset $ move ! (0 ∷ 3 ∷ []) $ join ! $ move ! (2 ∷ []) $ feq_i ! (List Val) (vptr pb e ∷ []) (vptr pb e ∷
          []) refl $ fjoin ! $ let r : Res value_promise.signature κs = record { ref_ptr = (pb, e); now = x } in use0 𝓛 (raw ((claims κs a).ensures gh r (at_exit value_promise κs a (tt, tt))))
          (told κs a gh r refl) $ nothing ! $ nothing ! $ fjoin ! $ returns ! (look_at ! 0 refl) $ free_all ! refl $ keep ! (3 ∷ 0 ∷ 2 ∷ 1 ∷ []) $
          by ! (leaves 𝓛 value_promise staying claims start (vptr pb e) r (tt, tt) (tt, tt)))))

      abbrev MaybeRow : RattleType
      MaybeRow = maybe_share.the_row (param 0 S₀) (param 1 W₀) (param 2 V₀) (param 3 K₀) (param 4 Y₀) R (param 6 A₀) g h

      abbrev gone_promise : Ended
      gone_promise = record {
        signature = record { lifetimes = 8; outlives = outlives; params = RefOf (0 ∷ []) tt (plain (λ _. OwnRow)) (λ _. tt) ∷ []; result = plain (λ _. MaybeRow) };
        kept = (yes, tt);
      }

      -- each keeps what there is without a share, and copies where it lies
      abbrev gone_routine : mir.Fn → mir.Fn
      gone_routine one = record one {
        locals = local (lone MaybeRow.mir) ∷ local own ∷ local mir.ty_ptr ∷ local (lone (phantom.the_field (Tuple (param 2 V₀ ∷ param 3 K₀ ∷ param 4 Y₀ ∷ param 6 A₀ ∷
            []))).row.mir) ∷ [];
        body = mir.seq (mir.assign (mir.place 2 []) (mir.rv_opd (mir.copy (mir.place 1 (mir.deref (lone D.mir) ∷ mir.field 0 ∷ [])))))
            (mir.seq (mir.assign (mir.place 3 []) (mir.aggregate []))
            (mir.seq (mir.assign (mir.place 0 []) (mir.aggregate (mir.copy (mir.place 2 []) ∷ mir.copy (mir.place 3 []) ∷ []))) mir.return));
      }

      abbrev none_of : OwnRow.Denot → Ptr → MaybeRow.Denot
      none_of d p = let s = kind.see d in record { at = p; marker = s.marker; id = s.id; key = s.key; value = s.value; heap = s.heap; there = false; last = false }

      pub gone : (claims : Clauses 𝓤 gone_promise) (one : mir.Fn) (self_name : mir.Callee) → Closed 𝓤 𝓛.H machine.C machine.Λ self_name (gone_routine one)
          → ((κs : Lfts 8) (a : Args gone_promise.signature κs) (gh : (claims κs a).ghost) (p : Ptr)
          → ent 𝓤 (emp 𝓤) ((claims κs a).ensures gh (none_of a.0.now p) (at_exit gone_promise κs a (tt, tt)))) → Meets 𝓛 gone_promise.signature (machine.C self_name) (closing 𝓛
          gone_promise claims)
      gone claims one self_name closed told =
          let S = param 0 S₀ in let V = param 2 V₀ in let K = param 3 K₀ in let Y = param 4 Y₀ in let A = param 6 A₀ in let routine = gone_routine one in let self = RefOf (0 ∷
          []) tt (plain (λ _. OwnRow)) (λ _. tt) in let staying : Stays gone_promise.signature.params gone_promise.kept = (stay_dropped self yes, tt) in
          proved 𝓛 gone_promise staying claims 𝓜 𝓡 (Goes-dropped 𝓛 8 self yes (λ κs x f. refl), tt) self_name routine closed (λ κs. (shr_vals, tt)) (λ κs.
          (shr_Tells (named 0) κs.0 OwnRow, tt)) (λ κs qs bounds a gh are. let self_block : ℕ = a.0.ref_ptr.0 in let self_offset : ℕ = a.0.ref_ptr.1 in let κ : Lft = κs.0 in
          let s = kind.see a.0.now in let z : BlockId = s.id in let Beside : Fml = tokens 7 κs.1 qs.1 in let start : (walk_of 𝓛 gone_promise staying claims).Ghost =
          ((κs, qs, bounds, a, (vptr self_block self_offset ∷ [], tt)), gh) in let returned : Val → SProp 𝓤 = (walk_of 𝓛 gone_promise staying claims).post start in
          qed 𝓛 (((‵ (flft κ qs.0) ⊛ ‵ Beside) ⊛ ‵ (owns (types_at gone_promise.signature.params κs) a start.0.4)) ∷ raw ((claims κs a).requires gh) ∷ []) ∵ keep ! (0 ∷ []) $
          split ! $ split ! $ move ! (2 ∷ []) $ fsplit ! $ fsplit ! $ keep ! (1 ∷ 3 ∷ 4 ∷ []) $ enter ! machine.C machine.Λ routine (vptr self_block self_offset ∷ []) returned $
          alloc_all ! (λ l. pass_all ! refl ((tt, tt), tt) $ lent_self S W V K Y R A g h kind ! a.0.now self_block self_offset $ fsplit ! $ drop ! $ fsplit ! $
          -- [what is kept; the value; the fields; the token; the others]
          move ! (2 ∷ 3 ∷ []) $ opens_self S W V K Y R A g h kind ! tt (place z) self_block self_offset (λ q. sets ! (of_opd ! (load ! (through ! refl (fld ! refl (stop !))) (look_in ! 0 (sub !
          0 refl (whole !))))) refl (tt, tt) $ closes_self S W V K Y R A g h kind ! tt q (place z) self_block self_offset $ sets ! (agg ! (no_more !)) refl (tt, tt) $
          sets ! (agg ! (and_then ! (get ! refl) (and_then ! (get ! refl) (no_more !)))) refl (tt, (tt, (tt, tt))) $
          -- [the token; the fields; what is kept; the value; the others]
          nothing ! $ move ! (0 ∷ 3 ∷ 4 ∷ []) $ fjoin3 ! $ located ! (place z) z refl $
          -- [the result; the token; the fields; the others]
          move ! (1 ∷ 3 ∷ []) $ join ! $ nothing ! $ nothing ! $ fjoin ! $ let mh : MaybeRow.Denot = none_of a.0.now (place z) in use0 𝓛 (raw ((claims κs a).ensures gh mh (at_exit
          gone_promise κs a (tt, tt)))) (told κs a gh (place z)) $ returns ! (look_at ! 0 refl) $ free_all ! refl $ keep ! (2 ∷ 1 ∷ 3 ∷ 0 ∷ []) $
          by ! (leaves 𝓛 gone_promise staying claims start (ptr_and_marker (place z)) mh (tt, tt) (tt, tt)))))

    module _ (outlives : List (Outlives 9)) where
      abbrev swap_promise : Ended
      swap_promise = record {
        signature = record {
          lifetimes = 9;
          outlives = outlives;
          params = RefOf (0 ∷ []) tt (plain (λ _. OwnRow)) (λ _. tt) ∷ RefMutOf (1 ∷ []) tt (plain (λ _. SeatRow)) (λ _. tt) ∷ plain (λ _. W) ∷ [];
          result = plain (λ _. W);
        };
        kept = (yes, (yes, (no, tt)));
      }

      -- each reads and writes the slot 1, by the borrow that the seat has
      abbrev swap_routine : mir.Fn → mir.Fn
      swap_routine one = let τ : mir.Ty = lone W.mir in let at : mir.Place = mir.place 4 (mir.deref τ ∷ []) in let from = λ (p : mir.Place). mir.rv_opd (mir.copy p) in record one {
        locals = local τ ∷ local own ∷ local (mir.ty_ref (mir.named 1) mir.mut (pointee SeatRow.written)) ∷ local τ ∷ local mir.ty_ptr ∷ local τ ∷ local τ ∷ local τ ∷ [];
        body = mir.seq (mir.block (mir.seq (mir.assign (mir.place 4 []) (mir.addr_of (behind 3))) (mir.seq (mir.assign (mir.place 5 []) (from at))
            (mir.seq (mir.assign (mir.place 7 []) (from (mir.place 3 []))) (mir.seq (mir.assign at (from (mir.place 7 []))) (mir.assign (mir.place 6 []) (from (mir.place 5 []))))))))
            (mir.seq (mir.assign (mir.place 0 []) (from (mir.place 6 []))) mir.return);
      }

      module _ (claims : Clauses 𝓤 swap_promise) where
        abbrev pub Takes : At → W₀.Denot → Type 0
        Takes v old = v.1 ≡ (1, Second old) ∷ rest v.1

        abbrev pub SwapAsked : Type 2
        SwapAsked = (κs : Lfts 9) (a : Args swap_promise.signature κs) (gh : (claims κs a).ghost) (X G : SProp 𝓤)
            → (a.1.0.now.block ≡ (kind.see a.0.now).id → (old : W₀.Denot) × Takes a.1.0.now.me old → ent 𝓤 X G) → ent 𝓤 (sep 𝓤 X ((claims κs a).requires gh)) G

        abbrev pub SwapTold : Type 1
        SwapTold = (κs : Lfts 9) (a : Args swap_promise.signature κs) (gh : (claims κs a).ghost) (old : W₀.Denot) → a.1.0.now.block ≡ (kind.see a.0.now).id → Takes a.1.0.now.me old
            → let t : SeatRow.Denot = record { marker = a.1.0.now.marker; block = (kind.see a.0.now).id; id = a.1.0.now.id; me = (a.1.0.now.me.0, (1, Second a.1.1.0) ∷ rest a.1.0.now.me.1) } in
            ent 𝓤 (emp 𝓤) ((claims κs a).ensures gh old (at_exit swap_promise κs a (tt, (t, (tt, tt)))))

        pub swap_second : Laws W₀ → (one : mir.Fn) (self_name : mir.Callee) → Closed 𝓤 𝓛.H machine.C machine.Λ self_name (swap_routine one) → SwapAsked → SwapTold
            → Meets 𝓛 swap_promise.signature (machine.C self_name) (closing 𝓛 swap_promise claims)
        swap_second LW one_fn self_name closed asked told =
            let H = 𝓛.H in let S : RattleType = param 0 S₀ in let V = param 2 V₀ in let K = param 3 K₀ in let Y = param 4 Y₀ in let A = param 6 A₀ in let n : ℕ = 1 in
            let E : El = record { row = W₀; laws = LW } in let routine = swap_routine one_fn in let self = RefOf (0 ∷ []) tt (plain (λ _. OwnRow)) (λ _. tt) in
            let by_mut = plain (λ _. SeatRow) in let staying : Stays swap_promise.signature.params swap_promise.kept =
            (stay_dropped self yes, (stay_ref (1 ∷ []) tt by_mut, (stay_dropped (plain (λ _. W)) no, tt))) in proved_at 𝓛 swap_promise staying claims 𝓜 𝓡
            (Goes-dropped 𝓛 9 self yes (λ κs x f. refl), (Goes-ref 𝓛 9 1 tt by_mut, (Goes-dropped 𝓛 9 (plain (λ _. W)) no (λ κs x f. refl), tt))) self_name routine closed (λ y₀ are.
            let κs = y₀.0.0 in let qs = y₀.0.1 in let a = y₀.0.3 in let self_block : ℕ = a.0.ref_ptr.0 in let self_offset : ℕ = a.0.ref_ptr.1 in let κ : Lft = κs.0 in
            let s = kind.see a.0.now in let x : R.Denot = s.value in let k = h.dealloc_token s.heap in let z : BlockId = s.id in let α : Lft = life z in let seat_block : ℕ = a.1.0.ref_ptr.0 in
            let seat_offset : ℕ = a.1.0.ref_ptr.1 in let t : SeatRow.Denot = a.1.0.now in let id : ℕ = t.id in let v : At = t.me in let new : W.Denot = a.1.1.0 in
            let more : List (ℕ × Place S.Denot W.Denot) = rest v.1 in let pb : ℕ = z.block in let e : ℕ = z.offset + at_second S W in let got = one E y₀.0.4.1.1.0 ((lawful E 𝓛).typed new
            y₀.0.4.1.1.0 are.1.1.0) in let vy : Val = got.0 in let fy : Good E vy = got.2 in let Of : List Val × (List Val × (List Val × Unit {0})) →
            (walk_of 𝓛 swap_promise staying claims).Ghost = λ vss. ((κs, qs, y₀.0.2, a, vss), y₀.1) in let start : (walk_of 𝓛 swap_promise staying claims).Ghost = Of
            (vptr self_block self_offset ∷ [], (vptr seat_block seat_offset ∷ [], (vy ∷ [], tt))) in let returned : Val → SProp 𝓤 = (walk_of 𝓛 swap_promise staying claims).post start
            in let Beside : Fml = tokens 7 κs.1.1 qs.1.1 in subst (λ (vss : List Val × (List Val × (List Val × Unit {0}))). ent 𝓤 ((walk_of 𝓛 swap_promise staying claims).pre (Of vss))
            (WpFn 𝓤 H machine.C machine.Λ routine ((walk_of 𝓛 swap_promise staying claims).args (Of vss)) ((walk_of 𝓛 swap_promise staying claims).post (Of vss)))) (λ i.
            (sym are.0.0 i, (sym are.1.0.0 i, (sym got.1 i, tt)))) (asked κs a y₀.1 (on_entry 𝓛 swap_promise.signature κs qs a start.0.4) (WpFn 𝓤 H machine.C machine.Λ routine (vptr
            self_block self_offset ∷ vptr seat_block seat_offset ∷ vy ∷ []) returned) (λ same taken. let old : W.Denot = taken.0 in qed 𝓛 (((‵ (flft κs.0 qs.0) ⊛
            ‵ (flft κs.1.0 qs.1.0) ⊛ ‵ Beside) ⊛ ‵ (owns (types_at swap_promise.signature.params κs) a start.0.4)) ∷ []) ∵ split ! $ split3 ! $ move ! (3 ∷ []) $ fsplit ! $
            fsplit ! $ move ! (2 ∷ []) $ fsplit ! $ fsplit3 ! $ move ! (3 ∷ []) $ fsplit ! $ keep ! (6 ∷ 7 ∷ 3 ∷ 4 ∷ 8 ∷ 9 ∷ 0 ∷ []) $
            enter ! machine.C machine.Λ routine (vptr self_block self_offset ∷ vptr seat_block seat_offset ∷ vy ∷ []) returned $ alloc_all ! (λ l. pass_all ! refl
            ((tt, tt), ((tt, tt), (fy, tt))) $ let here = env routine.locals l in lent_self S W V K Y R A g h kind ! a.0.now self_block self_offset $ fsplit ! $ fsplit ! $ move ! (1 ∷ []) $
            drop ! $ move ! (1 ∷ []) $ drop ! $ move ! (1 ∷ 2 ∷ []) $ opens_self S W V K Y R A g h kind ! tt (place z) self_block self_offset (λ q. first ! $ blocks ! $
            sets ! (addr ! (through ! refl (fld ! refl (hop ! (look_in ! 0 (sub ! 0 refl (whole !))) (fld ! refl (stop !)))))) refl (tt, tt) $ closes_self S W V K Y R A g h kind ! tt q (place z)
            self_block self_offset $
            -- [the token; the fields; the age's token, lent; the seat, in two; its token; the others; the new value]
            move ! (2 ∷ 0 ∷ []) $ shr_bor-open ! tt (tokens_halve 𝓛 α) (λ r. move ! (3 ∷ 4 ∷ 5 ∷ []) $ opens ! tt SeatRow seat_block seat_offset (λ bits. move ! (1 ∷ []) $
            fsplit ! $ rewrite ! 1 (λ (u : BlockId). ‵ (seat_owns S W u V.coded.code id v)) same refl $ rewrite ! 1 (λ (cs : List (ℕ × Place S.Denot W.Denot)). ‵ (seat_owns S W z
            V.coded.code id (v.0, cs))) taken.1 refl $ move ! (1 ∷ []) $ let Back : Place S.Denot W.Denot → SProp 𝓤 = Swapped 𝓛 S W z V.coded.code id v.0 n more in
            use1 𝓛 (‵ (tracked S W z n (Second old)) ⊛ raw (all 𝓤 Back)) (holding 𝓛 S W z V.coded.code id v.0 n (Second old) more) $ split ! $ fsplit ! $
            -- [the slot's value; its borrow; the way back; the seat's fields, its cell and three more; the open token, in two; the fields; the others; the new value]
            move ! (0 ∷ 1 ∷ 9 ∷ []) $ opens_one E ! tt old pb e (λ vo tv. sets ! (of_opd ! (load ! (through ! refl (stop !)) (look_raw ! 0 refl))) refl tv $
            sets ! (of_opd ! (get ! refl)) refl fy $ assigns ! (of_opd ! (get ! refl)) (through ! refl (stop !)) (store_raw ! 0 refl fy) $ sets_last ! (of_opd ! (get ! refl)) refl tv $
            exec ! machine.C machine.Λ here (tail routine.body) (at_ret here returned) $ sets ! (of_opd ! (get ! refl)) refl tv $ move ! (0 ∷ 14 ∷ 2 ∷ 3 ∷ 4 ∷ []) $
            closes ! tt W new (vy ∷ []) pb e $
            -- [the slot's value; its borrow; the token; the old value; the way back; the seat's fields, ..]
            fjoin ! $ move ! (3 ∷ []) $ use1 𝓛 (raw (Back (Second new))) (all_e 𝓤 Back (Second new)) $ move ! (1 ∷ 0 ∷ []) $ let v' : At = (v.0, (n, Second new) ∷ more) in
            use2 𝓛 (‵ (seat_owns S W z V.coded.code id v')) (apply∗ 𝓤 (sem 𝓛 (tracked S W z n (Second new))) (sem 𝓛 (seat_owns S W z V.coded.code id v'))) $ move ! (8 ∷ 1 ∷ []) $
            obor_close ! tt $ drop ! $ let t' : SeatRow.Denot = record { marker = t.marker; block = z; id = id; me = v' } in
            -- [the token; the seat; the old value; the seat's fields, its cell and three more; the fields; the others]
            move ! (3 ∷ 1 ∷ []) $ fjoin ! $ move ! (3 ∷ 0 ∷ 4 ∷ 5 ∷ 6 ∷ []) $ closes ! tt SeatRow t' bits seat_block seat_offset $ feq_i ! (List Val) (vptr seat_block seat_offset ∷
            []) (vptr seat_block seat_offset ∷ []) refl $ fjoin3 ! $ nothing ! $ nothing ! $ fjoin ! $ move ! (1 ∷ 0 ∷ []) $ fjoin ! $ nothing ! $ fjoin ! $ move ! (1 ∷ 5 ∷ []) $ join ! $
            move ! (2 ∷ 0 ∷ []) $ join ! $ use0 𝓛 (raw ((claims κs a).ensures y₀.1 old (at_exit swap_promise κs a (tt, (t', (tt, tt)))))) (told κs a y₀.1 old same taken.1) $
            returns ! (look_at ! 0 refl) $ free_all ! refl $ keep ! (1 ∷ 2 ∷ 3 ∷ 0 ∷ []) $ by ! (leaves 𝓛 swap_promise staying claims start vo old (tt, (t', (tt, tt)))
            (tt, (tt, (tt, tt))))))))))))

    module _ (M₀ : RattleType) (m : BlockPlay.Ghosts M₀.Denot (Place S₀.Denot W₀.Denot) V₀.Denot K₀.Denot) (outlives : List (Outlives 10)) (shows : ℕ → Type 0) where
      abbrev load_promise : Ended
      load_promise = record {
        signature = record {
          lifetimes = 10;
          outlives = outlives;
          params = RefOf (0 ∷ []) tt (plain (λ _. OwnRow)) (λ _. tt) ∷ RefMutOf (1 ∷ []) tt (plain (λ _. SeatRow)) (λ _. tt) ∷ [];
          result = plain (λ _. u64);
        };
        kept = (yes, (yes, tt));
      }

      abbrev load_routine : mir.Fn → mir.Callee → mir.Fn
      load_routine one c = let number : mir.Local = local (mir.ty_int mir.w64) in record one {
        locals = number ∷ local own ∷ local (mir.ty_ref (mir.named 1) mir.mut (pointee SeatRow.written)) ∷ number ∷ local mir.ty_ptr
            ∷ local (lone Order.the_row.mir) ∷ [];
        body = step_body (lone OwnRow.mir) (lone (inner.the_row (param 0 S₀) W R).mir) 3 [] c;
      }

      module _ (claims : Clauses 𝓤 load_promise) where
        abbrev pub LoadAsked : Type 2
        LoadAsked = (κs : Lfts 10) (a : Args load_promise.signature κs) (gh : (claims κs a).ghost) (X G : SProp 𝓤)
            → (let s = kind.see a.0.now in let z = s.id in let holds = g.holds s.key in let f : ℕ → ℕ = λ n. n in let v = a.1.0.now.me in
            let then = m.then s.key (step 2 0 0 0 maybe.none) v in
            let P : Fml = content (param 0 S₀) (param 1 W₀) (param 5 T₀) (h.dealloc_token s.heap) z s.value in let cv = (param 2 V₀).coded in
            a.1.0.now.block ≡ z → (allows : Allows holds 2 a.1.0.now.id v 0 f then) → ((r : Share) → ent 𝓤 (sep 𝓤 (𝓛.A.inv (block (param 0 S₀) (param 1 W₀) cv.code holds g.out P
            z))
            (sep 𝓤 (sem 𝓛 (gripped z.grips kind.grip r)) (sem 𝓛 (seat_owns (param 0 S₀) (param 1 W₀) z cv.code a.1.0.now.id v)))) (asks 𝓛 (block_ptr z.block (z.offset + 0)) f always
            (moving.after 𝓛 (param 0 S₀) (param 1 W₀) cv holds g.out P z a.1.0.now.id v f then allows (λ n. fsep (fex (shows n) (λ _. ftrue)) (gripped z.grips kind.grip r))))) →
            ent 𝓤 X G)
            → ent 𝓤 (sep 𝓤 X ((claims κs a).requires gh)) G

        abbrev pub LoadTold : Type 1
        LoadTold = (κs : Lfts 10) (a : Args load_promise.signature κs) (gh : (claims κs a).ghost) (n : ℕ) (u : At) → let s = kind.see a.0.now in a.1.0.now.block ≡ s.id
            → m.then s.key (step 2 0 0 0 maybe.none) a.1.0.now.me n u → shows n → let t : SeatRow.Denot = record { marker = a.1.0.now.marker; block = s.id; id = a.1.0.now.id; me = u } in
            ent 𝓤 (emp 𝓤) ((claims κs a).ensures gh n (at_exit load_promise κs a (tt, (t, tt))))

        pub loaded : (one : mir.Fn) (c self_name : mir.Callee) → ((p : Ptr) (after : ℕ → Fml) → ent 𝓤 (asks 𝓛 p (λ n. n) always after) (machine.C c (ptr_val p ∷ seq_cst ∷ [])
            (λ v. mean 𝓛 (found after v)))) → Closed 𝓤 𝓛.H machine.C machine.Λ self_name (load_routine one c) → LoadAsked → LoadTold
            → Meets 𝓛 load_promise.signature (machine.C self_name) (closing 𝓛 load_promise claims)
        loaded one c self_name calls closed asked told =
            let H = 𝓛.H in let S : RattleType = param 0 S₀ in let V = param 2 V₀ in let K = param 3 K₀ in let Y = param 4 Y₀ in let A = param 6 A₀ in let code = load_routine one c in
            let self = RefOf (0 ∷ []) tt (plain (λ _. OwnRow)) (λ _. tt) in let by_mut = plain (λ _. SeatRow) in let staying : Stays load_promise.signature.params load_promise.kept =
            (stay_dropped self yes, (stay_ref (1 ∷ []) tt by_mut, tt)) in proved 𝓛 load_promise staying claims 𝓜 𝓡
            (Goes-dropped 𝓛 10 self yes (λ κs x f. refl), (Goes-ref 𝓛 10 1 tt by_mut, tt)) self_name code closed (λ κs. (shr_vals, (mut_vals, tt))) (λ κs.
            (shr_Tells (named 0) κs.0 OwnRow, (mut_Tells (named 1) κs.1.0 SeatRow, tt))) (λ κs qs bounds a gh are. let self_block : ℕ = a.0.ref_ptr.0 in
            let self_offset : ℕ = a.0.ref_ptr.1 in let κ : Lft = κs.0 in let s = kind.see a.0.now in let x : R.Denot = s.value in let k = h.dealloc_token s.heap in let z : BlockId = s.id in
            let seat_block : ℕ = a.1.0.ref_ptr.0 in let seat_offset : ℕ = a.1.0.ref_ptr.1 in let t : SeatRow.Denot = a.1.0.now in let id : ℕ = t.id in let v : At = t.me in let f : ℕ →
            ℕ = λ n. n in let then : ℕ → At → Type 0 = m.then s.key (step 2 0 0 0 maybe.none) v in let Beside : Fml = tokens 8 κs.1.1 qs.1.1 in let pb : ℕ = z.block in
            let e : ℕ = z.offset + 0 in let P : Fml = content S W R k z x in let holds = g.holds s.key in let J : Fml = block S W V.coded.code holds g.out P z in
            let start : (walk_of 𝓛 load_promise staying claims).Ghost = ((κs, qs, bounds, a, (vptr self_block self_offset ∷ [], (vptr seat_block seat_offset ∷ [], tt))), gh) in
            let returned : Val → SProp 𝓤 = (walk_of 𝓛 load_promise staying claims).post start in asked κs a gh (on_entry 𝓛 load_promise.signature κs qs a start.0.4) (WpFn 𝓤 H
            machine.C machine.Λ code (vptr self_block self_offset ∷ vptr seat_block seat_offset ∷ []) returned) (λ same allows looks. qed 𝓛 (((‵ (flft κ qs.0) ⊛
            ‵ (flft κs.1.0 qs.1.0) ⊛ ‵ Beside) ⊛ ‵ (owns (types_at load_promise.signature.params κs) a start.0.4)) ∷ []) ∵ split ! $ split3 ! $ move ! (3 ∷ []) $ fsplit3 ! $
            fsplit ! $ move ! (2 ∷ []) $ fsplit3 ! $ keep ! (4 ∷ 6 ∷ 1 ∷ 2 ∷ 7 ∷ 8 ∷ []) $ enter ! machine.C machine.Λ code (vptr self_block self_offset ∷
            vptr seat_block seat_offset ∷ []) returned $ alloc_all ! (λ l. pass_all ! refl ((tt, tt), ((tt, tt), tt)) $ let here = env code.locals l in
            lent_self S W V K Y R A g h kind ! a.0.now self_block self_offset $ fsplit ! $ fsplit ! $ move ! (2 ∷ []) $ fsplit ! $ use1 𝓛 (‵ (finv J)) (kept_inv S W V.coded.code holds g.out P
            z 𝓛) $
            -- [the invariant; the value; the two tokens, lent; the fields; the token; the seat, in two; its token; the others]
            move ! (1 ∷ []) $ drop ! $ move ! (1 ∷ []) $ drop ! $ move ! (2 ∷ 3 ∷ 1 ∷ []) $ opens_self S W V K Y R A g h kind ! tt (place z) self_block self_offset (λ q. first ! $
            blocks ! $ sets ! (addr ! (through ! refl (fld ! refl (hop ! (look_in ! 0 (sub ! 0 refl (whole !))) (fld ! refl (stop !)))))) refl (tt, tt) $
            closes_self S W V K Y R A g h kind ! tt q (place z) self_block self_offset $
            -- [the token; the fields; the grips, lent; the invariant; the seat, in two; its token; the others]
            move ! (2 ∷ 0 ∷ []) $ shr_bor-open ! tt (halve 𝓛 z.grips kind.grip) (λ r. let out : ℕ → Fml = moving.after 𝓛 S W V.coded holds g.out P z id v f then allows (λ n. fsep
            (fex (shows n) (λ _. ftrue)) (gripped z.grips kind.grip r)) in move ! (4 ∷ 5 ∷ 6 ∷ []) $ opens ! tt SeatRow seat_block seat_offset (λ bits. move ! (1 ∷ []) $ fsplit ! $
            rewrite ! 1 (λ (w : BlockId). ‵ (seat_owns S W w V.coded.code id v)) same refl $ move ! (9 ∷ 7 ∷ 1 ∷ []) $ use3 𝓛 (raw (machine.C _ (vptr pb e ∷ seq_cst ∷
            []) (λ u. mean 𝓛 (found out u)))) (via 𝓤 _ (looks r) (calls (block_ptr pb e) out)) $ sets ! (agg ! (and_then ! (lit ! tt) (no_more !))) refl (tt, (record { fits = lit< tt }, tt))
            $ Calls-last ! (fm 𝓛 𝓜 𝓡) (found out) (and_then ! (get ! refl) (and_then ! (get ! refl) (no_more !))) (λ u. finds ! out (λ n fits. lands_last ! refl
            (tt, record { fits = fits }) $ exec ! machine.C machine.Λ here (after 1 code.body) (at_ret here returned) $ sets ! (of_opd ! (get ! refl)) refl (tt, record { fits = fits }) $ fsplit ! $
            fsplit ! $ fpick ! (λ live. drop ! $ move ! (7 ∷ 0 ∷ []) $ obor_close ! tt $ drop ! $ move ! (1 ∷ []) $ fpick ! (λ v'. fsplit ! $ fpick ! (λ so. drop ! $
            let t' : SeatRow.Denot = record { marker = t.marker; block = z; id = id; me = v' } in move ! (2 ∷ 0 ∷ []) $ fjoin ! $ move ! (2 ∷ 0 ∷ 3 ∷ 4 ∷ 5 ∷ []) $
            closes ! tt SeatRow t' bits seat_block seat_offset $ feq_i ! (List Val) (vptr seat_block seat_offset ∷ []) (vptr seat_block seat_offset ∷ []) refl $ fjoin3 ! $ nothing ! $
            move ! (1 ∷ 0 ∷ []) $ fjoin ! $ nothing ! $ fjoin ! $ move ! (1 ∷ 4 ∷ []) $ join ! $ move ! (2 ∷ 0 ∷ []) $ join ! $ use0 𝓛 (raw ((claims κs a).ensures gh n (at_exit
            load_promise κs a (tt, (t', tt))))) (told κs a gh n v' same so live) $ flt_i ! n (2 ^ 64) fits $ feq_i ! (List Val) (vint w64 n ∷ []) (vint w64 n ∷ []) refl $ fjoin ! $
            returns ! (look_at ! 0 refl) $ free_all ! refl $ keep ! (2 ∷ 3 ∷ 0 ∷ 1 ∷ []) $ by ! (leaves 𝓛 load_promise staying claims start (vint w64 n) n (tt, (t', tt))
            (tt, (tt, tt))))))))))))))

  module _ (M₀ : RattleType) (d dh dd : mir.Dict) (m : BlockPlay.Ghosts M₀.Denot (Place S₀.Denot W₀.Denot) V₀.Denot K₀.Denot) (dm : mir.Dict) where
    abbrev promise : Ended
    promise = ended S₀ W₀ V₀ K₀ Y₀ T₀ A₀ M₀ g d h dh dd m dm

    abbrev routine : mir.Fn → mir.Callee → mir.Fn
    routine one c = let S : RattleType = param 0 S₀ in let R : RattleType = param 5 T₀ in
        let own : RattleType = share.the_row S W (param 2 V₀) (param 3 K₀) (param 4 Y₀) R (param 6 A₀) g h in let there : mir.Ty = lone own.mir in
        let within : mir.Ty = lone (inner.the_row S W R).mir in
        record one { locals = fetch_locals there within (pointee own.written) (pointee SeatRow.written) (lone Order.the_row.mir); body = step_body there within 4 (mir.copy (mir.place 3 []) ∷ []) c }

    module _ (does : ℕ → ℕ → ℕ) (claims : Clauses 𝓤 promise) where
      -- what the clauses require and ensure
      abbrev pub Asked : Type 2
      Asked = (κs : Lfts 10) (a : Args promise.signature κs) (gh : (claims κs a).ghost) (X G : SProp 𝓤)
          → (a.1.0.now.block ≡ a.0.now.id → Allows (g.holds a.0.now.key) 2 a.1.0.now.id a.1.0.now.me 0 (does a.1.1.0) (m.then a.0.now.key (step 2 0 a.1.1.0 0 maybe.none) a.1.0.now.me)
          → Same (g.holds a.0.now.key) g.out a.1.0.now.id a.1.0.now.me.0 (does a.1.1.0) → ent 𝓤 X G) → ent 𝓤 (sep 𝓤 X ((claims κs a).requires gh)) G

      abbrev pub Told : Type 1
      Told = (κs : Lfts 10) (a : Args promise.signature κs) (gh : (claims κs a).ghost) (n : ℕ) (u : At) → a.1.0.now.block ≡ a.0.now.id
          → m.then a.0.now.key (step 2 0 a.1.1.0 0 maybe.none) a.1.0.now.me n u → 0 < g.out n → let t : SeatRow.Denot = record {
            marker = a.1.0.now.marker;
            block = a.0.now.id;
            id =
                a.1.0.now.id;
            me = u;
          } in
          ent 𝓤 (emp 𝓤) ((claims κs a).ensures gh n (at_exit promise κs a (tt, (t, (tt, tt)))))

      pub fetched : (one : mir.Fn) (c self_name : mir.Callee) → ((p : Ptr) (w : ℕ) → w < 2 ^ 64 → (after : ℕ → Fml)
          → ent 𝓤 (asks 𝓛 p (does w) always after) (machine.C c (ptr_val p ∷ vint w64 w ∷ seq_cst ∷ []) (λ v. mean 𝓛 (found after v))))
          → Closed 𝓤 𝓛.H machine.C machine.Λ self_name (routine one c) → Asked → Told → Meets 𝓛 promise.signature (machine.C self_name) (closing 𝓛 promise claims)
      fetched one c self_name calls closed asked told =
          let H = 𝓛.H in let S : RattleType = param 0 S₀ in let V = param 2 V₀ in let K = param 3 K₀ in let Y = param 4 Y₀ in let A = param 6 A₀ in
          let OwnRow : RattleType = share.the_row S W V K Y R A g h in let I = share_kind S W V K Y R A g h in let self = RefOf (0 ∷ []) tt (plain (λ _. OwnRow)) (λ _. tt) in
          let by_mut = plain (λ _. SeatRow) in let number = plain (λ _. u64) in let staying : Stays promise.signature.params promise.kept =
          (stay_dropped self yes, (stay_ref (1 ∷ []) tt by_mut, (stay_dropped number yes, tt))) in proved 𝓛 promise staying claims 𝓜 𝓡
          (Goes-dropped 𝓛 10 self yes (λ κs x f. refl), (Goes-ref 𝓛 10 1 tt by_mut, (Goes-dropped 𝓛 10 number yes (λ κs x f. refl), tt))) self_name (routine one c) closed (λ κs.
          (shr_vals, (mut_vals, (uint_vals w64, tt)))) (λ κs. (shr_Tells (named 0) κs.0 OwnRow, (mut_Tells (named 1) κs.1.0 SeatRow, (uint_Tells w64, tt)))) (λ κs qs bounds a gh are. let
          self_block : ℕ = a.0.ref_ptr.0 in let self_offset : ℕ = a.0.ref_ptr.1 in let κ : Lft = κs.0 in let s : OwnRow.Denot = a.0.now in let x : R.Denot = s.value in
          let k = h.dealloc_token s.heap in let z : BlockId = s.id in let seat_block : ℕ = a.1.0.ref_ptr.0 in let seat_offset : ℕ = a.1.0.ref_ptr.1 in let t : SeatRow.Denot = a.1.0.now in
          let id : ℕ = t.id in let v : At = t.me in let w : ℕ = a.1.1.0 in let f : ℕ → ℕ = does w in let then : ℕ → At → Type 0 = m.then a.0.now.key (step 2 0 w 0 maybe.none) v in
          let Beside : Fml = tokens 8 κs.1.1 qs.1.1 in let pb : ℕ = z.block in let e : ℕ = z.offset + 0 in let P : Fml = content S W R k z x in let holds = g.holds s.key in
          let J : Fml = block S W V.coded.code holds g.out P z in let start : (walk_of 𝓛 promise staying claims).Ghost =
          ((κs, qs, bounds, a, (vptr self_block self_offset ∷ [], (vptr seat_block seat_offset ∷ [], (vint w64 w ∷ [], tt)))), gh) in let returned : Val →
          SProp 𝓤 = (walk_of 𝓛 promise staying claims).post start in asked κs a gh (on_entry 𝓛 promise.signature κs qs a start.0.4) (WpFn 𝓤 H machine.C machine.Λ (routine one c) (vptr
          self_block self_offset ∷ vptr seat_block seat_offset ∷ vint w64 w ∷ []) returned) (λ same allows counted. qed 𝓛 (((‵ (flft κ qs.0) ⊛ ‵ (flft κs.1.0 qs.1.0) ⊛
          ‵ Beside) ⊛ ‵ (owns (types_at promise.signature.params κs) a start.0.4)) ∷ []) ∵ split ! $ split3 ! $ move ! (3 ∷ []) $ fsplit3 ! $ fsplit ! $ move ! (2 ∷ []) $ fsplit3 ! $
          keep ! (4 ∷ 6 ∷ 1 ∷ 2 ∷ 7 ∷ 8 ∷ []) $ enter ! machine.C machine.Λ (routine one c) (vptr self_block self_offset ∷ vptr seat_block seat_offset ∷ vint w64 w ∷
          []) returned $ alloc_all ! (λ l. pass_all ! refl ((tt, tt), ((tt, tt), ((tt, record { fits = are.1.1.0.1 }), tt))) $ let here = env (routine one c).locals l in
          lent_self S W V K Y R A g h I ! s self_block self_offset $ fsplit ! $ fsplit ! $ move ! (2 ∷ []) $ fsplit ! $ use1 𝓛 (‵ (finv J)) (kept_inv S W V.coded.code holds g.out P z 𝓛) $
          -- [the invariant; the value; the two tokens, lent; the fields; the token; the seat, in two; its token; the others]
          move ! (1 ∷ []) $ drop ! $ move ! (1 ∷ []) $ drop ! $ move ! (2 ∷ 3 ∷ 1 ∷ []) $ opens_self S W V K Y R A g h I ! tt (place z) self_block self_offset (λ q. first ! $ blocks ! $
          sets ! (addr ! (through ! refl (fld ! refl (hop ! (look_in ! 0 (sub ! 0 refl (whole !))) (fld ! refl (stop !)))))) refl (tt, tt) $ closes_self S W V K Y R A g h I ! tt q (place z)
          self_block self_offset $
          -- [the token; the fields; the grips, lent; the invariant; the seat, in two; its token; the others]
          move ! (2 ∷ 0 ∷ []) $ shr_bor-open ! tt (halve 𝓛 z.grips of_shares) (λ r. let out : ℕ → Fml = moving.after 𝓛 S W V.coded holds g.out P z id v f then allows (moving.at_live
          𝓛 S W V.coded holds g.out P z r) in move ! (4 ∷ 5 ∷ 6 ∷ []) $ opens ! tt SeatRow seat_block seat_offset (λ bits. move ! (1 ∷ []) $ fsplit ! $
          rewrite ! 1 (λ (w : BlockId). ‵ (seat_owns S W w V.coded.code id v)) same refl $ move ! (9 ∷ 7 ∷ 1 ∷ []) $ use3 𝓛 (raw (machine.C _ (vptr pb e ∷ vint w64 w ∷ seq_cst ∷
          []) (λ u. mean 𝓛 (found out u)))) (via 𝓤 _ (moving.looks 𝓛 S W V.coded holds g.out P z id v f then allows r counted) (calls (block_ptr pb e) w are.1.1.0.1 out)) $
          sets ! (agg ! (and_then ! (lit ! tt) (no_more !))) refl (tt, (record { fits = lit< tt }, tt)) $ Calls-last ! (fm 𝓛 𝓜 𝓡) (found out) (and_then ! (get ! refl) (and_then ! (get !
          refl) (and_then ! (get ! refl) (no_more !)))) (λ u. finds ! out (λ n fits. lands_last ! refl (tt, record { fits = fits }) $ exec ! machine.C machine.Λ here (after 1 (routine one
          c).body) (at_ret here returned) $ sets ! (of_opd ! (get ! refl)) refl (tt, record { fits = fits }) $ fsplit ! $ fsplit ! $ fpick ! (λ live. drop ! $ move ! (7 ∷ 0 ∷ []) $
          obor_close ! tt $ drop ! $ move ! (1 ∷ []) $ fpick ! (λ v'. fsplit ! $ fpick ! (λ so. drop ! $ let t' : SeatRow.Denot = record { marker = t.marker; block = z; id = id; me = v' } in
          move ! (2 ∷ 0 ∷ []) $ fjoin ! $ move ! (2 ∷ 0 ∷ 3 ∷ 4 ∷ 5 ∷ []) $ closes ! tt SeatRow t' bits seat_block seat_offset $ feq_i ! (List Val) (vptr seat_block seat_offset ∷
          []) (vptr seat_block seat_offset ∷ []) refl $ fjoin3 ! $ nothing ! $ nothing ! $ fjoin ! $ move ! (1 ∷ 0 ∷ []) $ fjoin ! $ nothing ! $ fjoin ! $ move ! (1 ∷ 4 ∷ []) $ join ! $
          move ! (2 ∷ 0 ∷ []) $ join ! $ use0 𝓛 (raw ((claims κs a).ensures gh n (at_exit promise κs a (tt, (t', (tt, tt)))))) (told κs a gh n v' same so live) $ flt_i ! n (2 ^ 64) fits $
          feq_i ! (List Val) (vint w64 n ∷ []) (vint w64 n ∷ []) refl $ fjoin ! $ returns ! (look_at ! 0 refl) $ free_all ! refl $ keep ! (2 ∷ 3 ∷ 0 ∷ 1 ∷ []) $
          by ! (leaves 𝓛 promise staying claims start (vint w64 n) n (tt, (t', (tt, tt))) (tt, (tt, (tt, tt)))))))))))))))
