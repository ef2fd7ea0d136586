-- The request is counted, and then it is the answer of the allocator below.
use Rattle.std.proofs.Common.{◌≡◌, List, [], ◌∷◌, refl, ap, w64, Bor}
use Rattle.std.proofs.alloc.AllocError.TheLaws as RefusedLaws
use Rattle.std.proofs.alloc.Calls.{Takes, Answer}
use Rattle.std.proofs.raw_atomic.Walks.{proved}
use Rattle.std.proofs.result.Result.TheLaws as ResultLaws
use Rattle.std.specs.Allocator.{block_if_ok}
use Rattle.std.specs.contracts.alloc.AllocError as refused
use Rattle.std.specs.contracts.result.Result as result
use Rattle.std.specs.declared.alloc.Allocator.{Ghosts}
use base.Logic.{emp, id⊢}
use borrow.Table.RawPtr.{ptr_laws}
use contract.BorrowLft.{◌⊑◌}
use contract.Monad.{fact, fact_i}
use contract.Running.{tables}
use denote.Builtin.{usize}
use denote.Enum.Loose.{loose_lawful}
use denote.Exit.{yes}
use denote.Laws.{shows}
use denote.Memory.{hidden_shr}
use denote.Param.{param}
use denote.Plain.{uint_vals, uint_Tells, uint_Makes}
use denote.RattleType.{RattleType, owns}
use denote.RawPtr.{RawPtr}
use denote.Ref.{shr_vals}
use denote.Signature.{plain, types_at, type_at}
use denote.Steps.{nothing, heard, owned, only, peeks}
use denote.Triple.Call.{calls_at}
use denote.Triple.Clauses.{Lasts, lasts}
use denote.Triple.Entry.{alive}
use denote.Triple.Spec.{triple_of}
use denote.Triple.Table.{framed}
use denote.Triple.Walked.{Stays, stay_dropped, walk_of, ends_at, Goes-dropped}
use mir.MapTy.{inst_fn}
use mir.Syntax.{Dict}
use mir.Val.{Val}
use prog.Memory.{size, align, capped}
use types.ByLocal.{alloc_all, pass_all, free_all, look_at, get, lands_as}
use types.Kit.{Item, ‵, raw, ◌⊛◌, some, later, ◌$◌, ◌∵◌, !, qed, done, move, drop, use0, use1, split, join, pick, rewrite, fsplit, fjoin, feq_l, feq_i, suffices, group, await}
use types.Run.{no_more, and_then, returns, enter}
use Rattle.rows_fixtures.proofs.Passing.{given, itself}
use Rattle.rows_fixtures.proofs.counting.Counting.below_counted.Met as counted
use Rattle.rows_fixtures.proofs.counting.CountingAllocator.allocate.Code as code
use Rattle.rows_fixtures.proofs.counting.CountingAllocator.allocate.Statement.{statement}
use Rattle.rows_fixtures.specs.contracts.counting.Counting.below_counted as counts
use Rattle.rows_fixtures.specs.contracts.counting.CountingAllocator.allocate as here

abbrev stayed : (B : RattleType) (ghosts : Ghosts B.Denot) (calls destruct : Dict) → Stays (here.ended B ghosts calls destruct).signature.params (here.ended B ghosts calls destruct).kept
stayed B ghosts calls destruct = (stay_dropped (itself B) yes, (stay_dropped (plain (λ _. usize)) yes, (stay_dropped (plain (λ _. usize)) yes, tt)))

pub allocate_spec : {M : Type 1} → statement M
allocate_spec 𝓤 𝓛 𝓜 𝓡 wired B laws ghosts calls destruct met drops =
    let T = here.ended B ghosts calls destruct in let c = here.clauses B ghosts calls destruct 𝓛 𝓜.mem 𝓡.returns in let W = walk_of 𝓛 T (stayed B ghosts calls destruct) c in
    let number = Goes-dropped 𝓛 2 (plain (λ _. usize)) yes (λ κs x w. refl) in
    proved 𝓛 T (stayed B ghosts calls destruct) c 𝓜 𝓡 (Goes-dropped 𝓛 2 (itself B) yes (λ κs x w. refl), (number, (number, tt)))
    (here.Key.name (given B calls destruct)) (inst_fn (given B calls destruct) code.function) (code.unfolded 𝓤 𝓛.H 𝓜 𝓡 wired (B, tt) calls destruct)
    (λ κs. (shr_vals, (uint_vals w64, (uint_vals w64, tt)))) (λ κs. ((λ r vs s. s.0), (uint_Tells w64, (uint_Tells w64, tt))))
    (λ κs qs bounds a τ are.
    let self = a.0 in let bytes = a.1.0 in let alignment = a.1.1.0 in
    let y : W.Ghost = ((κs, qs, bounds, a, (shr_vals self, (uint_vals w64 bytes, (uint_vals w64 alignment, tt)))), τ) in
    let Lives = fact 𝓤 (κs.1.0 ⊑ B.lives) in let Asked = fact 𝓤 ((capped (size τ) ≡ bytes) × (capped (align τ) ≡ alignment)) in
    let Alive : Item 𝓤 = raw (alive 𝓛 T.signature κs qs) in
    let Count = triple_of 𝓛 (counts.signature B) (counts.spec B ghosts calls destruct 𝓛 𝓜.mem 𝓡.returns) in
    let z : Count.Ghost = ((κs, qs, bounds, (self, (bytes, tt)), (shr_vals self, (uint_vals w64 bytes, tt))), tt) in
    let Ask = Takes (record { row = B; laws = laws; g = ghosts; d = calls; drops = destruct }) 𝓛 𝓜.mem 𝓡.returns in
    qed 𝓛 ((Alive ⊛ ‵ (owns (types_at T.signature.params κs) a y.0.4)) ∷ (raw Lives ⊛ raw Asked) ∷ []) ∵
    move ! (1 ∷ []) $ split ! $ heard ! _ (λ lives. move ! (1 ∷ []) $ split ! $ move ! (1 ∷ []) $ fsplit ! $
    -- [`self`; the other parameters; the tokens; what is asked]
    nothing ! $ owned ! usize _ (uint_Makes 𝓛 w64) bytes _ (refl, are.1.0.1) $ fjoin ! $ move ! (1 ∷ 0 ∷ []) $ fjoin ! $ move ! (2 ∷ 0 ∷ []) $ join ! $
    nothing ! $ use0 𝓛 (raw Lives) (fact_i 𝓤 (κs.1.0 ⊑ B.lives) (emp 𝓤) lives) $ join ! $ move ! (1 ∷ 0 ∷ []) $ join ! $ use1 𝓛 (raw (Count.pre z)) (id⊢ 𝓤 _) $
    enter ! _ _ _ _ _ $ alloc_all ! (λ l. pass_all ! refl ((tt, tt), ((tt, record { fits = are.1.0.1 }), ((tt, record { fits = are.1.1.0.1 }), tt))) $
    calls_at ! (framed 𝓤 𝓛.H 𝓜 (tables 𝓤 𝓛.H 𝓜 𝓡 𝓡.env)) Count (counted.met 𝓤 𝓛 𝓜 𝓡 (code.calls-rows_fixtures::counting::Counting::below_counted 𝓡.env wired) B laws ghosts calls destruct met drops) z
    (and_then ! (get ! refl) (and_then ! (get ! refl) (no_more !))) (λ v.
    use1 𝓛 (later (some (λ (x : Bor B.Denot). (Alive ⊛ ‵ ((type_at (counts.signature B).result κs).own_val x (v ∷ []))) ⊛
    some (λ (ws : Lasts (counts.ended B ghosts calls destruct) κs z.0.3). ‵ (lasts (counts.ended B ghosts calls destruct) κs z.0.3 ws) ⊛ raw (fact 𝓤 (x.now ≡ self.now.below)))))) (id⊢ 𝓤 _) $
    await ! tt $ pick ! (λ x. split ! $ split ! $ move ! (2 ∷ []) $ pick ! (λ ws. split ! $ drop ! $ heard ! (x.now ≡ self.now.below) (λ same.
    move ! (1 ∷ []) $ fsplit ! $ feq_l ! (λ at. lands_as ! (ap only at) refl (tt, tt) $
    rewrite ! 0 (λ (h : B.Denot). ‵ (hidden_shr (param 0 B) κs.0 h x.ref_ptr.0 x.ref_ptr.1)) same refl $
    -- [the `&` to the allocator below; the tokens; the other parameters; what is asked]
    let z' : Ask.Ghost = ((κs, qs, bounds, (record { ref_ptr = x.ref_ptr; now = self.now.below }, (bytes, (alignment, tt))), (shr_vals x, (uint_vals w64 bytes, (uint_vals w64 alignment, tt)))), τ) in
    feq_i ! (List Val) (shr_vals x) (shr_vals x) refl $ fjoin ! $ move ! (0 ∷ 2 ∷ []) $ fjoin ! $ move ! (1 ∷ 0 ∷ []) $ join ! $
    use0 𝓛 (raw Lives) (fact_i 𝓤 (κs.1.0 ⊑ B.lives) (emp 𝓤) lives) $ move ! (0 ∷ 2 ∷ []) $ join ! $ move ! (1 ∷ 0 ∷ []) $ join ! $ use1 𝓛 (raw (Ask.pre z')) (id⊢ 𝓤 _) $
    calls_at ! (framed 𝓤 𝓛.H 𝓜 (tables 𝓤 𝓛.H 𝓜 𝓡 𝓡.env)) Ask (met.allocate destruct) z' (and_then ! (get ! refl) (and_then ! (get ! refl) (and_then ! (get ! refl) (no_more !)))) (λ v'.
    use1 𝓛 (later (some (λ (w : Answer.Denot). (Alive ⊛ ‵ (Answer.own_val w (v' ∷ []))) ⊛
    some (λ (ws : Lasts T κs a). ‵ (lasts T κs a ws) ⊛ ‵ (block_if_ok (ghosts.dealloc_token self.now.below) τ w))))) (id⊢ 𝓤 _) $
    await ! tt $ pick ! (λ w. split ! $ split ! $ move ! (2 ∷ []) $ pick ! (λ ws. split ! $ drop ! $ move ! (2 ∷ []) $ peeks ! Answer _ (shows 𝓛 Answer) w (v' ∷ []) (λ is.
    let typed = (loose_lawful (result.the_type RawPtr refused.the_row) (ResultLaws.the_loose RawPtr refused.the_row ptr_laws RefusedLaws.the_row_laws) tt 𝓛).typed w (v' ∷ []) is in
    lands_as ! refl refl typed.0 $ returns ! (look_at ! 0 refl) $ free_all ! refl $
    suffices ! _ (ends_at 𝓛 T (stayed B ghosts calls destruct) c y v' w (tt, (tt, (tt, tt))) (tt, (tt, (tt, tt)))) $
    nothing ! $ nothing ! $ fjoin ! $ nothing ! $ fjoin ! $ nothing ! $ fjoin ! $ move ! (3 ∷ 0 ∷ 1 ∷ 2 ∷ []) $ group ! 3 $ done !))))))))))))
