use Rattle.task_cell.proofs.Vocabulary.{subst, true, false}
use Rattle.task_cell.proofs.Moved.{stands}
use Rattle.task_cell.proofs.PollRegisters.{has_begun, has_ended, gave_back, stores_clone, takes_back, same_clone, woken_at_once, registered, was_given_back, was_notified}
use Rattle.task_cell.specs.Stores.{is_stored, is_woken, clone_is_woken}
use Rattle.task_cell.proofs.cell.Share.register_clone.Goals as goal

pub wake-requires : goal.wake-requires
wake-requires g c = let b = has_begun _ _ _ false c.begin_register.ensures c.if-not-begin_register.true in record { party = (_, stands _ _ _ _ _ b.2) }

pub note_clone_dropped-requires-clause-party : goal.note_clone_dropped-requires-clause-party
note_clone_dropped-requires-clause-party g c = let b = has_begun _ _ _ false c.begin_register.ensures c.if-not-begin_register.true in (_, stands _ _ _ _ _ b.2)

pub returns-then-not-begin_register : goal.returns-then-not-begin_register
returns-then-not-begin_register g c = let b = has_begun _ _ _ false c.begin_register.ensures c.if-not-begin_register.true in
    woken_at_once g.A.Wake.cloned g.A.Wake.woken g.A.Wake.woken_by_ref c.args.awaiter.now.awaiter.now (λ told e. is_woken told e) _ _ _ _ b.0 c.args.clone.value.awaiter b.1 c.requires.cloned (assumption c) b.2 c.note_clone_dropped.ensures

pub store-requires-clause-party : goal.store-requires-clause-party
store-requires-clause-party g c = let b = has_begun _ _ _ true c.begin_register.ensures c.if-not-begin_register.false in (_, b.1, b.2, stands _ _ _ _ _ b.5, b.4)

pub end_register-requires-clause-party : goal.end_register-requires-clause-party
end_register-requires-clause-party g c = let x = stores_clone _ _ _ _ _ c.begin_register.ensures c.if-not-begin_register.false c.store.ensures in (_, c.args.clone.value, stands _ _ _ _ _ x.3, c.requires.number)

pub returns-else-not-end_register : goal.returns-else-not-end_register
returns-else-not-end_register g c = let x = stores_clone _ _ _ _ _ c.begin_register.ensures c.if-not-begin_register.false c.store.ensures in let e = has_ended _ _ _ true c.end_register.ensures c.if-not-end_register.false in
    registered g.A.Wake.cloned g.A.Wake.woken g.A.Wake.woken_by_ref c.args.awaiter.now.awaiter.now _ _ _ _ x.0 e.0 x.1 _ c.args.clone.value.awaiter x.2 e.1 c.requires.cloned x.3 e.2 (is_stored (c.args.clone.value, c.requires.cloned, gave_back _ _ _ c.args.clone.value e.0 c.requires.number x e.2))

pub take_back-taken-requires-clause-party : goal.take_back-taken-requires-clause-party
take_back-taken-requires-clause-party g c = let x = takes_back _ _ _ _ _ (stores_clone _ _ _ _ _ c.begin_register.ensures c.if-not-begin_register.false c.store.ensures) c.end_register.ensures c.if-not-end_register.true in (_, c.args.clone.value, stands _ _ _ _ _ x.3)

pub note_clone_woken-requires-clause-party : goal.note_clone_woken-requires-clause-party
note_clone_woken-requires-clause-party g c = let x = takes_back _ _ _ _ _ (stores_clone _ _ _ _ _ c.begin_register.ensures c.if-not-begin_register.false c.store.ensures) c.end_register.ensures c.if-not-end_register.true in let k = c.take_back-taken.ensures.path in
    (_, stands _ _ _ _ _ (was_given_back g.A.Wake.cloned g.A.Wake.woken g.A.Wake.woken_by_ref c.args.awaiter.now.awaiter.now _ _ _ _ x.0 k.0 x.1 _ x.3 k.2))

pub returns-then-not-end_register : goal.returns-then-not-end_register
returns-then-not-end_register g c = let x = takes_back _ _ _ _ _ (stores_clone _ _ _ _ _ c.begin_register.ensures c.if-not-begin_register.false c.store.ensures) c.end_register.ensures c.if-not-end_register.true in let k = c.take_back-taken.ensures.path in
    let same = same_clone c.end_register.new.party _ c.args.clone.value c.take_back-taken.result.value (stands _ _ _ _ _ x.3) c.take_back-taken.ensures.same in
    was_notified g.A.Wake.cloned g.A.Wake.woken g.A.Wake.woken_by_ref c.args.awaiter.now.awaiter.now (λ clone told e f. clone_is_woken clone told e f) _ _ _ _ _ x.0 k.0 x.1 _ c.args.clone.value.awaiter x.2 k.1 c.requires.cloned (subst (λ a. (told : g.row.A-Record.Denot) × g.A.Wake.woken a.awaiter told) same (assumption c)) x.3 k.2 c.note_clone_woken.ensures
