use Rattle.std.proofs.Common.{◌≡◌, Some, sym, ap, ◌∙◌, refl, subst, arith}
use Rattle.std.specs.Prelude.{IsSome}
use Rattle.std.proofs.lemmas.Option.{none-some}
use Rattle.slab.specs.Slab.{get}
use Rattle.slab.proofs.SlabLemmas.{Updates-with_value}
use Rattle.future_time.specs.Tables.{when_of, waker_of}
use Rattle.future_time.proofs.Wheels.{sets_same}
use Rattle.future_time.proofs.Entries.{keyed_after, woken_after, fired_after, room_after}
use Rattle.future_time.proofs.entry.table.TimerTable.poll.Goals as goal

pub invariant_of-self-in-Some-waker : goal.invariant_of-self-in-Some-waker
invariant_of-self-in-Some-waker g c =
    let s = c.args.self.now in
    let key = c.args.key.now.key in
    let entry = c.in-Some.entry.now in
    let sets = sets_same s.wheel key in
    let read : get s.entries key ≡ Some entry = sym c.in-Some.ensures.value in
    let updates = Updates-with_value s.entries key (record { when = entry.when; waker = c.replace.new.self }) (subst IsSome (sym read) refl) in
    let found : when_of (get s.entries key) ≡ Some entry.when = ap when_of read in
    record {
      keyed = keyed_after _ _ sets updates (λ when armed. sym found ∙ s.keyed key when armed) s.keyed;
      ahead = s.ahead;
      behind = s.behind;
      room = room_after _ _ _ updates (omega arith) (λ _. s.room key (λ none. none-some _ (sym none ∙ read))) s.room;
      woken = woken_after _ _ sets updates (λ unarmed. absurd (omega (arith, c.if-when-reached.false, s.fired key entry.when found unarmed c.if-closed.false))) s.woken;
      fired = fired_after _ _ s.reached s.closed sets updates (λ when same unarmed opened. s.fired key when (found ∙ same) unarmed opened) s.fired;
      told = s.told;
    }

pub invariant_of-self-in-None : goal.invariant_of-self-in-None
invariant_of-self-in-None g c =
    let s = c.args.self.now in
    let key = c.args.key.now.key in
    let entry = c.in-Some.entry.now in
    let sets = sets_same s.wheel key in
    let read : get s.entries key ≡ Some entry = sym c.in-Some.ensures.value in
    let updates = Updates-with_value s.entries key entry (subst IsSome (sym read) refl) in
    let found : when_of (get s.entries key) ≡ Some entry.when = ap when_of read in
    record {
      keyed = keyed_after _ _ sets updates (λ when armed. sym found ∙ s.keyed key when armed) s.keyed;
      ahead = s.ahead;
      behind = s.behind;
      room = room_after _ _ _ updates (omega arith) (λ _. s.room key (λ none. none-some _ (sym none ∙ read))) s.room;
      woken = woken_after _ _ sets updates (λ unarmed. sym (ap waker_of read) ∙ s.woken key unarmed) s.woken;
      fired = fired_after _ _ s.reached s.closed sets updates (λ when same unarmed opened. s.fired key when (found ∙ same) unarmed opened) s.fired;
      told = s.told;
    }
