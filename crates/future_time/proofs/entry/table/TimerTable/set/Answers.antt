use Rattle.std.proofs.Common.{◌≡◌, Some, sym, ◌∙◌, refl, subst, arith}
use Rattle.std.specs.Prelude.{IsSome}
use Rattle.std.proofs.lemmas.Option.{none-some, same_Some}
use Rattle.slab.specs.Slab.{get}
use Rattle.slab.proofs.SlabLemmas.{Updates-with_value}
use Rattle.future_time.proofs.Wheels.{each_with, each_but}
use Rattle.future_time.proofs.Entries.{keyed_after, woken_after, fired_after, room_after, told_by}
use Rattle.future_time.proofs.entry.table.TimerTable.set.Goals as goal

pub invariant_of-self-then-waits : goal.invariant_of-self-then-waits
invariant_of-self-then-waits g c =
    let s = c.notice-notice.new.self in
    let key = c.args.key.now.key in
    let entry = c.in-Some.entry.now in
    let sets = c.insert.ensures.sets in
    let read : get s.entries key ≡ Some entry = sym c.in-Some.ensures.value in
    let updates = Updates-with_value s.entries key (record { when = c.args.when; waker = c.take-waker.new.self }) (subst IsSome (sym read) refl) in
    let waits = c.is_to_wait-waits.ensures.waits c.if-waits.true in
    record {
      keyed = keyed_after _ _ sets updates (λ when armed. armed) s.keyed;
      ahead = each_with s.wheel c.insert.new.self key c.args.when _ sets (omega (arith, c.insert.ensures.elapsed, s.behind waits.0, waits.1)) (λ k when armed. omega (arith, c.insert.ensures.elapsed, s.ahead k when armed));
      behind = λ opened. omega (arith, s.behind opened, c.insert.ensures.elapsed);
      room = room_after _ _ _ updates (omega (arith, c.insert.ensures.limit)) (λ _. omega (arith, c.insert.ensures.limit, s.room key (λ none. none-some _ (sym none ∙ read)))) s.room;
      woken = woken_after _ _ sets updates (λ unarmed. c.take-waker.ensures.after) s.woken;
      fired = fired_after _ _ s.reached s.closed sets updates (λ when same unarmed opened. absurd (none-some _ (sym unarmed))) s.fired;
      told = λ until rests. each_with s.wheel c.insert.new.self key c.args.when _ sets (told_by s.rests_until c.args.when c.notice-notice.ensures.told until rests) (s.told until rests);
    }

pub invariant_of-self-else-waits : goal.invariant_of-self-else-waits
invariant_of-self-else-waits g c =
    let s = c.notice-notice.new.self in
    let key = c.args.key.now.key in
    let entry = c.in-Some.entry.now in
    let sets = c.remove.ensures.sets in
    let read : get s.entries key ≡ Some entry = sym c.in-Some.ensures.value in
    let updates = Updates-with_value s.entries key (record { when = c.args.when; waker = c.take-waker.new.self }) (subst IsSome (sym read) refl) in
    record {
      keyed = keyed_after _ _ sets updates (λ when none. absurd (none-some when none)) s.keyed;
      ahead = each_but s.wheel c.remove.new.self key _ sets (λ k when armed. omega (arith, c.remove.ensures.elapsed, s.ahead k when armed));
      behind = λ opened. omega (arith, s.behind opened, c.remove.ensures.elapsed);
      room = room_after _ _ _ updates (omega (arith, c.remove.ensures.limit)) (λ _. omega (arith, c.remove.ensures.limit, s.room key (λ none. none-some _ (sym none ∙ read)))) s.room;
      woken = woken_after _ _ sets updates (λ unarmed. c.take-waker.ensures.after) s.woken;
      fired = fired_after _ _ s.reached s.closed sets updates (λ when same unarmed opened. omega (arith, same_Some _ _ same, c.is_to_wait-waits.ensures.is_due c.if-waits.false opened)) s.fired;
      told = λ until rests. each_but s.wheel c.remove.new.self key _ sets (s.told until rests);
    }
