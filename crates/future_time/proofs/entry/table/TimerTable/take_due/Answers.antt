use Rattle.std.proofs.Common.{◌≡◌, Some, None, sym, ◌∙◌, refl, subst, arith}
use Rattle.std.specs.Prelude.{IsSome}
use Rattle.std.proofs.lemmas.Option.{none-some, same_Some}
use Rattle.slab.specs.Slab.{get}
use Rattle.slab.proofs.SlabLemmas.{Updates-with_value}
use Rattle.future_time.proofs.Wheels.{each_but}
use Rattle.future_time.proofs.Entries.{keyed_after, woken_after, fired_after, room_after, due_entry}
use Rattle.future_time.proofs.entry.table.TimerTable.take_due.Goals as goal

pub invariant_of-self-in-Some : goal.invariant_of-self-in-Some
invariant_of-self-in-Some g c =
    let s = c.args.self.now in
    let key = c.in_ok-key.key in
    let sets = c.in_ok-key.ensures.disarmed in
    let read : get s.entries key ≡ Some c.in-Some.entry.now = sym c.in-Some.ensures.value in
    let updates = Updates-with_value s.entries key (record { when = c.in-Some.entry.now.when; waker = c.take-waker.new.self }) (subst IsSome (sym read) refl) in
    let due = due_entry s.wheel s.entries c.args.until key c.in-Some.entry.now c.in_ok-key.ensures.first s.keyed read in
    record {
      keyed = keyed_after None _ sets updates (λ when none. absurd (none-some when none)) s.keyed;
      ahead = c.in_ok-key.ensures.ahead;
      behind = λ opened. omega (arith, c.requires opened, s.behind opened, c.in_ok-key.ensures.elapsed);
      room = room_after _ _ _ updates (omega (arith, c.in_ok-key.ensures.limit)) (λ _. omega (arith, c.in_ok-key.ensures.limit, s.room key (λ none. none-some _ (sym none ∙ read)))) s.room;
      woken = woken_after None _ sets updates (λ _. c.take-waker.ensures.after) s.woken;
      fired = fired_after None _ s.reached s.closed sets updates (λ when same _ opened. omega (arith, due, c.requires opened, same_Some _ _ same)) s.fired;
      told = λ until rests. each_but s.wheel c.next_key.new.wheel key _ sets (s.told until rests);
    }
