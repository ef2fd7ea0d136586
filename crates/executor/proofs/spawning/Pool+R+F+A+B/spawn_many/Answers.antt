use Rattle.std.proofs.Common.{◌≡◌, ◌-◌, ◌∙◌, arith, refl, rules, ap, drop, length}
use Rattle.std.specs.Prelude.{vec_len}
use Rattle.executor.proofs.Counted.{appends-more, appends-none, dropped-more}
use Rattle.executor.proofs.spawning.Pool+R+F+A+B.spawn_many.Goals as goal

pub loop-init : goal.loop-init
loop-init g c = record { many = omega arith; left = refl; added = appends-none c.reserve.new.self.items; room = search rules }

pub loop-preserved : goal.loop-preserved
loop-preserved g c =
    let spawned = c.spawn_first.ensures.spawned (search rules) in
    let many = c.loop.invariant.many in
    let room = c.loop.invariant.room in
    record {
      many = omega (arith, spawned.1, many);
      left = dropped-more c.loop.counter _ spawned.0 c.loop.invariant.left;
      added = appends-more c.loop.invariant.added (c.spawn_first.ensures.added (search rules));
      room = omega (arith, spawned.2, room);
    }

pub returns-clause-left : goal.returns-clause-left
returns-clause-left g c =
    let many = c.loop.invariant.many in
    let n : c.loop.counter ≡ vec_len c.loop.tasks - vec_len c.args.tasks.now = omega (arith, many, c.reserve.ensures.len) in
    c.loop.invariant.left ∙ ap (λ k. drop k c.args.futures.now.items) n

pub returns-in-Some-clause-left : goal.returns-in-Some-clause-left
returns-in-Some-clause-left g c =
    let many = c.loop.invariant.many in
    let same = c.spawn_first.ensures.refused (search rules) in
    let len : length c.spawn_first.new.tasks.items ≡ length c.loop.tasks.items = ap length same.1 in
    let new = c.spawn_first.new.tasks.ok in
    let old = c.loop.tasks.ok in
    let n : c.loop.counter ≡ vec_len c.spawn_first.new.tasks - vec_len c.args.tasks.now = omega (arith, many, len, new, old, c.reserve.ensures.len) in
    same.0 ∙ (c.loop.invariant.left ∙ ap (λ k. drop k c.args.futures.now.items) n)
