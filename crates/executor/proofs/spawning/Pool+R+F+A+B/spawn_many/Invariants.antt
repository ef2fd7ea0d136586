use Rattle.std.proofs.Common.{◌≡◌, ◌+◌, ◌≤◌, drop}
use Rattle.std.specs.Prelude.{vec_len, vec_capacity}
use Rattle.std.specs.VecDeque.{deque_len}
use Rattle.executor.specs.Appends.{Appends}
use Rattle.executor.proofs.spawning.Pool+R+F+A+B.spawn_many.Given as goal

abbrev pub invariant-loop : goal.invariant-loop
invariant-loop g l = record {
  many : vec_len l.tasks ≡ vec_len l.initial.tasks + l.counter;
  left : l.futures.items ≡ drop l.counter l.initial.futures.items;
  added : Appends (λ task. task.around.1 ≡ l.fn.worker) l.initial.tasks.items l.tasks.items;
  room : vec_len l.initial.tasks + deque_len l.initial.futures ≤ vec_capacity l.tasks;
}
