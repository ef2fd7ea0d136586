-- At a cut, what the word says is what the parties and the trace say.
use Rattle.std.proofs.Common.{◌≡◌, ℕ, ◌+◌, Bool, true, false, not, ◌&&◌, ◌||◌, cond, List, [], ◌∷◌, refl, sym, ap, ◌∙◌, Some, arith}
use Rattle.std.specs.Prelude.{nat_lt, nat_eq, if◌then◌else◌}
use Rattle.std.proofs.lemmas.Bool.Decides.{nat_tests}
use Rattle.task_laws.proofs.Vocabulary.{State, bit, is_open, Ended, Position, At, Machine, how_many, Event, how_often, woken_since_taking_up, is_runner, Idle, Queued, Polled, PolledAndWoken, Done, is_done, AbstractCell, is_queued, is_polling, phase_of, is_home}
use Rattle.task_laws.proofs.Vocabulary.{one_if, awaiter_of, reading, frames, seen, WholeRunsAgree}
use Rattle.task_laws.proofs.Census.{Census, weigh, census, runs, closers}
use Rattle.task_laws.proofs.Runs.{Invariant}
use Rattle.task_laws.proofs.Ahead.{phase_at, holders}
use Rattle.task_laws.proofs.Theorem.{wakers, runners}
use Rattle.task_laws.proofs.Calm.{Calm}
use Rattle.task_laws.proofs.WholeRuns.{AtCut, cell_of}
use Rattle.task_laws.proofs.Agree.{whole_holds}

queued_one : (p : Position) → bit (is_queued p) ≡ (weigh p).queued + closers (weigh p)
queued_one p = grind arith

queued_all : (ps : List Position) → how_many is_queued ps ≡ (census ps).queued + closers (census ps)
queued_all [] = refl
queued_all (p ∷ ps) = omega (arith, queued_one p, queued_all ps)

polling_one : (p : Position) → bit (is_polling p) ≡ runs (weigh p)
polling_one p = grind arith

polling_all : (ps : List Position) → how_many is_polling ps ≡ runs (census ps)
polling_all [] = refl
polling_all (p ∷ ps) = omega (arith, polling_one p, polling_all ps)

-- the future is gone where no run polls it, none is due, and the task is not open
gone : (w : State) (future : Bool) (c : Census) (drops : ℕ) → drops + bit future ≡ 1 → c.queued + closers c ≡ cond w.running 0 (bit w.scheduled) → runs c ≡ bit w.running
    → bit future ≡ c.queued + c.starting + c.polling + c.pending + c.ready + c.in_hand + cond (w.running || w.scheduled) 0 (bit (is_open w)) → w.running ≡ false → w.scheduled ≡ false → nat_lt 0 drops ≡ (w.completed || w.closed)
gone w future c drops e1 e2 e3 e4 e5 e6 = grind (arith, nat_tests)

phase_is : (w : State) (q p : ℕ) (again : Bool) (drops : ℕ) → q ≡ cond w.running 0 (bit w.scheduled) → p ≡ bit w.running → (w.running ≡ true → w.scheduled ≡ true → again ≡ true) → (again ≡ true → w.running ≡ true → w.scheduled ≡ true)
    → (w.running ≡ false → w.scheduled ≡ false → nat_lt 0 drops ≡ (w.completed || w.closed))
    → phase_at w ≡ (if nat_lt 0 q then Queued else (if nat_lt 0 p then (if again then PolledAndWoken else Polled) else (if nat_lt 0 drops then Done else Idle)))
phase_is w q p again drops e1 e2 e3 e4 e5 = grind (arith, nat_tests)

bits : (b : Bool) (n : ℕ) → n ≡ bit b → b ≡ nat_lt 0 n
bits b n e = grind (arith, nat_tests)

tasks : (b : Bool) (n k : ℕ) → n + k ≡ 1 → k ≡ bit b → b ≡ nat_eq n 0
tasks b n k e f = grind (arith, nat_tests)

-- at a cut the output of an open task is in its slot where the task is done
output_is : (w : State) (slot : Bool) (c : Census) → (w.completed ≡ true → (w.running ≡ false) × (w.scheduled ≡ false)) → bit slot ≡ c.stored + c.outputs + c.claims + bit (w.completed && not w.closed) → (slot ≡ true → w.completed ≡ true)
    → (is_done (phase_at w) && not w.closed) ≡ (slot && not w.closed)
output_is w slot c e1 e2 e3 = grind (arith, nat_tests)

reading_is : (m : Machine) → Invariant m → Calm m.word m.slots true (At Ended) → cell_of m ≡ reading m
reading_is m h k =
    let c = census m.parties in
    let phase : phase_at m.word ≡ phase_of m.parties m.trace =
    phase_is m.word (how_many is_queued m.parties) (how_many is_polling m.parties) (woken_since_taking_up m.trace) (how_often Event.FutureDropped m.trace) (queued_all m.parties ∙ h.holds.scheduled) (polling_all m.parties ∙ h.holds.running) h.holds.again h.holds.woken
    (gone m.word m.slots.future (census m.parties) (how_often Event.FutureDropped m.trace) h.holds.dropped h.holds.scheduled h.holds.running h.holds.future) in
    let closed = bits m.word.closed (how_often Event.Closes m.trace) h.holds.closes in
    let output = output_is m.word m.slots.output (census m.parties) h.holds.completed h.holds.output (k.output refl) in
    let task = tasks m.word.task (how_often Event.TaskGivenUp m.trace) (census m.parties).tasks h.holds.task_left h.holds.task in
    let held : holders (census m.parties) ≡ how_many is_runner m.parties = sym (runners m.parties) in
    λ i. record {
      task = record {
        phase = phase i;
        closed = closed i;
        has_task = task i;
        wakers = sym (wakers m.parties) i;
        future = one_if (is_home (phase i));
        output = one_if (output i);
        awaiter = awaiter_of m.word m.slots.awaiter;
      };
      held = nat_lt 0 (held i);
      storing = m.word.registering;
      owed = m.word.registering && m.word.notifying;
    }

pub whole_runs_agree : WholeRunsAgree
whole_runs_agree limit steps w e c =
    let h = whole_holds limit steps w e in
    let a : AtCut limit w.machine w.stack w.moves = rw c at h.state in
    a.agreed ∙ ap (λ (x : AbstractCell). Some (record { cell = x; frames = frames w.machine.parties w.stack; told = seen w.machine.trace })) (reading_is w.machine h.invariant a.calm)
