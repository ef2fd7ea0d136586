-- Each row leaves what its segment will leave. Three rows are shown part by part.
use Rattle.std.proofs.Common.{ℕ, ◌≡◌, ◌+◌, ◌≤◌, true, false, Some, None, refl}
use Rattle.task_laws.proofs.Vocabulary.{is_open, Position, Act, At, Waker, Task, ClosedRun, FutureGone, OutputStored, DropLastWaker, OrphanTask, CancelIdle, GiveUpOutput, DetachOrphan, DetachLast, Unschedule, Complete, Notifier, OfRun, OfDrop, OfCancel, ThenEnds, Detacher, PendingFutureDropped, Pending, HasClone, Registered, DropWaker, Detach, BeginNotify, EndClosed, EndIdle, EndOrphaned, MissNotify, BeginRegister, EndRegister, found, written, Scene, outcome_at, rule}
use Rattle.task_laws.proofs.Census.{Census, plus, weigh}
use Rattle.task_laws.proofs.Scenes.{rules, InEach, closed, completed, scheduled, running, task, awaiter, registering, notifying, by_flag}
use Rattle.task_laws.proofs.Ahead.{Landed, holders}
use Rattle.task_laws.proofs.Rows.{as_found, Row, drops_waker, detacher_leaves, begins_notify, misses_notify, drops_last_waker, orphans_task, cancels_idle, gives_up_output, detaches_orphan, detaches_last, detaches, detacher_is_last, unschedules_run_awaited, unschedules_run, completes_awaited, completes, ends_closed_awaited, ends_closed, ends_idle, ends_orphaned, begins_register, ends_register, gives_up, ends_notify, wakes_awaiter, hands_over, gives_up_last, takes_awaiter, empties, empties_awaiter, Shows, by_rows}
use Rattle.task_laws.proofs.Calm.{Tracks, by_counts}

drop_waker : (scene : Scene) (rest : Census) → scene.word.references ≡ holders (plus (weigh (At Waker)) rest) + (plus (weigh (At Waker)) rest).wakers → holders (plus (weigh (At Waker)) rest) ≤ 1 → (is_open scene.word ≡ true → scene.word.scheduled ≡ false → scene.word.running ≡ false → holders (plus (weigh (At Waker)) rest) ≡ 0) → found scene.limit DropWaker scene.word ≡ true
    → Landed scene rest (At Waker) DropWaker (outcome_at scene (written DropWaker scene.word) DropWaker (At Waker))
drop_waker scene rest references one idle is_found = record {
  phase = grind rules;
  closed = grind rules;
  has_task = grind rules;
  wakers = grind rules;
  future = grind rules;
  output = grind rules;
  awaiter = grind rules;
  held = grind rules;
  storing = grind rules;
  owed = grind rules;
  told = grind rules;
  frame = grind rules;
}

detach : (scene : Scene) (rest : Census) → scene.word.references ≡ holders (plus (weigh (Detacher)) rest) + (plus (weigh (Detacher)) rest).wakers → holders (plus (weigh (Detacher)) rest) ≤ 1 → (is_open scene.word ≡ true → scene.word.scheduled ≡ false → scene.word.running ≡ false → holders (plus (weigh (Detacher)) rest) ≡ 0) → (scene.word.completed ≡ true → (scene.word.running ≡ false) × (scene.word.scheduled ≡ false)) → found scene.limit Detach scene.word ≡ true
    → Landed scene rest (Detacher) Detach (outcome_at scene (written Detach scene.word) Detach (Detacher))
detach scene rest references one idle completed is_found = record {
  phase = grind rules;
  closed = grind rules;
  has_task = grind rules;
  wakers = grind rules;
  future = grind rules;
  output = grind rules;
  awaiter = grind rules;
  held = grind rules;
  storing = grind rules;
  owed = grind rules;
  told = grind rules;
  frame = grind rules;
}

begin_notify : (scene : Scene) (rest : Census) → (scene.word.notifying ≡ true → scene.word.registering ≡ true) → (scene.word.awaiter ≡ false → scene.slots.awaiter ≡ None) → (scene.word.awaiter ≡ true → scene.slots.awaiter ≡ None → (scene.word.references ≡ 0) × (scene.word.task ≡ false)) → scene.word.references ≡ holders (plus (weigh (Notifier OfRun)) rest) + (plus (weigh (Notifier OfRun)) rest).wakers → found scene.limit BeginNotify scene.word ≡ true
    → Landed scene rest (Notifier OfRun) BeginNotify (outcome_at scene (written BeginNotify scene.word) BeginNotify (Notifier OfRun))
begin_notify scene rest notifying wanted stored references is_found = record {
  phase = grind rules;
  closed = grind rules;
  has_task = grind rules;
  wakers = grind rules;
  future = grind rules;
  output = grind rules;
  awaiter = grind rules;
  held = grind rules;
  storing = grind rules;
  owed = grind rules;
  told = grind rules;
  frame = grind rules;
}

abbrev Tracked : (act : Act) (p : Position) (put : Scene → Scene) → Type 0
Tracked act p put = InEach (λ scene. Shows Tracks act p (put scene))

-- These rows stand by themselves, since one declaration has one limit of steps.
last_waker_drops : Tracked DropLastWaker (At Waker) as_found
last_waker_drops = by_counts DropLastWaker (At Waker) (by_flag task (grind rules) (grind rules))

last_waker_orphans : Tracked OrphanTask (At Waker) as_found
last_waker_orphans = by_counts OrphanTask (At Waker) (by_flag scheduled (by_flag running (grind rules) (grind rules)) (by_flag running (grind rules) (by_flag completed (grind rules) (by_flag closed (grind rules) (grind rules)))))

idle_task_is_cancelled : (n : ℕ) → Tracked CancelIdle (At (Task n)) (awaiter.put false)
idle_task_is_cancelled n = by_flag completed (grind rules) (by_flag registering (grind rules) (grind rules))

detach_gives_output_up : (n : ℕ) → Tracked GiveUpOutput (At (Task n)) as_found
detach_gives_output_up n = by_flag completed (grind rules) (grind rules)

detach_orphans : (n : ℕ) → Tracked DetachOrphan (At (Task n)) as_found
detach_orphans n = by_counts DetachOrphan (At (Task n)) (by_flag scheduled (by_flag closed (grind rules) (grind rules)) (by_flag closed (grind rules) (grind rules)))

detach_is_last : (n : ℕ) → Tracked DetachLast (At (Task n)) as_found
detach_is_last n = by_flag completed (grind rules) (grind rules)

detach_leaves_handles : (n : ℕ) → Tracked Detach (At (Task n)) as_found
detach_leaves_handles n = by_counts Detach (At (Task n)) (by_flag completed (by_flag scheduled (grind rules) (grind rules)) (by_flag scheduled (grind rules) (grind rules)))

output_is_detached_last : Tracked DetachLast Detacher as_found
output_is_detached_last = by_flag scheduled (grind rules) (by_flag completed (grind rules) (grind rules))

awaited_run_is_unpolled : Tracked Unschedule (FutureGone ClosedRun) (awaiter.put true)
awaited_run_is_unpolled = by_flag task (by_flag completed (grind rules) (grind rules)) (by_flag completed (grind rules) (grind rules))

run_is_unpolled : Tracked Unschedule (FutureGone ClosedRun) (awaiter.put false)
run_is_unpolled = by_flag task (grind rules) (grind rules)

awaited_run_completes : Tracked Complete OutputStored (awaiter.put true)
awaited_run_completes = by_flag closed (grind rules) (grind rules)

run_completes : Tracked Complete OutputStored (awaiter.put false)
run_completes = by_flag closed (grind rules) (grind rules)

awaited_closed_run_ends : Tracked EndClosed PendingFutureDropped (awaiter.put true)
awaited_closed_run_ends = by_flag completed (grind rules) (by_flag scheduled (grind rules) (grind rules))

closed_run_ends : Tracked EndClosed PendingFutureDropped (awaiter.put false)
closed_run_ends = by_flag completed (grind rules) (by_flag scheduled (grind rules) (grind rules))

idle_run_ends : Tracked EndIdle Pending as_found
idle_run_ends = by_flag task (grind rules) (grind rules)

orphaned_run_ends : Tracked EndOrphaned Pending as_found
orphaned_run_ends = by_flag task (grind rules) (grind rules)

drop_begins_to_notify : Tracked BeginNotify (Notifier OfDrop) as_found
drop_begins_to_notify = by_flag awaiter (grind rules) (grind rules)

cancel_begins_to_notify : (n : ℕ) → Tracked BeginNotify (Notifier (OfCancel n)) as_found
cancel_begins_to_notify n = by_flag awaiter (grind rules) (grind rules)

run_misses_notify : Tracked MissNotify (Notifier OfRun) as_found
run_misses_notify = by_flag registering (grind rules) (grind rules)

poll_begins_to_register : (i : ℕ) → Tracked BeginRegister (HasClone i) as_found
poll_begins_to_register i = by_flag awaiter (grind rules) (grind rules)

poll_ends_its_registration : (i : ℕ) → Tracked EndRegister (Registered i) as_found
poll_ends_its_registration i = by_flag notifying (by_flag closed (grind rules) (grind rules)) (by_flag closed (grind rules) (grind rules))

tracks_row : (act : Act) (p : Position) (put : Scene → Scene) → Row act p put → Tracked act p put
tracks_row _ _ _ drops_waker = record { at = λ scene is_found rest cut placed calm counted. drop_waker scene rest placed.references placed.one placed.idle is_found }
tracks_row _ _ _ detacher_leaves = record { at = λ scene is_found rest cut placed calm counted. detach scene rest placed.references placed.one placed.idle placed.completed is_found }
tracks_row _ _ _ (begins_notify OfRun) = record { at = λ scene is_found rest cut placed calm counted. begin_notify scene rest (calm.notifying refl) (calm.wanted refl) (calm.stored refl) placed.references is_found }
tracks_row _ _ _ (begins_notify OfDrop) = drop_begins_to_notify
tracks_row _ _ _ (begins_notify (OfCancel n)) = cancel_begins_to_notify n
tracks_row _ _ _ (misses_notify OfRun) = run_misses_notify
tracks_row _ _ _ drops_last_waker = last_waker_drops
tracks_row _ _ _ orphans_task = last_waker_orphans
tracks_row _ _ _ (cancels_idle n) = idle_task_is_cancelled n
tracks_row _ _ _ (gives_up_output n) = detach_gives_output_up n
tracks_row _ _ _ (detaches_orphan n) = detach_orphans n
tracks_row _ _ _ (detaches_last n) = detach_is_last n
tracks_row _ _ _ (detaches n) = detach_leaves_handles n
tracks_row _ _ _ detacher_is_last = output_is_detached_last
tracks_row _ _ _ unschedules_run_awaited = awaited_run_is_unpolled
tracks_row _ _ _ unschedules_run = run_is_unpolled
tracks_row _ _ _ completes_awaited = awaited_run_completes
tracks_row _ _ _ completes = run_completes
tracks_row _ _ _ ends_closed_awaited = awaited_closed_run_ends
tracks_row _ _ _ ends_closed = closed_run_ends
tracks_row _ _ _ ends_idle = idle_run_ends
tracks_row _ _ _ ends_orphaned = orphaned_run_ends
tracks_row _ _ _ (begins_register i) = poll_begins_to_register i
tracks_row _ _ _ (ends_register i) = poll_ends_its_registration i
tracks_row _ _ _ (gives_up None answer) = grind rules
tracks_row _ _ _ (ends_notify None OfRun) = grind rules
tracks_row _ _ _ (ends_notify (Some i) OfRun) = grind rules
tracks_row _ _ _ (wakes_awaiter i OfRun) = grind rules
tracks_row _ _ _ (hands_over woken (ThenEnds answer)) = grind rules
tracks_row _ _ _ (gives_up_last None answer) = grind rules
tracks_row _ _ _ (takes_awaiter OfRun) = grind rules
tracks_row _ _ _ (empties None answer) = grind rules
tracks_row _ _ _ (empties_awaiter None answer old) = grind rules
tracks_row act p put row = grind rules

-- so the rule does
pub tracked : (act : Act) (p : Position) (scene : Scene) → Tracks act p scene (rule scene act p)
tracked = by_rows Tracks (λ act p scene rest cut placed calm counted. tt) tracks_row
