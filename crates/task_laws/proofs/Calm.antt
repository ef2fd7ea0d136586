-- What is known of the word and the slots where one party stands in a whole run, and what each row has to show.
use Rattle.std.proofs.Common.{◌≡◌, ℕ, zero, suc, ◌+◌, ◌≤◌, Bool, true, false, not, ◌||◌, ◌⊎◌, cond, eqb, List, Option, Some, None, arith}
use Rattle.task_laws.proofs.Vocabulary.{State, bit, is_open, HasOutput, Event, OfRun, OfDrop, OfCancel, OfPoll, OfClaim, ThenNotifies, Position, At, CallEnding, Deliverer, Polling, ReadyFutureDropped, OutputStored, PendingFutureDropped, FutureGone, OutputInHand, GivingUp, Notifier, Taker, Releaser, AwaiterInHand, Registrar, UnusedClone, Storing, Registered, TookBack, Looking, TookOutput}
use Rattle.task_laws.proofs.Vocabulary.{OldAwaiterInHand, Answering, Detacher, Act, Slots, Scene, Outcome, rule, how_often, is_at_rest, is_foreign, asks_foreign}
use Rattle.task_laws.proofs.Census.{Census, plus, weigh, runs, closers}
use Rattle.task_laws.proofs.Invariant.{Holds}
use Rattle.task_laws.proofs.Scenes.{rules, InEach}
use Rattle.task_laws.proofs.Rows.{Row, starts_run, Shows, by_rows}
use Rattle.task_laws.proofs.Ahead.{Landed, holders}

-- where the acting party stands in the handshake
abbrev pub takes_slot : Position → Bool
takes_slot (Taker way) = true
takes_slot (Releaser hand way) = true
takes_slot _ = false

abbrev pub registers : Position → Bool
registers (Storing i) = true
registers (OldAwaiterInHand i old) = true
registers (Registered i) = true
registers (TookBack i) = true
registers _ = false

abbrev pub has_emptied : Position → Bool
has_emptied (Releaser hand way) = true
has_emptied (TookBack i) = true
has_emptied _ = false

abbrev pub is_notifier : Position → Bool
is_notifier (Notifier OfRun) = true
is_notifier (Notifier OfDrop) = true
is_notifier (Notifier (OfCancel n)) = true
is_notifier _ = false

abbrev pub is_refused : Position → Bool
is_refused (UnusedClone i) = true
is_refused _ = false

abbrev pub is_registered : Position → Bool
is_registered (Registered i) = true
is_registered _ = false

-- AWAITER was found, and an awaiter is to be taken
abbrev pub has_seen : Position → Bool
has_seen (OutputInHand due) = due
has_seen (Deliverer woken (ThenNotifies n)) = true
has_seen _ = false

abbrev pub drops_output : Position → Bool
drops_output (OutputInHand due) = true
drops_output _ = false

abbrev pub has_stored : Position → Bool
has_stored OutputStored = true
has_stored _ = false

abbrev pub is_storing : Position → Bool
is_storing (Storing i) = true
is_storing _ = false

abbrev pub drops_old : Position → Bool
drops_old (OldAwaiterInHand i old) = true
drops_old _ = false

-- the handshake, and the output's slot, where the other parties stand at rest or at a cut
pub record Calm (w : State) (slots : Slots) (cut : Bool) (p : Position) : Type 0 where
  pub notifying : takes_slot p ≡ false → w.notifying ≡ true → w.registering ≡ true
  pub taking : takes_slot p ≡ true → w.registering ≡ false
  pub registering : w.registering ≡ true → w.task ≡ true
  pub owing : (cut || (drops_old p || not (registers p))) ≡ true → w.registering ≡ true → w.awaiter ≡ true
  pub unowed : (is_storing p || drops_old p) ≡ true → w.notifying ≡ false
  pub stored : has_emptied p ≡ false → w.awaiter ≡ true → slots.awaiter ≡ None → (w.references ≡ 0) × (w.task ≡ false)
  pub emptied : has_emptied p ≡ true → slots.awaiter ≡ None
  pub forgotten : w.awaiter ≡ false → (not w.registering || is_storing p) ≡ true → (slots.awaiter ≡ None) ⊎ ((w.task ≡ false) × (w.closed ≡ true) × (w.completed ≡ false) × (w.running ≡ false))
  pub wanted : is_notifier p ≡ true → w.awaiter ≡ false → slots.awaiter ≡ None
  pub never : is_refused p ≡ false
  pub saw : has_seen p ≡ true → w.awaiter ≡ true
  pub finished : drops_output p ≡ true → w.completed ≡ true
  pub output : has_stored p ≡ false → slots.output ≡ true → w.completed ≡ true

-- what the counts of the handshake say of the party itself
pub record Counted (w : State) (slots : Slots) (p : Position) : Type 0 where
  pub own : is_registered p ≡ true → slots.awaiter ≡ None → ⊥
  pub at_work : registers p ≡ true → w.registering ≡ true
  pub calm_task : registers p ≡ false → (weigh p).tasks ≡ 1 → w.registering ≡ false
  pub has_task : (weigh p).tasks ≡ 1 → w.task ≡ true

-- a claim that is made where the party counts at all
abbrev pub Where : ℕ → Type 0 → Type 0
Where zero Claim = Unit {0}
Where (suc n) Claim = Claim

-- what the counting invariant says of the word: all handles, and the party itself
pub record Placed (scene : Scene) (all : Census) (p : Position) : Type 0 where
  pub references : scene.word.references ≡ holders all + all.wakers
  pub one : holders all ≤ 1
  pub idle : is_open scene.word ≡ true → scene.word.scheduled ≡ false → scene.word.running ≡ false → holders all ≡ 0
  pub busy : (scene.word.scheduled || scene.word.running) ≡ true → 1 ≤ holders all
  pub completed : scene.word.completed ≡ true → (scene.word.running ≡ false) × (scene.word.scheduled ≡ false)
  pub running : Where (runs (weigh p)) (scene.word.running ≡ true)
  pub queued : Where ((weigh p).queued + closers (weigh p)) ((scene.word.running ≡ false) × (scene.word.scheduled ≡ true))
  pub closed : Where (closers (weigh p) + (weigh p).cleared) (scene.word.closed ≡ true)
  pub spent : Where ((weigh p).finishing + (weigh p).outputs) ((scene.word.running ≡ false) × (scene.word.scheduled ≡ false) × (is_open scene.word ≡ false))
  pub orphan : Where ((weigh p).orphans) ((scene.word.references ≡ 0) × (scene.word.task ≡ false) × (is_open scene.word ≡ true) × (scene.word.scheduled ≡ false) × (scene.word.running ≡ false))
  pub emptier : Where ((weigh p).emptiers) ((scene.word.references ≡ 0) × (scene.word.task ≡ false))

-- where an open call may stand at a cut, once the future answered Ready or not
abbrev pub stands : Bool → Option Position → Bool
stands done None = false
stands done (Some Polling) = true
stands done (Some (FutureGone closer)) = true
stands done (Some ReadyFutureDropped) = true
stands done (Some PendingFutureDropped) = true
stands done (Some (Notifier OfRun)) = done
stands done (Some (Notifier (OfCancel n))) = true
stands done (Some Detacher) = true
stands done (Some (GivingUp None answer)) = true
stands done (Some (CallEnding answer r)) = true
stands done (Some (Registrar i)) = true
stands done (Some (Registered i)) = true
stands done (Some (Looking i)) = true
stands done (Some (AwaiterInHand j (OfPoll i))) = true
stands done (Some (AwaiterInHand j (OfClaim i))) = true
stands done (Some (TookOutput i)) = true
stands done (Some (Answering i HasOutput)) = false
stands done (Some (Answering i answer)) = true
stands done (Some p) = false

-- a party in the middle of a segment, whose call goes on in one way
abbrev pub goes_one_way : Position → Bool
goes_one_way (At r) = false
goes_one_way Polling = false
goes_one_way (Registrar i) = false
goes_one_way (AwaiterInHand j (OfPoll i)) = false
goes_one_way (AwaiterInHand j (OfClaim i)) = false
goes_one_way p = true

-- where a step may leave its party: at rest, at such a cut, or in the middle of a segment
abbrev pub may_stand : Bool → Bool → Position → Bool
may_stand done cut p = is_at_rest p || cond cut (stands done (Some p)) (goes_one_way p)

-- whether a step leads to a mark
abbrev pub is_marked : Act → Position → Bool
is_marked act p = is_foreign act || asks_foreign p

-- what a row has to show: its segment will leave what it was to leave, and the handshake stays calm
abbrev pub StaysCalm : Act → Option Outcome → Type 0
StaysCalm act None = Unit {0}
StaysCalm act (Some o) = Calm o.word o.slots (is_at_rest o.next || is_marked act o.next) o.next × (may_stand o.word.completed (is_marked act o.next) o.next ≡ true)

abbrev pub Tracks : Act → Position → Scene → Option Outcome → Type 0
Tracks act p scene left = (rest : Census) (cut : Bool) → Placed scene (plus (weigh p) rest) p → Calm scene.word scene.slots cut p → Counted scene.word scene.slots p → Landed scene rest p act left

abbrev pub KeepsCalm : Act → Position → Scene → Option Outcome → Type 0
KeepsCalm act p scene left = (rest : Census) (cut : Bool) → Placed scene (plus (weigh p) rest) p → Calm scene.word scene.slots cut p → Counted scene.word scene.slots p → StaysCalm act left

calm_row : (act : Act) (p : Position) (put : Scene → Scene) → Row act p put → InEach (λ scene. Shows KeepsCalm act p (put scene))
calm_row _ _ _ starts_run = grind rules
calm_row act p put row = grind rules

pub kept_calm : (act : Act) (p : Position) (scene : Scene) → KeepsCalm act p scene (rule scene act p)
kept_calm = by_rows KeepsCalm (λ act p scene rest cut placed calm counted. tt) calm_row

-- a row that rests on the counts alone
pub record Counts (w : State) (all : Census) : Type 0 where
  pub references : w.references ≡ holders all + all.wakers
  pub one : holders all ≤ 1
  pub idle : is_open w ≡ true → w.scheduled ≡ false → w.running ≡ false → holders all ≡ 0
  pub busy : (w.scheduled || w.running) ≡ true → 1 ≤ holders all
  pub completed : w.completed ≡ true → (w.running ≡ false) × (w.scheduled ≡ false)
  pub registering : w.registering ≡ true → w.task ≡ true

abbrev pub TracksByCounts : Act → Position → Scene → Option Outcome → Type 0
TracksByCounts act p scene left = (rest : Census) → Counts scene.word (plus (weigh p) rest) → Counted scene.word scene.slots p → Landed scene rest p act left

pub by_counts : (act : Act) (p : Position) → InEach (Shows TracksByCounts act p) → InEach (Shows Tracks act p)
by_counts act p row = record {
  at = λ scene is_found rest cut placed calm counted. row.at scene is_found rest (record {
    references = placed.references;
    one = placed.one;
    idle = placed.idle;
    busy = placed.busy;
    completed = placed.completed;
    registering = calm.registering;
  }) counted;
}

-- each field from its few fields of the counting invariant
free : (w : State) (c : Census) → runs c ≡ bit w.running → c.queued + closers c ≡ cond w.running 0 (bit w.scheduled) → (c.finishing + c.outputs ≡ 0) ⊎ (is_open w ≡ false)
    → is_open w ≡ true → w.scheduled ≡ false → w.running ≡ false → holders c ≡ 0
free w c runs_are queued_are spent opened idle still = grind rules

engaged : (w : State) (c : Census) → runs c ≡ bit w.running → c.queued + closers c ≡ cond w.running 0 (bit w.scheduled) → (w.scheduled || w.running) ≡ true → 1 ≤ holders c
engaged w c runs_are queued_are busy = grind rules

runs_now : (w : State) (c : Census) → runs c ≡ bit w.running → 1 ≤ runs c → w.running ≡ true
runs_now w c runs_are here = grind rules

queued_now : (w : State) (c : Census) → holders c ≤ 1 → runs c ≡ bit w.running → c.queued + closers c ≡ cond w.running 0 (bit w.scheduled) → 1 ≤ c.queued + closers c → (w.running ≡ false) × (w.scheduled ≡ true)
queued_now w c one runs_are queued_are here = grind rules

closed_now : (w : State) (c : Census) → (w.closed ≡ false → (closers c ≡ 0) × (c.cleared ≡ 0)) → 1 ≤ closers c + c.cleared → w.closed ≡ true
closed_now w c closers_closed here = grind rules

spent_now : (w : State) (c : Census) → holders c ≤ 1 → runs c ≡ bit w.running → c.queued + closers c ≡ cond w.running 0 (bit w.scheduled) → (c.finishing + c.outputs ≡ 0) ⊎ (is_open w ≡ false)
    → 1 ≤ c.finishing + c.outputs → (w.running ≡ false) × (w.scheduled ≡ false) × (is_open w ≡ false)
spent_now w c one runs_are queued_are spent here = grind rules

orphan_now : (w : State) (c : Census) → c.orphans ≡ 0 ⊎ ((w.references ≡ 0) × (w.task ≡ false) × (is_open w ≡ true) × (w.scheduled ≡ false) × (w.running ≡ false) × (c.orphans ≡ 1)) → 1 ≤ c.orphans
    → (w.references ≡ 0) × (w.task ≡ false) × (is_open w ≡ true) × (w.scheduled ≡ false) × (w.running ≡ false)
orphan_now w c orphan here = grind rules

emptier_now : (w : State) (c : Census) (emptied : ℕ) → emptied + c.emptiers + c.orphans ≡ cond w.task 0 (bit (eqb w.references 0)) → 1 ≤ c.emptiers → (w.references ≡ 0) × (w.task ≡ false)
emptier_now w c emptied emptied_is here = grind rules

where_here : (n : ℕ) (Claim : Type 0) → (1 ≤ n → Claim) → Where n Claim
where_here zero Claim shown = tt
where_here (suc n) Claim shown = shown (omega arith)

pub placed : (scene : Scene) (trace : List Event) (rest : Census) (p : Position) → Holds scene.limit scene.word scene.slots trace (plus (weigh p) rest) → Placed scene (plus (weigh p) rest) p
placed scene trace rest p h =
    let c = plus (weigh p) rest in
    let w = scene.word in
    record {
      references = omega (arith, h.references);
      one = omega (arith, h.one);
      idle = free w c h.running h.scheduled h.spent_closed;
      busy = engaged w c h.running h.scheduled;
      completed = h.completed;
      running = where_here (runs (weigh p)) _ (λ here. runs_now w c h.running (omega (arith, here)));
      queued = where_here ((weigh p).queued + closers (weigh p)) _ (λ here. queued_now w c (omega (arith, h.one)) h.running h.scheduled (omega (arith, here)));
      closed = where_here (closers (weigh p) + (weigh p).cleared) _ (λ here. closed_now w c h.closers_closed (omega (arith, here)));
      spent = where_here ((weigh p).finishing + (weigh p).outputs) _ (λ here. spent_now w c (omega (arith, h.one)) h.running h.scheduled h.spent_closed (omega (arith, here)));
      orphan = where_here ((weigh p).orphans) _ (λ here. orphan_now w c h.orphan (omega (arith, here)));
      emptier = where_here ((weigh p).emptiers) _ (λ here. emptier_now w c (how_often Event.Empties trace) h.emptied (omega (arith, here)));
    }
