use Rattle.std.specs.Prelude.{◌≡◌, ◌++◌, ◌∷◌, [], ℕ, Option, Some, None, IsSome, MatchBool, Result, Ok, Err}
use Rattle.task_core.specs.declared.traits.Poll.{Poll}
use Rattle.task_core.specs.declared.traits.Poll.TheVariants.{Pending, Ready}
use Rattle.future_parts.specs.declared.channels.messages.Messages.{Messages}
use Rattle.future_parts.specs.declared.channels.messages.TrySendError.{TrySendError}
use Rattle.future_parts.specs.declared.channels.messages.TrySendError.TheVariants.{Full, Closed}
use Rattle.future_parts.specs.declared.asked.Answer.{Answer}
use Rattle.future_parts.specs.declared.asked.Answer.TheVariants.{Closed as NoneLeft}
use Rattle.future_parts.specs.Asked.{waiting, Added, Same, Polled}
use Rattle.future_parts.specs.Shared.{IsRegistered}

module _ {T U : Type 0} where
  -- a message stays where a send waits, is gone where it was sent, and is handed back where it never will be
  abbrev pub HandsBack : Option T → Poll (Result U T) → Option T → Type 0
  HandsBack old Pending new = new ≡ old
  HandsBack old (Ready (Ok sent)) new = new ≡ None
  HandsBack old (Ready (Err back)) new = (old ≡ Some back) × (new ≡ None)

module _ {T : Type 0} where
  -- the message that was not sent
  abbrev pub unsent : TrySendError T → T
  unsent (Full message) = message
  unsent (Closed message) = message

module _ {W E T U : Type 0} (cloned : W → Result W E → Type 0) (woken_by_ref : W → E → Type 0) where
  -- a message is handed back or stays, as `HandsBack`, and one that waits has left its waker
  abbrev pub SendPolled : Option T → W → Poll (Result U T) → Option T → Type 0
  SendPolled old waker answer new = HandsBack old answer new × (IsSome old → IsRegistered cloned woken_by_ref waker answer)

module _ {T W : Type 0} where
  -- the message is the last one, for the receiver that came first, which is woken, or for any where none waited
  abbrev pub SentTo : T → Messages T W → Messages T W → Option W → Type 0
  SentTo message old new woken = (new.messages.items ≡ old.messages.items ++ message ∷ []) × Added old.here new.here woken

  -- the message was the first one, and its room goes to the sender that came first, which is woken, or to any where none waited
  abbrev pub ReceivedFrom : T → Messages T W → Messages T W → Option W → Type 0
  ReceivedFrom message old new woken = (old.messages.items ≡ message ∷ new.messages.items) × Added old.room new.room woken

  -- both sides are open or closed as before
  abbrev pub SameClosed : Messages T W → Messages T W → Type 0
  SameClosed old new = (new.here.closed ≡ old.here.closed) × (new.room.closed ≡ old.room.closed)

  -- who is there has not changed
  abbrev pub SamePeers : Messages T W → Messages T W → Type 0
  SamePeers old new = (new.senders ≡ old.senders) × (new.receivers ≡ old.receivers) × (new.bound ≡ old.bound) × SameClosed old new

  -- no message came or went, and both lines are as before
  abbrev pub Unchanged : Messages T W → Messages T W → Type 0
  Unchanged old new = (new.messages.items ≡ old.messages.items) × (new.here.free ≡ old.here.free) × (new.here.given ≡ old.here.given) × (new.room.free ≡ old.room.free) × (new.room.given ≡ old.room.given) × (waiting new.here.line ≡ waiting old.here.line) × (waiting new.room.line ≡ waiting old.room.line)

  -- a send asked for room, unless all receivers are gone
  abbrev pub SendLed : Answer → Messages T W → Option ℕ → Option W → Messages T W → Option ℕ → Option W → Type 0
  SendLed answer old place waker new place' spare = MatchBool old.room.closed ((answer ≡ NoneLeft) × Same old.room new.room × (place' ≡ place) × (spare ≡ waker)) (Polled answer old.room place waker new.room place' spare)
