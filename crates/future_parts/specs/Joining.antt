use Rattle.std.specs.Prelude.{◌≡◌, Bool, true, false, ℕ, ◌&&◌, List, length, map, Option, Some, None, slice_get}
use Rattle.task_core.specs.declared.traits.Poll.{Poll}
use Rattle.task_core.specs.declared.traits.Poll.TheVariants.{Pending, Ready}
use Rattle.future_parts.specs.declared.joining.half.Half.{Half}
use Rattle.future_parts.specs.declared.joining.half.Half.TheVariants.{Awaited, Ended, Taken}
use Rattle.std.specs.List.{list_all}

module _ {F K : Type 0} where
  -- whether the output of the future is kept
  abbrev pub is_ended : Half F K → Bool
  is_ended (Awaited future) = false
  is_ended (Ended kept) = true
  is_ended Taken = false

module _ {F K W T : Type 0} where
  -- a future that was awaited was polled once, and its output is kept where it was ready; nothing else was done
  abbrev pub HalfPolled : (F → W → Poll T → F → Type 0) → (K → T) → Half F K → W → Half F K → Type 0
  HalfPolled polled output (Awaited old) waker (Awaited new) = polled old waker Pending new
  HalfPolled polled output (Awaited old) waker (Ended kept) = (last : F) × polled old waker (Ready (output kept)) last
  HalfPolled polled output (Awaited old) waker Taken = ⊥
  HalfPolled polled output (Ended kept) waker new = new ≡ Ended kept
  HalfPolled polled output Taken waker new = new ≡ Taken

module _ {F G K L T U : Type 0} where
  -- the halves stay, and there is no output yet
  abbrev pub Stays : Half F K → Half G L → Poll (T × U) → Half F K → Half G L → Type 0
  Stays first second answer first_new second_new = (answer ≡ Pending) × (first_new ≡ first) × (second_new ≡ second)

  -- both outputs are handed out where both futures have ended
  abbrev pub HandedOut : (K → T) → (L → U) → Half F K → Half G L → Poll (T × U) → Half F K → Half G L → Type 0
  HandedOut output output_too (Ended kept) (Ended kept_too) answer first second = (answer ≡ Ready (output kept, output_too kept_too)) × (first ≡ Taken) × (second ≡ Taken)
  HandedOut output output_too (Ended kept) (Awaited future) answer first second = Stays (Ended kept) (Awaited future) answer first second
  HandedOut output output_too (Ended kept) Taken answer first second = Stays (Ended kept) Taken answer first second
  HandedOut output output_too (Awaited future) other answer first second = Stays (Awaited future) other answer first second
  HandedOut output output_too Taken other answer first second = Stays Taken other answer first second

module _ {F K T : Type 0} where
  -- the output that is kept
  abbrev pub output_of : (K → T) → Half F K → Option T
  output_of output (Ended kept) = Some (output kept)
  output_of output (Awaited future) = None
  output_of output Taken = None

  -- these are the outputs that are kept, in order
  abbrev pub AreOutputs : (K → T) → List (Half F K) → List T → Type 0
  AreOutputs output halves outputs = map Some outputs ≡ map (output_of output) halves

  -- each future was polled once where it is awaited, as one half of a `join`
  abbrev pub EachPolled : {W : Type 0} → (F → W → Poll T → F → Type 0) → (K → T) → List (Half F K) → W → List (Half F K) → Type 0
  EachPolled polled output old waker new =
      (length new ≡ length old)
      × ((k : ℕ) (half next : Half F K) → slice_get old k ≡ Some half → slice_get new k ≡ Some next → HalfPolled polled output half waker next)

  -- the outputs are handed out, where they wait for that and each future has ended; else nothing changes
  abbrev pub HandedOutAll : {Q : Type 0} → (K → T) → (Q → List T) → List (Half F K) → Bool → Poll Q → List (Half F K) → Bool → Type 0
  HandedOutAll output items halves waiting (Ready outputs) new still = (waiting ≡ true) × (list_all is_ended halves ≡ true) × AreOutputs output halves (items outputs) × (still ≡ false)
  HandedOutAll output items halves waiting Pending new still = ((waiting && list_all is_ended halves) ≡ false) × (new ≡ halves) × (still ≡ waiting)
