use Rattle.std.proofs.Common.{◌≡◌, ◌≢◌, ℕ, ◌≤◌, length, slice_index}
use Rattle.work_queues.specs.Sleep.{searcher_word}
use Rattle.work_queues.proofs.bells.first_words.Given as goal

abbrev pub invariant-loop-number : goal.invariant-loop-number
invariant-loop-number l = (length l.words.items ≡ l.number) × ((i : ℕ) → slice_index l.words.items i ≢ 1) × ((i : ℕ) → searcher_word l.workers ≤ i → slice_index l.words.items i ≡ 0)
