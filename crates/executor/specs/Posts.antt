use Rattle.std.specs.Prelude.{◌≡◌, ℕ, ◌%◌, ◌/◌}
use Rattle.executor.specs.declared.posted.Post.{Post}

-- this number was posted, to the part that has it
abbrev pub IsPost : ℕ → Post → Type 0
IsPost number post = (post.part ≡ number % 8) × (post.slot ≡ number / 8)
