-- The work table: how many places document 01 asks for.
use Rattle.std.specs.Prelude.{ℕ, ◌+◌, ◌*◌}

-- for a list of n jobs
unfoldable pub need : ℕ → ℕ → ℕ
need slots n = (n + 1) * (slots + 3) * (slots + 3)
