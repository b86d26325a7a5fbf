-- When a text is lost.
use Rattle.std.specs.Prelude.{ℕ, ◌+◌, ◌==◌, if◌then◌else◌, Option, None, Some, Result, Ok, Err}
use Rattle.std.specs.declared.io.Error.{Error}

-- a write that takes nothing loses the rest, as one that fails
abbrev pub after_write : ℕ → Result ℕ Error → Option ℕ
after_write at (Ok n) = if n == 0 then None else Some (at + n)
after_write at (Err e) = None
