-- When an input is whole, and that it then lies in the file.
use Rattle.std.specs.Prelude.{ℕ, ◌+◌, ◌≤◌, ◌==◌, if◌then◌else◌, List, length, Option, None, Some, Result, Ok, Err}
use Rattle.std.specs.declared.io.Error.{Error}

-- bytes are added to the `at` that were there; only the input's end makes it whole; a failure is no end
abbrev pub after_read : ℕ → Result ℕ Error → Result (Option ℕ) Error
after_read at (Ok n) = if n == 0 then Ok None else Ok (Some (at + n))
after_read at (Err e) = Err e

-- a whole input lies in `file`
abbrev pub FitsIn : List ℕ → Result ℕ Error → Type 0
FitsIn file (Ok n) = n ≤ length file
FitsIn file (Err e) = Unit {0}
