-- What moved lies within the room that there was.
use Rattle.std.specs.Prelude.{ℕ, ◌≤◌, Result, IfOk}
use Rattle.std.specs.declared.io.Error.{Error}

-- bytes that were moved are no more than there was room for
abbrev pub Within : ℕ → Result ℕ Error → Type 0
Within room came = IfOk came (λ n. n ≤ room)
