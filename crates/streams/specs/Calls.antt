-- What follows from a call of C's read or write.
use Rattle.std.specs.Prelude.{ℕ, ◌≤◌, ◌<◌, ◌≡◌, ℤ, pos, Option, None, Some, MatchOption, Result, Ok, Err}
use Rattle.std.specs.IoError.{error_kind, raw_os_error}
use Rattle.std.specs.declared.io.Error.{Error}
use Rattle.std.specs.declared.io.ErrorKind.TheVariants.{Interrupted}

-- Linux's number for a call that a signal interrupted
abbrev pub EINTR : ℤ
EINTR = pos 4

-- the number that the system gave an error tells; one that it did not give is an interruption by its kind alone
abbrev pub IsInterruption : Error → Type 0
IsInterruption error = MatchOption (raw_os_error error) (error_kind error ≡ Interrupted) (λ code. code ≡ EINTR)

-- what follows from what a call answered, by how many interrupted calls came before it in a row: it is made again (None), or it is over
pub data Follows (retries : ℕ) : Result ℕ Error → Option (Result ℕ Error) → Type 0 where
  moved : (n : ℕ) → Follows retries (Ok n) (Some (Ok n))
  again : (e : Error) → IsInterruption e → retries < 1000 → Follows retries (Err e) None
  failure : (e : Error) → (IsInterruption e → 1000 ≤ retries) → Follows retries (Err e) (Some (Err e))
