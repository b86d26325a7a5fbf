-- What holds of a buffer that the writer accepts. Assumes nothing.
use Prim.Native.Nat.{ℕ}
use mathlib.Core.Path.{◌≡◌}
use native.Mathlib.Omega.{arith}
use Rattle.checks.specs.declared.Answer.{Answer}
use Rattle.checks.specs.Answer.{done}
use Rattle.checks.specs.Refusal.{◌then◌, Passed}
use Rattle.checks.specs.Check.{most_jobs}
use Rattle.day.proofs.Cases.{on_le}
use Rattle.checks.proofs.Refusal.{IsCheck, refuses_is_check, then_is_check, passed_clear, clear_first, clear_next, no_fault}
use Rattle.filewriter.specs.Writer.{file_length, RoomCheck, Writable}

pub room_is_check : (m n room : ℕ) → IsCheck (RoomCheck m n room)
room_is_check m n room = then_is_check (refuses_is_check (λ e. omega arith)) (refuses_is_check (λ e. omega arith))

pub writable : {m n room : ℕ} {a : Answer} → a.code ≡ done → (RoomCheck m n room then Passed) a → Writable m n room
writable {m} {n} {room} {a} e p =
    let clear : (b : Answer) → RoomCheck m n room b → ⊥ = passed_clear (room_is_check m n room) a p e in
    record {
      few = on_le n most_jobs (λ h. h) (λ h. absurd (no_fault (clear_first clear) h));
      fits = on_le (file_length m n) room (λ h. h) (λ h. absurd (no_fault (clear_next clear) h));
    }
