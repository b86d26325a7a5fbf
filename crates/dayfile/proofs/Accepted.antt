-- What holds of a file that the reader accepts. Assumes nothing.
use Rattle.std.specs.Prelude.{⊤, Result, Ok, Err, IfOk}
use Prim.Native.Nat.{ℕ}
use mathlib.Core.Path.{◌≡◌, refl}
use mathlib.Core.List.{List}
use native.Mathlib.Omega.{arith}
use lib.ListN.{length}
use Rattle.checks.specs.declared.Answer.{Answer}
use Rattle.checks.specs.declared.outcome.Refusal.{Refusal}
use Rattle.checks.specs.Answer.{done, checked}
use Rattle.checks.specs.Refusal.{◌then◌, Passed}
use Rattle.day.proofs.Cases.{on_eq, on_le}
use Rattle.checks.proofs.Refusal.{IsCheck, refuses_is_check, then_is_check, passed_clear, clear_first, clear_next, no_fault}
use Rattle.dayfile.specs.Format.{distance_back, count_in, distance_in}
use Rattle.dayfile.specs.Reader.{FileCheck}
use Rattle.dayfile.specs.steps.Trailer.{GoodFile}

pub file_is_check : (file : List ℕ) (room : ℕ) → IsCheck (FileCheck file room)
file_is_check file room =
    then_is_check (refuses_is_check (λ e. omega arith))
    (then_is_check (refuses_is_check (λ e. omega arith))
    (then_is_check (refuses_is_check (λ e. omega arith))
    (then_is_check (refuses_is_check (λ e. omega arith))
    (then_is_check (refuses_is_check (λ e. omega arith)) (refuses_is_check (λ e. omega arith))))))

pub good_file : {file : List ℕ} {room : ℕ} {a : Answer} → a.code ≡ done → (FileCheck file room then Passed) a → GoodFile file room
good_file {file} {room} {a} e p =
    let clear : (b : Answer) → FileCheck file room b → ⊥ = passed_clear (file_is_check file room) a p e in
    let distance-clear = clear_next (clear_next (clear_next clear)) in
    let length-clear = clear_next distance-clear in
    record {
      long = on_le 10 (length file) (λ h. h) (λ h. absurd (no_fault (clear_first clear) h));
      distance = on_eq (distance_in file) (distance_back (count_in file)) (λ h. h) (λ h. absurd (no_fault (clear_first distance-clear) h));
      whole = on_le (distance_in file) (length file) (λ h. h) (λ h. absurd (no_fault (clear_first length-clear) h));
      enough = on_le (count_in file) room (λ h. h) (λ h. absurd (no_fault (clear_next length-clear) h));
    }

-- the same of the check's outcome
pub good_if_ok : (file : List ℕ) (room : ℕ) (outcome : Result ⊤ Refusal) → (FileCheck file room then Passed) (checked outcome)
    → IfOk outcome (λ _. GoodFile file room)
good_if_ok file room (Ok _) p = good_file refl p
good_if_ok file room (Err refusal) p = tt
