-- Two outcomes of writing that satisfy the promise are equal. Assumes nothing.
use Prim.Native.Nat.{ℕ}
use mathlib.Core.Path.{◌≡◌, sym, ◌∙◌}
use mathlib.Core.List.{List}
use Rattle.checks.specs.declared.Answer.{Answer}
use Rattle.day.specs.declared.Day.{Day}
use Rattle.checks.specs.Answer.{done}
use Rattle.day.proofs.Cases.{on_eq, give}
use Rattle.checks.proofs.Refusal.{code_of, passed_unique}
use Rattle.filewriter.specs.Writer.{WritePromise}
use Rattle.filewriter.proofs.Accepted.{room_is_check}

pub written_unique : {m : ℕ} {day : Day} {releases deadlines file after other : List ℕ} {a b : Answer}
    → WritePromise m day releases deadlines file a after → WritePromise m day releases deadlines file b other → (a ≡ b) × (after ≡ other)
written_unique {a = a} {b = b} p s =
    give (passed_unique (room_is_check _ _ _) a b p.answer s.answer)
    (λ same.
    give (code_of same)
    (λ code. (
      same,
      on_eq a.code done (λ e. (p.accepted e).between ∙ sym (s.accepted (sym code ∙ e)).between)
          (λ h. p.refused h ∙ sym (s.refused (λ e. h (code ∙ e)))),
    )))
