-- Two outcomes of reading that satisfy the promise are equal. Assumes nothing.
use Prim.Native.Nat.{ℕ}
use mathlib.Core.Path.{◌≡◌, sym, ◌∙◌, ap}
use mathlib.Core.List.{List}
use Rattle.checks.specs.declared.Answer.{Answer}
use Rattle.day.specs.declared.Day.{Day}
use Rattle.checks.specs.Answer.{done}
use Rattle.day.proofs.Cases.{on_eq, give}
use Rattle.checks.proofs.Refusal.{code_of, passed_unique}
use Rattle.day.proofs.Changed.{filled_unique}
use Rattle.dayfile.specs.declared.reader.Reading.{Reading}
use Rattle.dayfile.specs.Reader.{no_reading, ReadPromise}
use Rattle.dayfile.proofs.Accepted.{file_is_check}
use Rattle.dayfile.proofs.RowsRead.{day_ext}

reading_ext : (r q : Reading) → r.answer ≡ q.answer → r.count ≡ q.count → r.day ≡ q.day → r ≡ q
reading_ext r q a c d = let same : reading_of r.answer r.count r.day ≡ q = rw (a, c, d) in same
  where
    reading_of : Answer → ℕ → Day → Reading
    reading_of answer count day = record { answer = answer; count = count; day = day }

pub read_unique : {file xs ys xs-after ys-after xs-other ys-other : List ℕ} {r q : Reading} → ReadPromise file xs ys r xs-after ys-after
    → ReadPromise file xs ys q xs-other ys-other → (r ≡ q) × (xs-after ≡ xs-other) × (ys-after ≡ ys-other)
read_unique {r = r} {q = q} p s =
    give (passed_unique (file_is_check _ _) r.answer q.answer p.answer s.answer)
    (λ same.
    give (code_of same)
    (λ code.
    on_eq r.answer.code done
    (λ e.
    give (p.accepted e)
    (λ u.
    give (s.accepted (sym code ∙ e))
    (λ v. (
      reading_ext r q same (u.count ∙ sym v.count) (day_ext r.day q.day (u.slots ∙ sym v.slots) (u.wake ∙ sym v.wake)),
      filled_unique (λ i y z e f. e ∙ sym f) u.first_releases v.first_releases,
      filled_unique (λ i y z e f. e ∙ sym f) u.first_deadlines v.first_deadlines,
    ))))
    (λ h.
    give (p.refused h)
    (λ u.
    give (s.refused (λ e. h (code ∙ e)))
    (λ v. (
      u.reading ∙ ap no_reading same ∙ sym v.reading,
      u.kept_releases ∙ sym v.kept_releases,
      u.kept_deadlines ∙ sym v.kept_deadlines,
    ))))))
