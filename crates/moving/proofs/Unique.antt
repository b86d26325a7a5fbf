-- Two outcomes of moving that keep the promise are equal. Assumes nothing.
use Prim.Native.Nat.{ℕ}
use mathlib.Core.Path.{◌≡◌, sym, ◌∙◌}
use mathlib.Core.List.{List}
use lib.IntN.{ℤ, pos}
use Rattle.checks.specs.declared.Answer.{Answer}
use Rattle.day.specs.Windows.{at, windows}
use Rattle.day.specs.Moved.{Shifts}
use Rattle.checks.specs.Answer.{done}
use Rattle.day.proofs.Cases.{give, on_eq}
use Rattle.checks.proofs.Refusal.{code_of, IsCheck, passed_unique}
use Rattle.day.proofs.Changed.{filled_unique}
use Rattle.moving.specs.Moving.{RowsMoved, MovedList}
use Rattle.moving.proofs.Moving.{move_is_check}

pub shifts_unique : (by : ℤ) (x y z : ℕ) → Shifts by x y → Shifts by x z → y ≡ z
shifts_unique by x y z p q = let same : pos y ≡ pos z = sym p ∙ q in cc

rows_moved_unique : {by : ℤ} {releases deadlines rs ds rs-other ds-other : List ℕ} → RowsMoved by releases deadlines rs ds
    → RowsMoved by releases deadlines rs-other ds-other → (rs ≡ rs-other) × (ds ≡ ds-other)
rows_moved_unique {by} {releases} {deadlines} u v = (
  filled_unique (λ i. shifts_unique by (at releases i)) u.moved_releases v.moved_releases,
  filled_unique (λ i. shifts_unique by (at deadlines i)) u.moved_deadlines v.moved_deadlines,
)

pub moved_list_unique : {Check : Answer → Type 0} {slots : ℕ} {by : ℤ} {releases deadlines rs ds rs-other ds-other : List ℕ} {a b : Answer}
    → IsCheck Check → MovedList Check slots by releases deadlines a rs ds → MovedList Check slots by releases deadlines b rs-other ds-other
    → (a ≡ b) × (rs ≡ rs-other) × (ds ≡ ds-other)
moved_list_unique {slots = slots} {by} {releases} {deadlines} {a = a} {b} check p q =
    give (passed_unique (move_is_check check slots by (windows releases deadlines)) a b p.answer q.answer)
    (λ same.
    on_eq a.code done
    (λ e. give (rows_moved_unique (p.accepted e) (q.accepted (sym (code_of same) ∙ e))) (λ lists. (same, lists.0, lists.1)))
    (λ h.
    give (p.refused h)
    (λ u. give (q.refused (λ e. h (code_of same ∙ e))) (λ v. (same, u.0 ∙ sym v.0, u.1 ∙ sym v.1)))))
