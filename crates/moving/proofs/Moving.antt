-- Laws of the promise of moving: when a window stays in the day, and what holds of a list that is moved. Assumes nothing.
use Prim.Native.Nat.{ℕ, ◌<◌, ◌≤◌}
use mathlib.Core.Path.{◌≡◌, refl}
use mathlib.Core.Logic.{◌⊎◌, inl, inr, ⊎_elim}
use mathlib.Core.List.{List}
use native.Mathlib.Omega.{arith}
use lib.ListN.{length}
use lib.IntN.{ℤ, pos, negsuc, ◌+ℤ◌}
use lib.Signed.{lt_z, ◌<ℤ◌}
use Rattle.std.proofs.lemmas.Int.{ints}
use Rattle.checks.specs.declared.Answer.{Answer}
use Rattle.day.specs.Windows.{Windows, windows}
use Rattle.day.specs.Moved.{Shifts, Moved}
use Rattle.checks.specs.Answer.{done}
use Rattle.checks.specs.Refusal.{◌then◌, Passed}
use Rattle.checks.specs.Check.{most_slots, most_jobs, TimesCheck, GoodRows}
use Rattle.day.proofs.Cases.{give, on, on_le}
use Rattle.checks.proofs.Refusal.{IsCheck, refuses_row_is_check, then_is_check, passed_clear, clear_first, clear_next, no_row_at_fault}
use Rattle.checks.proofs.Check.{times_is_check, clear_slots, clear_good_rows}
use Rattle.moving.specs.Moving.{WindowLeaves, MoveCheck, RowsMoved}
use Rattle.moving.specs.steps.Movable.{Movable}
use Rattle.moving.proofs.Signs.{below, not_below}

-- where a window goes that stays in the day
pub record Stays (slots : ℕ) (by : ℤ) (release deadline : ℕ) : Type 0 where
  pub begin : ℕ
  pub end : ℕ
  pub release_moved : Shifts by release begin
  pub deadline_moved : Shifts by deadline end
  pub order : begin < end
  pub inside : end ≤ slots

leaves_known : (slots : ℕ) (by : ℤ) (release deadline : ℕ) → WindowLeaves slots by release deadline ⊎ (WindowLeaves slots by release deadline → ⊥)
leaves_known slots by release deadline =
    on (lt_z (pos release +ℤ by) (pos 0)) (λ e. inl (inl (below _ _ e)))
    (λ e.
    on (lt_z (pos slots) (pos deadline +ℤ by)) (λ f. inl (inr (below _ _ f)))
    (λ f. inr (⊎_elim (not_below _ _ e) (not_below _ _ f))))

-- an integer that is not below 0 is a number, and so is one above a number
not_below_zero : (z : ℤ) → (z <ℤ pos 0 → ⊥) → (x : ℕ) × (z ≡ pos x)
not_below_zero (pos x) h = (x, refl)
not_below_zero (negsuc x) h = absurd (h (omega (arith, ints)))

above_number : (y : ℕ) (z : ℤ) → pos y <ℤ z → (x : ℕ) × (z ≡ pos x) × (y < x)
above_number y (pos x) h = (x, refl, omega (arith, ints))
above_number y (negsuc x) h = absurd (omega (arith, ints))

not_above : (x y : ℕ) → (pos x <ℤ pos y → ⊥) → y ≤ x
not_above x y h = on_le y x (λ l. l) (λ l. absurd (h (omega (arith, ints))))

pub stays : {slots : ℕ} {by : ℤ} {release deadline : ℕ} → release < deadline → (WindowLeaves slots by release deadline → ⊥)
    → Stays slots by release deadline
stays {slots} {by} {release} {deadline} h clear =
    give (not_below_zero (pos release +ℤ by) (λ l. clear (inl l)))
    (λ b.
    give (above_number b.0 (pos deadline +ℤ by) (omega (arith, ints, b.1)))
    (λ e.
    record {
      begin = b.0;
      end = e.0;
      release_moved = b.1;
      deadline_moved = e.1;
      order = e.2;
      inside = not_above slots e.0 (λ l. clear (inr (rw e.1 l)));
    }))

pub move_is_check : {Check : Answer → Type 0} → IsCheck Check → (slots : ℕ) (by : ℤ) (w : Windows) → IsCheck (MoveCheck Check slots by w)
move_is_check check slots by w = then_is_check check (refuses_row_is_check (λ e. omega arith))

-- what holds of a list that is not refused
pub record Acceptable (slots : ℕ) (by : ℤ) (w : Windows) : Type 0 where
  pub slots_limit : slots ≤ most_slots
  pub rows : GoodRows most_jobs slots w
  pub stay : (i : ℕ) → i < w.count → Stays slots by (w.release i) (w.deadline i)

pub acceptable : {slots : ℕ} {by : ℤ} {w : Windows} (a : Answer) → (MoveCheck (TimesCheck slots w) slots by w then Passed) a → a.code ≡ done
    → Acceptable slots by w
acceptable {slots} {by} {w} a p e =
    give (passed_clear (move_is_check times_is_check slots by w) a p e)
    (λ clear.
    give (clear_good_rows (clear_next (clear_first clear)))
    (λ good.
    record {
      slots_limit = (clear_slots (clear_first (clear_first clear))).1;
      rows = good;
      stay = λ i h.
          stays (good.window i h)
          (no_row_at_fault (λ j. leaves_known slots by (w.release j) (w.deadline j)) (clear_next clear) i h);
    }))

pub releases_movable : {slots : ℕ} {by : ℤ} (releases deadlines : List ℕ) → Acceptable slots by (windows releases deadlines)
    → Movable by (length releases) releases
releases_movable releases deadlines a i h =
    give (a.stay i h) (λ s. (s.begin, omega (arith, a.slots_limit), s.release_moved))

pub deadlines_movable : {slots : ℕ} {by : ℤ} (releases deadlines : List ℕ) → Acceptable slots by (windows releases deadlines)
    → Movable by (length releases) deadlines
deadlines_movable releases deadlines a i h =
    give (a.stay i h) (λ s. (s.end, omega (arith, a.slots_limit), s.deadline_moved))

-- the windows of a list whose rows are moved
pub windows_moved : {by : ℤ} {releases deadlines releases-after deadlines-after : List ℕ}
    → RowsMoved by releases deadlines releases-after deadlines-after
    → Moved by (windows releases deadlines) (windows releases-after deadlines-after)
windows_moved m = record { count = m.moved_releases.long; release = m.moved_releases.inside; deadline = m.moved_deadlines.inside }
