-- Laws of the checks that entry points share: each is a check, and what holds of a list that they accept. Assumes nothing.
use Prim.Native.Nat.{ℕ, ◌≤◌, ◌<◌}
use mathlib.Core.List.{List}
use mathlib.Core.Logic.{◌⊎◌, inl, inr, ⊎_elim}
use native.Mathlib.Omega.{arith}
use lib.ListN.{length, get_or-eq_default}
use Rattle.day.specs.declared.Power.{Power}
use Rattle.day.specs.declared.Day.{Day}
use Rattle.day.specs.Windows.{Windows, SameRows, windows}
use Rattle.day.proofs.Cases.{give, on_le}
use Rattle.checks.specs.declared.Answer.{Answer}
use Rattle.checks.specs.Answer.{bad_row}
use Rattle.checks.specs.Check.{
  most_slots,
  most_wake,
  most_jobs,
  SlotsCheck,
  PowerCheck,
  BadRow,
  JobsCheck,
  TimesCheck,
  ListCheck,
  GoodRows,
  Accepted,
}
use Rattle.checks.proofs.Refusal.{
  Avoids,
  refuses_avoids,
  refuses_row_avoids,
  then_avoids,
  IsCheck,
  refuses_is_check,
  refuses_row_is_check,
  then_is_check,
  then_clear,
  clear_first,
  clear_next,
  no_fault,
  no_row_at_fault,
}

pub slots_is_check : {limit slots : ℕ} → IsCheck (SlotsCheck limit slots)
slots_is_check = refuses_is_check (λ e. omega arith)

pub power_is_check : {power : Power} → IsCheck (PowerCheck power)
power_is_check = refuses_is_check (λ e. omega arith)

pub jobs_is_check : {limit slots : ℕ} {w : Windows} → IsCheck (JobsCheck limit slots w)
jobs_is_check = then_is_check (refuses_is_check (λ e. omega arith)) (refuses_row_is_check (λ e. omega arith))

pub times_is_check : {slots : ℕ} {w : Windows} → IsCheck (TimesCheck slots w)
times_is_check = then_is_check slots_is_check jobs_is_check

pub list_is_check : {day : Day} {w : Windows} → IsCheck (ListCheck day w)
list_is_check = then_is_check slots_is_check (then_is_check power_is_check jobs_is_check)

-- they have no code above 4
jobs_avoids : {code limit slots : ℕ} {w : Windows} → bad_row < code → Avoids code (JobsCheck limit slots w)
jobs_avoids h = then_avoids (refuses_avoids (λ e. omega arith)) (refuses_row_avoids (λ e. omega arith))

pub times_avoids : {code slots : ℕ} {w : Windows} → bad_row < code → Avoids code (TimesCheck slots w)
times_avoids h = then_avoids (refuses_avoids (λ e. omega arith)) (jobs_avoids h)

pub list_avoids : {code : ℕ} {day : Day} {w : Windows} → bad_row < code → Avoids code (ListCheck day w)
list_avoids h = then_avoids (refuses_avoids (λ e. omega arith)) (then_avoids (refuses_avoids (λ e. omega arith)) (jobs_avoids h))

-- whether a row is bad is known
pub bad_row_known : (slots : ℕ) (w : Windows) (i : ℕ) → BadRow slots w i ⊎ (BadRow slots w i → ⊥)
bad_row_known slots w i =
    on_le (w.deadline i) (w.release i) (λ h. inl (inl h))
    (λ h. on_le (w.deadline i) slots (λ l. inr (⊎_elim (λ z. omega arith) (λ z. omega arith))) (λ l. inl (inr l)))

-- good rows are not refused
pub good_rows_clear : {limit slots : ℕ} {w : Windows} → GoodRows limit slots w → (b : Answer) → JobsCheck limit slots w b → ⊥
good_rows_clear good =
    then_clear (λ b r. omega (arith, r.fault))
    (λ b r.
    ⊎_elim (λ z. omega (arith, good.window _ r.first.within)) (λ z. omega (arith, good.in_day _ r.first.within))
    r.first.fault)

-- rows that are not refused are good
pub clear_good_rows : {limit slots : ℕ} {w : Windows} → ((b : Answer) → JobsCheck limit slots w b → ⊥) → GoodRows limit slots w
clear_good_rows {limit} {slots} {w} clear =
    give (no_row_at_fault (bad_row_known slots w) (clear_next clear))
    (λ none.
    record {
      count = on_le w.count limit (λ h. h) (λ h. absurd (no_fault (clear_first clear) h));
      window = λ i l. on_le (w.deadline i) (w.release i) (λ h. absurd (none i l (inl h))) (λ h. h);
      in_day = λ i l. on_le (w.deadline i) slots (λ h. h) (λ h. absurd (none i l (inr h)));
    })

-- the rows are good on a longer day too
pub good_rows_longer : {limit slots longer : ℕ} {w : Windows} → slots ≤ longer → GoodRows limit slots w → GoodRows limit longer w
good_rows_longer h good =
    record { count = good.count; window = good.window; in_day = λ i l. omega (arith, good.in_day i l) }

-- a day whose length is not refused
pub clear_slots : {limit slots : ℕ} → ((b : Answer) → SlotsCheck limit slots b → ⊥) → (0 < slots) × (slots ≤ limit)
clear_slots {limit} {slots} clear =
    give (no_fault clear)
    (λ right. (
      on_le slots 0 (λ h. absurd (right (inl (omega arith)))) (λ h. h),
      on_le slots limit (λ h. h) (λ h. absurd (right (inr h))),
    ))

-- a day of a right length with good rows is not refused
pub times_clear : {slots : ℕ} {w : Windows} → 0 < slots → slots ≤ most_slots → GoodRows most_jobs slots w → (b : Answer)
    → TimesCheck slots w b → ⊥
times_clear some within good =
    then_clear (λ b r. ⊎_elim (λ z. omega arith) (λ z. omega arith) r.fault) (good_rows_clear good)

-- an accepted list is not refused
pub accepted_clear : {day : Day} {w : Windows} → Accepted day w → (b : Answer) → ListCheck day w b → ⊥
accepted_clear accepted =
    then_clear (clear_first (times_clear accepted.some_slots accepted.slots accepted.rows))
    (then_clear (λ b r. omega (arith, r.fault)) (good_rows_clear accepted.rows))

-- a list that is not refused is accepted
pub clear_accepted : {day : Day} {w : Windows} → ((b : Answer) → ListCheck day w b → ⊥) → Accepted day w
clear_accepted {day} clear =
    give (clear_slots (clear_first clear))
    (λ slots-right.
    record {
      some_slots = slots-right.0;
      slots = slots-right.1;
      wake =
          on_le day.power.wake most_wake (λ h. h) (λ h. absurd (no_fault (clear_first (clear_next clear)) h));
      rows = clear_good_rows (clear_next (clear_next clear));
    })

-- only the rows matter
pub accepted_cong : {day : Day} {w v : Windows} → SameRows w v → Accepted day w → Accepted day v
accepted_cong {day} {w} {v} same accepted =
    record {
      some_slots = accepted.some_slots;
      slots = accepted.slots;
      wake = accepted.wake;
      rows =
          record {
            count = omega (arith, same.count, accepted.rows.count);
            window = λ i l.
                let k : i < w.count = omega (arith, same.count) in
                omega (arith, same.release i k, same.deadline i k, accepted.rows.window i k);
            in_day = λ i l.
                let k : i < w.count = omega (arith, same.count) in
                omega (arith, same.deadline i k, accepted.rows.in_day i k);
          };
    }

-- the rows of an accepted list of numbers all have a deadline
pub good_rows_deadlines : {limit slots : ℕ} (releases deadlines : List ℕ) → GoodRows limit slots (windows releases deadlines)
    → length releases ≤ length deadlines
good_rows_deadlines releases deadlines good =
    on_le (length releases) (length deadlines) (λ h. h)
    (λ h.
    let past : length deadlines ≤ length deadlines = omega arith in
    absurd (omega (arith, good.window (length deadlines) h, get_or-eq_default deadlines 0 past)))
