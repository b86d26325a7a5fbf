-- Laws of how a claimed plan is judged. Assumes nothing.
use Prim.Native.Nat.{ℕ, ◌+◌, ◌≤◌, ◌<◌}
use mathlib.Core.Path.{◌≡◌, refl, sym, ap}
use mathlib.Core.List.{List}
use mathlib.Core.Logic.{inl, inr, ⊎_elim}
use native.Mathlib.Omega.{arith}
use lib.ListN.{length, take}
use lib.Seq.{get_or-take, length-take-le}
use Rattle.std.specs.Prelude.{Ok, Err}
use Rattle.checks.specs.declared.Answer.{Answer}
use Rattle.checks.specs.declared.outcome.Refusal.{Refusal}
use Rattle.day.specs.declared.Day.{Day}
use Rattle.day.specs.Windows.{Windows, SameRows, at}
use Rattle.day.specs.Plan.{MayStart}
use Rattle.checks.specs.Answer.{says, done, few_starts, outside_window, same_start}
use Rattle.checks.specs.Refusal.{◌then◌, goes_on, Passed}
use Rattle.checks.specs.Check.{most_slots, GoodRows, Accepted, ListCheck}
use Rattle.day.proofs.Cases.{on_le, on_eq}
use Rattle.day.proofs.Plan.{same_rows_turned}
use Rattle.checks.proofs.Refusal.{IsCheck, refuses_is_check, refuses_row_is_check, refuses_pair_is_check, code_of, then_is_check, then_done, then_clear, then_next, then_as, passed_clear, clear_first, clear_next, no_fault, no_row_at_fault, no_pair_at_fault}
use Rattle.checks.proofs.Refused.{refused_not_done}
use Rattle.checks.proofs.Check.{list_is_check, clear_accepted}
use Rattle.checks.proofs.Decided.{Known, Decided, above_known, then_decided, refuses_decided, refuses_row_decided, refuses_pair_decided}
use Rattle.claim.specs.Claim.{Fit, OutsideWindow, Together, LengthCheck, WindowsCheck, ApartCheck, StartsCheck, ClaimCheck, plan_cost}
use Rattle.claim.specs.steps.Starts.{PricedStarts}
use Rattle.claim.specs.Rows.{claimed, RowsBeside, Judged}
use Rattle.claim.proofs.Rows.{Cut, rows_cut, rows_none}

pub length_is_check : (w : Windows) (starts : List ℕ) → IsCheck (LengthCheck w starts)
length_is_check w starts = refuses_is_check (λ e. omega arith)

pub windows_is_check : (w : Windows) (starts : List ℕ) → IsCheck (WindowsCheck w starts)
windows_is_check w starts = refuses_row_is_check (λ e. omega arith)

pub apart_is_check : (n : ℕ) (starts : List ℕ) → IsCheck (ApartCheck n starts)
apart_is_check n starts = refuses_pair_is_check (λ e. omega arith)

pub starts_is_check : (w : Windows) (starts : List ℕ) → IsCheck (StartsCheck w starts)
starts_is_check w starts =
    then_is_check (length_is_check w starts) (then_is_check (windows_is_check w starts) (apart_is_check w.count starts))

pub claim_is_check : {Check : Answer → Type 0} → IsCheck Check → (w : Windows) (starts : List ℕ) → IsCheck (ClaimCheck Check w starts)
claim_is_check check w starts = then_is_check check (starts_is_check w starts)

-- of the first n starts, as a list of their own
pub apart_of_first : (n : ℕ) (starts : List ℕ) (a : Answer) → n ≤ length starts
    → (ApartCheck (length (take n starts)) (take n starts) then Passed) a → (ApartCheck n starts then Passed) a
apart_of_first n starts a h p = then_as (apart (take n starts) starts there back) (apart starts (take n starts) back there) (λ b e. e) a (rw (length-take-le n starts h) at p)
  where
    Same : List ℕ → List ℕ → Type 0
    Same xs ys = (i j : ℕ) → i < j → j < n → Together xs i j → Together ys i j

    there : Same (take n starts) starts
    there i j o w q = rw (get_or-take n starts i 0 (omega arith), get_or-take n starts j 0 w) at q

    back : Same starts (take n starts)
    back i j o w q = rw (get_or-take n starts i 0 (omega arith), get_or-take n starts j 0 w) q

    apart : (xs ys : List ℕ) → Same xs ys → Same ys xs → (b : Answer) → ApartCheck n xs b → ApartCheck n ys b
    apart xs ys to from b p =
        record {
          row = p.row;
          partner = p.partner;
          first =
              record {
                order = p.first.order;
                within = p.first.within;
                fault = to p.row p.partner p.first.order p.first.within p.first.fault;
                lowest = λ k l below order within q. p.first.lowest k l below order within (from k l order within q);
                partner = λ l order below q. p.first.partner l order below (from p.row l order (omega (arith, p.first.within)) q);
              };
          says = p.says;
        }

may_start_known : (w : Windows) (i t : ℕ) → Known (MayStart w i t)
may_start_known w i t =
    on_le (w.release i) t
    (λ h. on_le (t + 1) (w.deadline i) (λ l. inl (h, l)) (λ l. inr (λ m. omega (arith, m.1))))
    (λ h. inr (λ m. omega (arith, m.0)))

outside_known : (w : Windows) (starts : List ℕ) (i : ℕ) → Known (OutsideWindow w starts i)
outside_known w starts i = ⊎_elim (λ m. inr (λ out. out m)) (λ out. inl out) (may_start_known w i (at starts i))

together_known : (starts : List ℕ) (i j : ℕ) → Known (Together starts i j)
together_known starts i j = on_eq (at starts i) (at starts j) (λ e. inl e) (λ e. inr e)

pub claim_decided : {Check : Answer → Type 0} → Decided Check → (w : Windows) (starts : List ℕ) → Decided (ClaimCheck Check w starts)
claim_decided check w starts =
    then_decided check
    (then_decided (refuses_decided few_starts (above_known (length starts) w.count))
    (then_decided (refuses_row_decided outside_window w.count (outside_known w starts))
    (refuses_pair_decided same_start w.count (together_known starts))))

-- a plan with nothing to refuse is fit
pub clear_fit : (w : Windows) (starts : List ℕ) → ((b : Answer) → StartsCheck w starts b → ⊥) → Fit w starts
clear_fit w starts clear =
    record {
      long = on_le w.count (length starts) (λ h. h) (λ h. absurd (no_fault (clear_first clear) h));
      proper = record { inside = inside; apart = apart };
    }
  where
    inside : (i : ℕ) → i < w.count → MayStart w i (at starts i)
    inside i h =
        ⊎_elim (λ m. m) (λ m. absurd (no_row_at_fault (outside_known w starts) (clear_first (clear_next clear)) i h m))
        (may_start_known w i (at starts i))

    none_together : (i j : ℕ) → i < j → j < w.count → Together starts i j → ⊥
    none_together = no_pair_at_fault (together_known starts) w.count (clear_next (clear_next clear))

    apart : (i j : ℕ) → i < w.count → j < w.count → at starts i ≡ at starts j → i ≡ j
    apart i j h l e =
        on_eq i j (λ q. q)
        (λ q. on_le i j (λ o. absurd (none_together i j (omega arith) l e)) (λ o. absurd (none_together j i o h (sym e))))

-- and of a fit plan nothing is refused
pub fit_clear : (w : Windows) (starts : List ℕ) → Fit w starts → (b : Answer) → StartsCheck w starts b → ⊥
fit_clear w starts fit =
    then_clear (λ b r. omega (arith, r.fault, fit.long))
    (then_clear (λ b r. r.first.fault (fit.proper.inside r.row r.first.within))
    (λ b r.
    omega (
      arith,
      r.first.order,
      fit.proper.apart r.row r.partner (omega (arith, r.first.order, r.first.within)) r.first.within r.first.fault,
    )))

-- a plan that was judged and not refused is fit
pub passed_fit : {Next : Answer → Type 0} (w : Windows) (starts : List ℕ) (a : Answer) → (StartsCheck w starts then Next) a
    → a.code ≡ done → Fit w starts
passed_fit w starts a p e = clear_fit w starts (passed_clear (starts_is_check w starts) a p e)

-- the starts of a fit plan are slots of the day
pub fit_below : {limit slots : ℕ} {w : Windows} {starts : List ℕ} → GoodRows limit slots w → Fit w starts → (i : ℕ) → i < w.count
    → at starts i < slots
fit_below good fit i h = omega (arith, good.in_day i h, fit.proper.inside i h)

-- so are the first ones, as a list of their own
pub fit_first_below : {limit slots : ℕ} {w : Windows} {starts : List ℕ} → GoodRows limit slots w → Fit w starts → (i : ℕ)
    → i < length (take w.count starts) → at (take w.count starts) i < slots
fit_first_below {w = w} {starts} good fit i h =
    let within : i < w.count = omega (arith, length-take-le w.count starts fit.long) in
    omega (arith, get_or-take w.count starts i 0 within, fit_below good fit i within)

-- a refusal leaves no rows
pub refused_rows : (w : Windows) (starts : List ℕ) (refusal : Refusal) → RowsBeside w starts (claimed (Err refusal))
refused_rows w starts refusal =
    record { accepted = λ e. absurd (refused_not_done refusal e); refused = λ e. rows_none (at starts) }

-- a list that was checked and not refused is accepted
pub passed_accepted : {day : Day} {w : Windows} (a : Answer) → (ListCheck day w then Passed) a → a.code ≡ done → Accepted day w
passed_accepted a p e = clear_accepted (passed_clear list_is_check a p e)

-- pricing answers 0 exactly for a fit plan, and then with its cost
pub priced_fit : (day : Day) (w : Windows) (starts : List ℕ) (a : Answer) → PricedStarts day w starts a → a.code ≡ done
    → Fit w starts × (a.first ≡ plan_cost day w starts)
priced_fit day w starts a p e = (passed_fit w starts a p e, ap (λ (x : Answer). x.first) (then_done (starts_is_check w starts) a p e))

pub priced_unfit : (day : Day) (w : Windows) (starts : List ℕ) (a : Answer) → PricedStarts day w starts a
    → (a.code ≡ done → ⊥) → Fit w starts → ⊥
priced_unfit day w starts a p e fit = e (code_of (then_next (fit_clear w starts fit) a p))

-- only the rows matter

outside_cong : (w v : Windows) (starts : List ℕ) → SameRows w v → (i : ℕ) → i < w.count → OutsideWindow w starts i
    → OutsideWindow v starts i
outside_cong w v starts same i h out may =
    out (omega (arith, same.release i h, may.0), omega (arith, same.deadline i h, may.1))

length_check_cong : (w v : Windows) (starts : List ℕ) → SameRows w v → (b : Answer) → LengthCheck w starts b → LengthCheck v starts b
length_check_cong w v starts same b p = record { fault = omega (arith, same.count, p.fault); says = p.says }

windows_check_cong : (w v : Windows) (starts : List ℕ) → SameRows w v → (b : Answer) → WindowsCheck w starts b → WindowsCheck v starts b
windows_check_cong w v starts same b p =
    record {
      row = p.row;
      first =
          record {
            within = omega (arith, same.count, p.first.within);
            fault = outside_cong w v starts same p.row p.first.within p.first.fault;
            lowest = λ j h out.
                p.first.lowest j h
                (outside_cong v w starts (same_rows_turned w v same) j (omega (arith, same.count, p.first.within)) out);
          };
      says = p.says;
    }

starts_check_cong : (w v : Windows) (starts : List ℕ) → SameRows w v → (b : Answer) → StartsCheck w starts b → StartsCheck v starts b
starts_check_cong w v starts same =
    let back : SameRows v w = same_rows_turned w v same in
    then_as (length_check_cong w v starts same) (length_check_cong v w starts back)
    (then_as (windows_check_cong w v starts same) (windows_check_cong v w starts back) (λ b p. rw same.count p))

pub priced_cong : (day : Day) (w v : Windows) (starts : List ℕ) → SameRows w v → (a : Answer) → PricedStarts day w starts a
    → PricedStarts day v starts a
priced_cong day w v starts same =
    then_as (starts_check_cong w v starts same) (starts_check_cong v w starts (same_rows_turned w v same)) (λ b e. rw same.count e)

module _ {Check : Answer → Type 0} {w : Windows} {starts rows : List ℕ} (check : IsCheck Check)
    (p : Judged Check w starts (claimed (Ok rows))) where
  judged_clear : (b : Answer) → ClaimCheck Check w starts b → ⊥
  judged_clear = passed_clear (claim_is_check check w starts) (says done 0 0) p.answer refl

  -- after a plan that was judged and not refused, what comes next answers
  pub judged_next : {Next : Answer → Type 0} (a : Answer) → Next a → (ClaimCheck Check w starts then Next) a
  judged_next a = goes_on judged_clear

-- by codes 1 to 4 the day's slots are a part of the rows
module _ {day : Day} {w : Windows} {starts rows : List ℕ} (p : Judged (ListCheck day w) w starts (claimed (Ok rows))) where
  pub judged_slots : day.slots ≤ most_slots
  judged_slots = (clear_accepted (clear_first (judged_clear list_is_check p))).slots

  pub judged_cut : (slots : ℕ) → slots ≡ day.slots → Cut rows slots
  judged_cut slots here = rows_cut (p.rows.accepted refl) slots (omega (arith, judged_slots))
