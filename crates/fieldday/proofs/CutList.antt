-- Laws of the cut list: it is accepted, with a good row last too; what columns hold of it; and a new row without a slot leaves no plan. Assumes
-- nothing.
use Prim.Native.Nat.{ℕ, ◌+◌, ◌≤◌, ◌<◌}
use mathlib.Core.Path.{◌≡◌, sym, ap, ◌∙◌}
use mathlib.Core.List.{List, [], ◌∷◌}
use native.Mathlib.Omega.{arith}
use lib.ListN.{length, take, set, length-set}
use lib.Seq.{length-take-le, get_or-take, get_or-set_same, get_or-set_other}
use Rattle.day.specs.Windows.{Windows, SameRows, windows, at}
use Rattle.day.specs.Plan.{NoPlan}
use Rattle.day.specs.Joined.{beside}
use Rattle.day.proofs.Cases.{on_eq}
use Rattle.day.proofs.Plan.{same_rows_turned}
use Rattle.day.proofs.Joined.{beside_last, beside_first}
use Rattle.day.proofs.Beside.{second_no_plan}
use Rattle.checks.specs.declared.Answer.{Answer}
use Rattle.checks.specs.Answer.{done}
use Rattle.checks.specs.Refusal.{goes_on}
use Rattle.checks.specs.Check.{most_jobs, Accepted}
use Rattle.checks.specs.Planned.{Planned}
use Rattle.checks.specs.steps.Never.{Never}
use Rattle.checks.proofs.Refusal.{then_clear, then_next, group_next}
use Rattle.checks.proofs.Check.{accepted_clear, accepted_cong}
use Rattle.checks.proofs.Planned.{never_clear, planned_by, planned_cong}
use Rattle.claim.specs.Claim.{PricePromise}
use Rattle.claim.specs.steps.Starts.{PricedStarts}
use Rattle.claim.proofs.Claim.{priced_cong}
use Rattle.planner.specs.Table.{need}
use Rattle.planner.specs.Promise.{PlanCheck, PlanPromise}
use Rattle.fieldday.specs.declared.FieldDay.{FieldDay}
use Rattle.cutlist.specs.declared.CutRows.{CutRows}
use Rattle.cutlist.specs.Cut.{raised}
use Rattle.fieldday.specs.Held.{cut_held, one_row, cut_with}
use Rattle.fieldday.specs.steps.Sound.{Sound}
use Rattle.cutlist.specs.CutRows.{HoldsCut}
use Rattle.fieldday.specs.steps.NewRow.{NewRowFits}
use Rattle.cutlist.proofs.CutWindow.{raised_from, raised_below, cut_from, cut_before, cut_within}
use Rattle.fieldday.proofs.NewRow.{with_row_accepted}

-- the start of each row holds its window open
pub cut_accepted : {f : FieldDay} → Sound f → Accepted f.day (cut_held f)
cut_accepted {f} sound =
    record {
      some_slots = sound.accepted.some_slots;
      slots = sound.accepted.slots;
      wake = sound.accepted.wake;
      rows =
          record {
            count = sound.accepted.rows.count;
            window = λ i l.
                let may = sound.fit.proper.inside i l in
                omega (arith, cut_from f.slot _ _ _ may.0 may.1, cut_before f.slot _ _ _ may.0 may.1);
            in_day = λ i l.
                let may = sound.fit.proper.inside i l in
                omega (arith, cut_within f.slot _ _ _ may.0 may.1, sound.accepted.rows.in_day i l);
          };
    }

-- and so does the raised window of a new row that has a slot left
pub cut_with_accepted : {f : FieldDay} {release deadline : ℕ} {table : List ℕ} → Sound f → NewRowFits f release deadline table
    → f.slot < deadline → Accepted f.day (cut_with f release deadline)
cut_with_accepted {f} {release} {deadline} sound fits h =
    with_row_accepted (cut_accepted sound) fits.count (raised_below f.slot release deadline h fits.window) fits.in_day

-- a new row that ends by the current slot has no start
pub no_slot_left : (f : FieldDay) (release deadline : ℕ) → deadline ≤ f.slot → NoPlan (cut_with f release deadline)
no_slot_left f release deadline h =
    second_no_plan (cut_held f) (one_row (raised f.slot release) deadline)
    (λ p P. omega (arith, P.inside 0 (omega arith), raised_from f.slot release))

-- the first places of a list of numbers, where it is known what they hold
column : {f : ℕ → ℕ} (xs : List ℕ) (n : ℕ) → ((i : ℕ) → i < n → at xs i ≡ f i) → (i : ℕ) → i < n → at (take n xs) i ≡ f i
column xs n each i h = get_or-take n xs i 0 h ∙ each i h

-- and a number put after them
column_with : {f : ℕ → ℕ} (xs : List ℕ) (n x : ℕ) → n < length xs → ((i : ℕ) → i < n → at xs i ≡ f i) → (i : ℕ) → i < n + 1
    → at (take (n + 1) (set xs n x)) i ≡ beside n f (at (x ∷ [])) i
column_with {f} xs n x room each i h =
    get_or-take (n + 1) (set xs n x) i 0 h
    ∙ on_eq i n (λ e. rw e (get_or-set_same xs n x 0 room ∙ sym (beside_last n f (at (x ∷ [])))))
    (λ e. get_or-set_other xs n i x 0 e ∙ each i (omega arith) ∙ sym (beside_first n f (at (x ∷ [])) i (omega arith)))

module _ (f : FieldDay) {c : CutRows} (h : HoldsCut f.slot f.count f.releases f.deadlines f.starts c) where
  releases_cut : (i : ℕ) → i < f.count → at c.releases i ≡ (cut_held f).release i
  releases_cut i l = rw (get_or-take f.count f.releases i 0 l) (h.releases.inside i l)

  deadlines_cut : (i : ℕ) → i < f.count → at c.deadlines i ≡ (cut_held f).deadline i
  deadlines_cut i l = rw (get_or-take f.count f.deadlines i 0 l) (h.deadlines.inside i l)

  -- the first places of the columns are the cut list
  pub columns_cut : (n : ℕ) → n ≡ f.count → n ≤ most_jobs → SameRows (windows (take n c.releases) (take n c.deadlines)) (cut_held f)
  columns_cut n e few =
      let long : length (take n c.releases) ≡ n = length-take-le n c.releases (omega (arith, h.releases.long)) in
      record {
        count = sym (long ∙ e);
        release = λ i l. column c.releases n (λ i l. releases_cut i (omega arith)) i (omega arith);
        deadline = λ i l. column c.deadlines n (λ i l. deadlines_cut i (omega arith)) i (omega arith);
      }

  -- with a row put after them
  pub columns_with : (release deadline n x : ℕ) → n ≡ f.count → n < most_jobs → x ≡ raised f.slot release
      → SameRows (windows (take (n + 1) (set c.releases n x)) (take (n + 1) (set c.deadlines n deadline))) (cut_with f release deadline)
  columns_with release deadline n x e room r =
      let last = raised f.slot release in
      let long : length (take (f.count + 1) (set c.releases f.count last)) ≡ f.count + 1 =
      length-take-le (f.count + 1) (set c.releases f.count last) (simp length-set (omega (arith, h.releases.long))) in
      rw (e, r)
      record {
        count = sym long;
        release = λ i l. column_with c.releases f.count last (omega (arith, h.releases.long)) releases_cut i (omega arith);
        deadline = λ i l. column_with c.deadlines f.count deadline (omega (arith, h.deadlines.long)) deadlines_cut i (omega arith);
      }

-- a plan for columns that hold the cut list is priced as one for the cut list
pub cut_priced : {f : FieldDay} {w : Windows} {a : Answer} (server : List ℕ) → Sound f → SameRows w (cut_held f)
    → PricePromise f.day w server a → PricedStarts f.day (cut_held f) server a
cut_priced {f} {w} {a} server sound same p =
    priced_cong f.day w (cut_held f) server same a
    (group_next (accepted_clear (accepted_cong (same_rows_turned w (cut_held f) same) (cut_accepted sound))) a p)

-- columns that hold the cut list with a new row are planned as it is, and no check refuses them
pub cut_planned : {f : FieldDay} {w : Windows} {release deadline : ℕ} {table : List ℕ} {a : Answer} {p t : List ℕ} → Sound f
    → NewRowFits f release deadline table → f.slot < deadline → length f.starts ≡ most_jobs → SameRows w (cut_with f release deadline)
    → PlanPromise f.day w f.starts table a p t
    → Planned Never (need f.day.slots (f.count + 1)) f.day (cut_with f release deadline) f.starts table a p t
cut_planned {f} {w} {release} {deadline} {table} {a} sound fits h places same P =
    planned_cong same (rw same.count (planned_by Never _ f.day w f.starts table (goes_on never_clear (then_next clear a P.answer)) P))
  where
    accepted : Accepted f.day w
    accepted = accepted_cong (same_rows_turned w (cut_with f release deadline) same) (cut_with_accepted sound fits h)

    clear : (b : Answer) → PlanCheck f.day w f.starts table b → ⊥
    clear =
        then_clear (accepted_clear accepted)
        (then_clear (λ b r. omega (arith, r.fault, accepted.rows.count)) (λ b r. omega (arith, r.fault, fits.room, ap (need f.day.slots) same.count)))

-- the columns of the cut list with a new row put after them, planned
module _ {f : FieldDay} {c : CutRows} {release deadline n x : ℕ} {table : List ℕ} {a : Answer} {p t : List ℕ} (sound : Sound f)
    (fits : NewRowFits f release deadline table) (later : f.slot < deadline) (places : length f.starts ≡ most_jobs)
    (cut : HoldsCut f.slot f.count f.releases f.deadlines f.starts c) (last : n ≡ f.count) (raise : x ≡ raised f.slot release)
    (P : PlanPromise f.day (windows (take (n + 1) (set c.releases n x)) (take (n + 1) (set c.deadlines n deadline))) f.starts table a p t) where
  pub cut_replanned : Planned Never (need f.day.slots (f.count + 1)) f.day (cut_with f release deadline) f.starts table a p t
  cut_replanned = cut_planned sound fits later places (columns_with f cut release deadline n x last (omega (arith, fits.count)) raise) P

  -- where no plan is found the starts are those that there were
  pub cut_unplanned : (a.code ≡ done → ⊥) → Planned Never (need f.day.slots (f.count + 1)) f.day (cut_with f release deadline) f.starts table a f.starts t
  cut_unplanned h = rw (P.unplanned h) at cut_replanned
