-- What is copied of a list from a row on: the first 41 numbers of what is left of its two columns. Of at most 40 rows that is all of them, and of a longer list
-- it is more than 40. Assumes nothing.
use Prim.Native.Nat.{ℕ, zero, suc, ◌-◌, ◌<◌, ◌≤◌}
use mathlib.Core.Path.{◌≡◌, refl, sym, ◌∙◌, ap}
use mathlib.Core.List.{List, [], ◌∷◌, ◌++◌, map}
use native.Mathlib.Omega.{arith}
use native.Mathlib.Nat.{min-le_left, min-le_right, min-eq_left, min-eq_right}
use lib.ListN.{length, get_or, set, take, drop, length-map, length-set, length-drop}
use lib.Seq.{length-take-le, take-suc, take-suc-set, take_all}
use Rattle.day.proofs.Cases.{on_le}
use Rattle.day.specs.declared.Job.{Job}
use Rattle.day.specs.Windows.{Windows, at, windows}
use Rattle.checks.specs.Check.{most_jobs}
use Rattle.rows.specs.declared.Rows.{Rows}
use Rattle.rows.specs.Rows.{no_job, copy_count, no_rows, with_job, rows_from, rows_of}
use Rattle.rows.specs.steps.InRows.{releases_in, deadlines_in, windows_in, RowsFit}
use Rattle.rows.specs.Columns.{releases, deadlines, windows_of}

-- a number of each record of a list, which is 0 of the record that stands for none
pub at_column : (f : Job → ℕ) → f no_job ≡ 0 → (jobs : List Job) (i : ℕ) → at (map f jobs) i ≡ f (get_or jobs i no_job)
at_column f e [] i = sym e
at_column f e (job ∷ jobs) zero = refl
at_column f e (job ∷ jobs) (suc i) = at_column f e jobs i

rows_count : (rows : Rows) (k : ℕ) (jobs : List Job) → (rows_from rows k jobs).count ≡ rows.count
rows_count rows zero jobs = refl
rows_count rows (suc k) jobs = rows_count rows k jobs

pub copied_count : (from : ℕ) (jobs : List Job) → (rows_of from jobs).count ≡ copy_count (length jobs) from
copied_count from jobs = rows_count (no_rows (copy_count (length jobs) from)) (copy_count (length jobs) from) (drop from jobs)

-- either column: the number that a record has in it, and where rows have it
module _ (f : Job → ℕ) (nothing : f no_job ≡ 0) (column : Rows → List ℕ) (places : (n : ℕ) → length (column (no_rows n)) ≡ 41) (sets : (rows : Rows) (i : ℕ) (job : Job) → column (with_job rows i job) ≡ set (column rows) i (f job)) where
  column_long : (rows : Rows) (k : ℕ) (jobs : List Job) → length (column (rows_from rows k jobs)) ≡ length (column rows)
  column_long rows zero jobs = refl
  column_long rows (suc k) jobs =
      ap length (sets (rows_from rows k jobs) k (get_or jobs k no_job)) ∙ length-set (column (rows_from rows k jobs)) k (f (get_or jobs k no_job)) ∙ column_long rows k jobs

  column_is : (rows : Rows) (k : ℕ) (jobs : List Job) → k ≤ length (column rows) → k ≤ length jobs → take k (column (rows_from rows k jobs)) ≡ take k (map f jobs)
  column_is rows zero jobs h l = refl
  column_is rows (suc k) jobs h l =
      ap (take (suc k)) (sets (rows_from rows k jobs) k (get_or jobs k no_job))
      ∙ take-suc-set (column (rows_from rows k jobs)) k (f (get_or jobs k no_job)) (omega (arith, column_long rows k jobs))
      ∙ ap (λ (xs : List ℕ). xs ++ (f (get_or jobs k no_job) ∷ [])) (column_is rows k jobs (omega arith) (omega arith))
      ∙ ap (λ (x : ℕ). take k (map f jobs) ++ (x ∷ [])) (sym (at_column f nothing jobs k))
      ∙ sym (take-suc (map f jobs) k 0 (omega (arith, length-map jobs f)))

  module _ (from : ℕ) (jobs : List Job) where
    abbrev n : ℕ
    n = copy_count (length jobs) from

    column_fits : (rows_of from jobs).count ≤ length (column (rows_of from jobs))
    column_fits = omega (arith, copied_count from jobs, column_long (no_rows n) n (drop from jobs), places n, min-le_left 41 (length jobs - from))

    -- a list's first n are its first 41, where it has no more
    first : (xs : List ℕ) → length xs ≡ length jobs - from → take n xs ≡ take 41 xs
    first xs e =
        on_le 41 (length jobs - from) (λ h. ap (λ (k : ℕ). take k xs) (min-eq_left h))
        (λ h. take_all n xs (omega (arith, min-eq_right {n = length jobs - from} {m = 41} (omega (arith, h)))) ∙ sym (take_all 41 xs (omega (arith, h))))

    column_copied : take (rows_of from jobs).count (column (rows_of from jobs)) ≡ take 41 (map f (drop from jobs))
    column_copied =
        ap (λ (k : ℕ). take k (column (rows_of from jobs))) (copied_count from jobs)
        ∙ column_is (no_rows n) n (drop from jobs) (omega (arith, places n, min-le_left 41 (length jobs - from))) (omega (arith, length-drop from jobs, min-le_right 41 (length jobs - from)))
        ∙ first (map f (drop from jobs)) (length-map (drop from jobs) f ∙ length-drop from jobs)

module _ (from : ℕ) (jobs : List Job) where
  pub copied_releases : releases_in (rows_of from jobs) ≡ take 41 (releases (drop from jobs))
  copied_releases = column_copied (λ job. job.release) refl (λ rows. rows.releases) (λ _. refl) (λ rows i job. refl) from jobs

  pub copied_deadlines : deadlines_in (rows_of from jobs) ≡ take 41 (deadlines (drop from jobs))
  copied_deadlines = column_copied (λ job. job.deadline) refl (λ rows. rows.deadlines) (λ _. refl) (λ rows i job. refl) from jobs

  pub rows_fit : {rows : Rows} → rows ≡ rows_of from jobs → RowsFit rows
  rows_fit e =
      rw e (record {
        releases = column_fits (λ job. job.release) refl (λ rows. rows.releases) (λ _. refl) (λ rows i job. refl) from jobs;
        deadlines = column_fits (λ job. job.deadline) refl (λ rows. rows.deadlines) (λ _. refl) (λ rows i job. refl) from jobs;
      })

-- a whole list
module _ (jobs : List Job) where
  pub few_count : length jobs ≤ most_jobs → (rows_of 0 jobs).count ≡ length jobs
  few_count h = omega (arith, copied_count 0 jobs, min-eq_right {n = length jobs - 0} {m = 41} (omega arith))

  pub few_releases : length jobs ≤ most_jobs → releases_in (rows_of 0 jobs) ≡ releases jobs
  few_releases h = copied_releases 0 jobs ∙ take_all 41 (releases jobs) (omega (arith, length-map jobs (λ job. job.release)))

  pub few_deadlines : length jobs ≤ most_jobs → deadlines_in (rows_of 0 jobs) ≡ deadlines jobs
  few_deadlines h = copied_deadlines 0 jobs ∙ take_all 41 (deadlines jobs) (omega (arith, length-map jobs (λ job. job.deadline)))

  pub many_rows : most_jobs < length jobs → most_jobs < length (releases_in (rows_of 0 jobs))
  many_rows h = omega (arith, ap length (copied_releases 0 jobs), length-take-le 41 (releases jobs) (omega (arith, length-map jobs (λ job. job.release))))

  -- what is promised of its rows is promised of it, where it is promised of any more than 40 rows alike
  pub list_promised : (P : List ℕ → List ℕ → Type 0) → ((xs ys xs' ys' : List ℕ) → most_jobs < length xs → most_jobs < length xs' → P xs ys → P xs' ys')
      → P (releases_in (rows_of 0 jobs)) (deadlines_in (rows_of 0 jobs)) → P (releases jobs) (deadlines jobs)
  list_promised P alike p =
      on_le (length jobs) most_jobs (λ h. rw (sym (few_releases h), sym (few_deadlines h)) p)
      (λ h. alike (releases_in (rows_of 0 jobs)) (deadlines_in (rows_of 0 jobs)) (releases jobs) (deadlines jobs) (many_rows h) (omega (arith, length-map jobs (λ job. job.release))) p)

  pub windows_promised : (P : Windows → Type 0) → ((w v : Windows) → most_jobs < w.count → most_jobs < v.count → P w → P v) → P (windows_in (rows_of 0 jobs)) → P (windows_of jobs)
  windows_promised P alike = list_promised (λ xs ys. P (windows xs ys)) (λ xs ys xs' ys'. alike (windows xs ys) (windows xs' ys'))
