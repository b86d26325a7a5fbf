-- The rows of a list of job records, by value.
use Rattle.std.specs.Prelude.{ℕ, zero, suc, ◌-◌, min, cond, List, ltb, length, get_or, set, drop, replicate}
use Rattle.day.specs.declared.Job.{Job}
use Rattle.rows.specs.declared.Rows.{Rows}

-- what stands for no job
abbrev pub no_job : Job
no_job = record { release = 0; deadline = 0 }

-- how many rows of a list of n are copied from row `from` on, counted from 0: those that there are, as far as there is a place
abbrev pub copy_count : ℕ → ℕ → ℕ
copy_count n from = min 41 (n - from)

-- a column before any row is copied
abbrev pub zeros : List ℕ
zeros = replicate 41 0

abbrev pub no_rows : ℕ → Rows
no_rows count = record { count = count; releases = zeros; deadlines = zeros }

abbrev pub with_job : Rows → ℕ → Job → Rows
with_job rows i job =
    record {
      count = rows.count;
      releases = set rows.releases i job.release;
      deadlines = set rows.deadlines i job.deadline;
    }

-- rows with the first k of a list put over their own
abbrev pub rows_from : Rows → ℕ → List Job → Rows
rows_from rows zero js = rows
rows_from rows (suc k) js = with_job (rows_from rows k js) k (get_or js k no_job)

-- the rows of a list from row `from` on, at most 41 of them
abbrev pub rows_of : ℕ → List Job → Rows
rows_of from js = rows_from (no_rows (copy_count (length js) from)) (copy_count (length js) from) (drop from js)

-- how many rows are put over a list with n places: those that there are, as far as there is a place
abbrev pub put_count : ℕ → ℕ → ℕ
put_count places count = cond (ltb 41 count) 0 (cond (ltb places count) places count)

abbrev pub job_at : Rows → ℕ → Job
job_at rows i = record { release = get_or rows.releases i 0; deadline = get_or rows.deadlines i 0 }

-- a list with the first k rows put over its own
abbrev pub put_first : ℕ → List Job → Rows → List Job
put_first zero js rows = js
put_first (suc k) js rows = set (put_first k js rows) k (job_at rows k)

abbrev pub put_over : List Job → Rows → List Job
put_over js rows = put_first (put_count (length js) rows.count) js rows
