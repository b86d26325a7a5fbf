-- What the hour leaves of a list: the jobs done, and the cut list. A plan is held, and `slot` is the current slot.
use Rattle.std.specs.Prelude.{ℕ, ◌+◌, ◌<◌, Bool, cond, ltb}
use Rattle.day.specs.Windows.{Windows}
use Rattle.day.specs.Plan.{Plan}

-- row i is done: its start is below the current slot
abbrev pub Done : ℕ → Plan → ℕ → Type 0
Done slot start i = start i < slot

-- whether a job that starts at `start` is done
abbrev pub is_done : ℕ → ℕ → Bool
is_done slot start = ltb start slot

-- a release, raised to the current slot where it is lower
unfoldable pub raised : ℕ → ℕ → ℕ
raised slot release = cond (ltb release slot) slot release

-- a done job's window is its slot; of another the release is raised
unfoldable pub cut_release : ℕ → ℕ → ℕ → ℕ
cut_release slot start release = cond (is_done slot start) start (raised slot release)

unfoldable pub cut_deadline : ℕ → ℕ → ℕ → ℕ
cut_deadline slot start deadline = cond (is_done slot start) (start + 1) deadline

abbrev pub cut_list : ℕ → Plan → Windows → Windows
cut_list slot start w =
    record {
      count = w.count;
      release = λ i. cut_release slot (start i) (w.release i);
      deadline = λ i. cut_deadline slot (start i) (w.deadline i);
    }
