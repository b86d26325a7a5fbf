-- A list of job records as two columns of numbers, of which the number forms speak.
use Rattle.std.specs.Prelude.{ℕ, List, map}
use Rattle.day.specs.declared.Job.{Job}
use Rattle.day.specs.Windows.{Windows, windows}

abbrev pub releases : List Job → List ℕ
releases jobs = map (λ (job : Job). job.release) jobs

abbrev pub deadlines : List Job → List ℕ
deadlines jobs = map (λ (job : Job). job.deadline) jobs

-- the windows of a list: a row for each record
abbrev pub windows_of : List Job → Windows
windows_of jobs = windows (releases jobs) (deadlines jobs)
