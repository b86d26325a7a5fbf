-- Demand 3, mirrored: the mirrored list has the same code and the same cost.
use Rattle.std.specs.Prelude.{◌≡◌}
use Rattle.day.specs.Windows.{SameRows}
use Rattle.day.specs.Mirrored.{mirrored}
use Rattle.checks.specs.Check.{Accepted}
use Rattle.demands.specs.Run.{Run, list, Served}

-- two runs on one day, the second on the mirrored list of the first
pub record Mirrors (run other : Run) : Type 0 where
  pub day : other.day ≡ run.day
  pub rows : SameRows (mirrored run.day.slots (list run)) (list other)

-- checks 1 to 4 accept it too
abbrev pub MirroredAccepted : Type 0
MirroredAccepted =
    (run other : Run) → Mirrors run other → Accepted run.day (list run) → Accepted other.day (list other)

-- the same answer: code and numbers
abbrev pub MirroredAnswer : Type 0
MirroredAnswer = (run other : Run) → Mirrors run other → Served run → Served other → other.answer ≡ run.answer
