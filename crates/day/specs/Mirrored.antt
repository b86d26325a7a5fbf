-- The mirrored day: the last slot is the first.
use Rattle.std.specs.Prelude.{ℕ, ◌-◌}
use Rattle.day.specs.Windows.{Windows}

-- the mirrored day has the window (T - d, T - r) for each row (r, d)
abbrev pub mirrored : ℕ → Windows → Windows
mirrored slots w =
    record { count = w.count; release = λ i. slots - w.deadline i; deadline = λ i. slots - w.release i }
