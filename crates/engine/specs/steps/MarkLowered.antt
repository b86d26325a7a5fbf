-- One mark lowered.
use Rattle.std.specs.Prelude.{ℕ, ◌<◌, ◌≡◌, List}
use Rattle.day.specs.Windows.{at}
use Rattle.day.specs.Changed.{Changed, itself}

-- the mark of a point is lowered, unless it is 0
abbrev pub MarkLowered : ℕ → ℕ → List ℕ → List ℕ → Type 0
MarkLowered point jobs old = Changed (λ t. t ≡ point) itself (λ t y. (0 < at old t → y ≡ jobs) × (at old t ≡ 0 → y ≡ 0)) old
