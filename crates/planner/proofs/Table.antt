-- The laws of the need: it is the engine's for a square of the day's points, and it fits a machine word. Assumes nothing.
use Prim.Native.Nat.{ℕ, ◌+◌, ◌*◌, ◌≤◌, ◌<◌}
use mathlib.Core.Path.{◌≡◌}
use native.Mathlib.Nat.{mul-le-mul}
use native.Mathlib.Omega.{arith}
use Rattle.engine.specs.Places.{Layout, places_for}
use Rattle.planner.specs.Table.{need}

pub need_square : (L : Layout) (slots n : ℕ) → L.level ≡ (slots + 3) * (slots + 3) → places_for L n ≡ need slots n
unfolding places_for need
need_square L slots n h = rw h (omega arith)

-- how large a number gets times the width of a band
pub times_width : (slots many most : ℕ) → slots < 65536 → many ≤ most → many * (slots + 3) ≤ most * 65539
times_width slots many most h l = mul-le-mul l (omega arith)
