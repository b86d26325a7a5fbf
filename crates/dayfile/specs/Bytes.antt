-- A number is 16-bit: two bytes, the low one first.
use Rattle.std.specs.Prelude.{ℕ, ◌+◌, ◌*◌, ◌/◌, ◌%◌, List, [], ◌∷◌}
use Rattle.day.specs.Windows.{at}

unfoldable pub bytes_of : ℕ → List ℕ
bytes_of x = x % 256 ∷ x / 256 ∷ []

-- the number whose low byte stands at a place
unfoldable pub number_at : List ℕ → ℕ → ℕ
number_at bytes place = at bytes place + 256 * at bytes (place + 1)
