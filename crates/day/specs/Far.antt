-- The day between two far points, one before it and one after it. Slots are counted from 1 here, so that the far points
-- are 0 and slots + 2.
use Rattle.std.specs.Prelude.{ℕ, ◌+◌, ◌-◌, cond, ◌||◌, eqb}
use Rattle.day.specs.declared.Day.{Day}
use Rattle.day.specs.Gap.{price}

-- from a point to a point with no job between them; a far end costs a wake, even where no slot is empty
unfoldable pub far_price : Day → ℕ → ℕ → ℕ
far_price day s e =
    cond (eqb s 0 || eqb e (day.slots + 2)) day.power.wake (price day.power (e - s))
