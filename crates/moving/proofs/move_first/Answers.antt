-- `moving::move_first` meets its contract. Assumes nothing.
use Prim.Native.Nat.{ℕ, ◌<◌}
use mathlib.Core.Path.{◌≡◌}
use native.Mathlib.Omega.{arith}
use lib.IntN.{pos}
use lib.ListN.{length, take}
use lib.Seq.{length-take-le}
use mir.Syntax.{w16, w32}
use mir.Val.{to_z, of_z}
use mir.ValLaws.{to_z-of_z}
use Rattle.std.proofs.lemmas.List.{get_or-take}
use Rattle.std.proofs.lemmas.Int.{ints}
use Rattle.day.specs.Moved.{Shifts}
use Rattle.day.specs.Windows.{at}
use Rattle.day.proofs.Changed.{filled_next, filled_rest, filled_front}
use Rattle.moving.proofs.move_first.Goals as goal
use Rattle.moving.proofs.move_first.Goals.{After-moved}

within : (c : After-moved) → c.loop-number.number-index < c.args.count
within c = omega (arith, length-take-le c.args.count c.args.list.now c.requires.0)

-- where the present number goes, and that the cast finds it
place : (c : After-moved) → (y : ℕ) × (y < 65536) × Shifts c.args.by (at (take c.args.count c.args.list.now) c.loop-number.number-index) y
place c = rw (get_or-take c.args.count c.args.list.now c.loop-number.number-index 0 (within c)) (c.requires.1 c.loop-number.number-index (within c))

reads : (c : After-moved) → to_z w32 (of_z w32 c.moved.result) ≡ pos (place c).0
reads c =
    omega (arith, ints, filled_rest c.loop-number.invariant c.loop-number.number-index (omega arith), (place c).1, (place c).2)

pub overflow_cast-number : goal.overflow_cast-number
overflow_cast-number c =
    let at-loop = (goal.at.overflow_cast-number c).After-moved in
    rw (reads at-loop) (tt, record { fits = (place at-loop).1 })

pub loop-number-preserved : goal.loop-number-preserved
loop-number-preserved c =
    let at-loop = (goal.at.loop-number-preserved c).After-moved in
    rw (reads at-loop) (filled_next c.loop-number.invariant (omega arith) (rw (to_z-of_z w16 c.args.by c.ranges.by) (place at-loop).2))

pub returns : goal.returns
returns c =
    let front : length (take c.args.count c.args.list.now) ≡ c.args.count = length-take-le c.args.count c.args.list.now c.requires.0 in
    let whole : c.loop-number.number-index ≡ c.args.count = omega arith in
    let moved = rw (to_z-of_z w16 c.args.by c.ranges.by, whole) at c.loop-number.invariant in
    filled_front c.requires.0 (λ i y h shifts. rw (get_or-take c.args.count c.args.list.now i 0 h) at shifts) moved
