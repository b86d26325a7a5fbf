-- `engine::square::begin_bands` meets its contract: the bands below `point` have their beginnings. Assumes nothing.
use mathlib.Core.Path.{◌≡◌}
use Rattle.day.specs.Changed.{FirstFilled}
use Rattle.engine.specs.Places.{square_begins}
use Rattle.engine.proofs.square.begin_bands.Given as goal

abbrev pub invariant-loop-point : goal.invariant-loop-point
invariant-loop-point l = FirstFilled l.point (λ s y. y ≡ square_begins l.points s) l.initial.begins l.begins
