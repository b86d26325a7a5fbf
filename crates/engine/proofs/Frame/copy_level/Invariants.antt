-- `engine::Frame::copy_level` meets its contract: the bands below `from` are copied. Assumes nothing.
use Prim.Native.Nat.{◌+◌}
use Rattle.engine.specs.Places.{band, layout_in}
use Rattle.engine.specs.steps.Bands.{along, BandsHold}
use Rattle.engine.proofs.Frame.copy_level.Given as goal

abbrev pub invariant-loop-from : goal.invariant-loop-from
invariant-loop-from l =
    BandsHold (layout_in l.self) (l.jobs + 1) l.first l.from (λ s. along l.initial.table (band (layout_in l.self) l.jobs s)) l.initial.table l.table
