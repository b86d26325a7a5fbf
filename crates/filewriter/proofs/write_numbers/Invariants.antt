-- `filewriter::write_numbers` meets its contract: at each turn the numbers so far are written. Assumes nothing.
use Prim.Native.Nat.{◌*◌}
use mathlib.Core.Path.{◌≡◌}
use lib.ListN.{take}
use Rattle.std.specs.List.{flat_map}
use Rattle.dayfile.specs.Bytes.{bytes_of}
use Rattle.filewriter.proofs.write_numbers.Given as goal

abbrev pub invariant-loop-i : goal.invariant-loop-i
invariant-loop-i l = take (2 * l.i) l.bytes ≡ flat_map bytes_of (take l.i l.numbers)
