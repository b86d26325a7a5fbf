-- `filewriter::write_numbers` meets its contract: at each turn the numbers so far are written. Assumes nothing.
use mathlib.Core.Path.{◌∙◌, sym}
use native.Mathlib.Omega.{arith}
use Rattle.filewriter.proofs.Format.{numbers_next, low_first, written_more}
use Rattle.filewriter.proofs.write_numbers.Goals as goal

pub loop-i-preserved : goal.loop-i-preserved
loop-i-preserved c =
    written_more _ _ _ _ _ c.loop-i.invariant
    (c.copy_from_slice.ensures.after ∙ c.to_le_bytes.ensures ∙ low_first _ (omega (arith, c.type_inv.numbers c.loop-i.i)))
    (omega arith)
    (omega arith)
    ∙ sym (numbers_next _ _ c.loop-i-test.true)
