-- The two columns of a cut list are determined. Assumes nothing.
use Prim.Native.Nat.{ℕ}
use mathlib.Core.Path.{◌≡◌, sym, ◌∙◌}
use mathlib.Core.List.{List}
use Rattle.day.proofs.Changed.{filled_unique}
use Rattle.cutlist.specs.declared.CutRows.{CutRows}
use Rattle.cutlist.specs.CutRows.{HoldsCut}

pub cut_rows_unique : (slot n : ℕ) (releases deadlines starts : List ℕ) (c d : CutRows) → HoldsCut slot n releases deadlines starts c
    → HoldsCut slot n releases deadlines starts d → c ≡ d
cut_rows_unique slot n releases deadlines starts c d p q =
    rw (
      filled_unique (λ i y z e f. e ∙ sym f) p.releases q.releases,
      filled_unique (λ i y z e f. e ∙ sym f) p.deadlines q.deadlines,
    )
