-- The columns hold the cut list, which no check refuses.
use native.Mathlib.Omega.{arith}
use Rattle.fieldday.proofs.CutList.{columns_cut, cut_priced}
use Rattle.fieldday.proofs.FieldDay.price_cut.Goals as goal

pub returns : goal.returns
returns c =
    cut_priced c.args.server.now c.requires
    (columns_cut c.args.self.now c.cut_held-cut.ensures c.from-count.result c.from-count.ensures (omega (arith, c.from-count.ensures, c.requires.accepted.rows.count)))
    c.price.ensures
