-- `choice::choose` meets its contract. Assumes nothing.
use mathlib.Core.Path.{refl, sym}
use lib.Seq.{length-take-le}
use Rattle.checks.proofs.Check.{list_is_check}
use Rattle.choice.proofs.Choice.{chosen_fit}
use Rattle.choice.proofs.choose.Goals as goal

pub slice_bounds-result-end : goal.slice_bounds-result-end
slice_bounds-result-end c =
    sym (length-take-le _ _ ((chosen_fit list_is_check _ (rw c.in-Ok-Own.field-0-is at c.in-Ok-Own.ensures) refl).0 refl).long)

pub slice_bounds-result-end-in-Ok-Server : goal.slice_bounds-result-end-in-Ok-Server
slice_bounds-result-end-in-Ok-Server c =
    sym (length-take-le _ _ ((chosen_fit list_is_check _ (rw c.in-Ok-Server.field-0-is at c.in-Ok-Server.ensures) refl).1 refl).long)
