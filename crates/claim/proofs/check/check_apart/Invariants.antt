-- `claim::check::check_apart` meets its contract. The loops' invariants: no row below `row` starts together with a later one, and `row`
-- with none below `partner`. Assumes nothing.
use Prim.Native.Nat.{ℕ, ◌<◌}
use mathlib.Core.Path.{◌≡◌}
use lib.ListN.{length}
use Rattle.std.specs.Prelude.{None}
use Rattle.claim.specs.Claim.{Together}
use Rattle.claim.proofs.check.check_apart.Given as goal

abbrev pub invariant-loop-partner : goal.invariant-loop-partner
invariant-loop-partner l = (l.clash ≡ None) × ((j : ℕ) → l.row < j → j < l.partner → Together l.starts l.row j → ⊥)

abbrev pub invariant-rows : goal.invariant-rows
invariant-rows l = (l.clash ≡ None) × ((i j : ℕ) → i < l.row → i < j → j < length l.starts → Together l.starts i j → ⊥)
