-- `walks::twin` says how many places a row more needs: safe and ends. Assumes nothing.
use Rattle.std.proofs.Common.{◌+◌, ◌*◌, arith}
use Rattle.std.proofs.lemmas.Nat.{mul-le}
use Rattle.walks.proofs.state.State.needed.Goals as goal

pub overflow_mul-result : goal.overflow_mul-result
overflow_mul-result c = omega (arith, mul-le (c.from.result + 2) (c.from-width.result + 3) 65537 65538 (omega arith) (omega arith))

pub overflow_mul-result-2 : goal.overflow_mul-result-2
overflow_mul-result-2 c =
    let width = c.from-width.result + 3 in
    let many = c.from.result + 2 in
    omega (arith, mul-le (many * width) width (65537 * 65538) 65538 (mul-le many width 65537 65538 (omega arith) (omega arith)) (omega arith))
