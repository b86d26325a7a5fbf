-- The formula as source document 000 prints it is wrong: each of the three conditions that it omits is needed. Computed on three lists that
-- have no plan.
use mathlib.Core.Path.{refl}
use native.Mathlib.Omega.{arith}
use Rattle.day.specs.Gap.{price}
use Rattle.day.specs.Far.{far_price}
use Rattle.rule.specs.Extreme.{least}
use Rattle.rule.specs.Span.{in_span, clear, may_split, value_by, value}
use Rattle.rule.specs.SourceFormula.{as_printed, without_release, without_deadline, without_clear, bound, in_row_order, Invents, both_at}

-- P3: both jobs at slot 0
pub printed_wrong : Invents as_printed 1 (both_at 0)
unfolding as_printed bound in_row_order both_at in_span clear may_split value_by value least far_price price
printed_wrong = record { none = refl; some = omega arith }

-- P3 again: job 2 at slot 0, where job 1 is released and vanishes
pub clear_needed : Invents without_clear 1 (both_at 0)
unfolding as_printed without_clear bound in_row_order both_at in_span clear may_split value_by value least far_price price
clear_needed = record { none = refl; some = omega arith }

-- one job at slot 0, before its release
pub release_needed : Invents without_release 2 (both_at 1)
unfolding as_printed without_release bound in_row_order both_at in_span clear may_split value_by value least far_price price
release_needed = record { none = refl; some = omega arith }

-- one job at slot 1, past its deadline
pub deadline_needed : Invents without_deadline 2 (both_at 0)
unfolding as_printed without_deadline bound in_row_order both_at in_span clear may_split value_by value least far_price price
deadline_needed = record { none = refl; some = omega arith }
