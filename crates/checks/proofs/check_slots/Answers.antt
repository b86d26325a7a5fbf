-- `checks::check_slots` meets its contract. Assumes nothing.
use Rattle.std.proofs.Common.{refl, inl, inr, ⊎_elim, arith}
use Rattle.checks.specs.Refusal.{stops}
use Rattle.checks.proofs.Refusal.{past}
use Rattle.checks.proofs.check_slots.Goals as goal

pub returns-then-slots-eq0 : goal.returns-then-slots-eq0
returns-then-slots-eq0 c = stops (record { fault = inl (omega arith); says = refl })

pub returns-then-slots-limit : goal.returns-then-slots-limit
returns-then-slots-limit c = stops (record { fault = inr (omega arith); says = refl })

pub returns : goal.returns
returns c = past (⊎_elim (λ z. omega arith) (λ z. omega arith)) refl
