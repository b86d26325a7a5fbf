-- What each call checks is a check, and no check answers 7. Assumes nothing.
use Prim.Native.Nat.{ℕ}
use mathlib.Core.List.{List}
use native.Mathlib.Omega.{arith}
use Rattle.checks.specs.Answer.{no_plan}
use Rattle.checks.specs.Refusal.{stops}
use Rattle.checks.proofs.Refusal.{
  IsCheck,
  refuses_is_check,
  then_is_check,
  Avoids,
  refuses_avoids,
  refuses_row_avoids,
  refuses_pair_avoids,
  then_avoids,
}
use Rattle.checks.proofs.Check.{list_is_check, list_avoids}
use Rattle.claim.proofs.Claim.{starts_is_check, claim_is_check}
use Rattle.planner.proofs.Promise.{plan_is_check, check_not_no_plan}
use Rattle.fieldday.specs.declared.FieldDay.{FieldDay}
use Rattle.fieldday.specs.Held.{list_held, HeldCheck, cut_held, held_with}
use Rattle.fieldday.specs.Promise.{AdvanceCheck, AddCheck, OfferCheck}

pub held_is_check : (f : FieldDay) → IsCheck (HeldCheck f)
held_is_check f = then_is_check (claim_is_check list_is_check (list_held f) f.starts) (refuses_is_check (λ e. omega arith))

pub advance_is_check : (f : FieldDay) → IsCheck (AdvanceCheck f)
advance_is_check f = then_is_check (held_is_check f) (refuses_is_check (λ e. omega arith))

pub add_is_check : (f : FieldDay) (release deadline : ℕ) (table : List ℕ) → IsCheck (AddCheck f release deadline table)
add_is_check f release deadline table =
    then_is_check (held_is_check f) (plan_is_check f.day (held_with f release deadline) f.starts table)

pub offer_is_check : (f : FieldDay) (server : List ℕ) → IsCheck (OfferCheck f server)
offer_is_check f server = then_is_check (held_is_check f) (starts_is_check (cut_held f) server)

pub add_not_no_plan : (f : FieldDay) (release deadline : ℕ) (table : List ℕ) → Avoids no_plan (AddCheck f release deadline table)
add_not_no_plan f release deadline table =
    then_avoids
    (then_avoids
    (then_avoids (list_avoids (omega arith))
    (then_avoids (refuses_avoids (λ e. omega arith))
    (then_avoids (refuses_row_avoids (λ e. omega arith)) (refuses_pair_avoids (λ e. omega arith)))))
    (refuses_avoids (λ e. omega arith)))
    (λ a q. check_not_no_plan f.day (held_with f release deadline) f.starts table a (stops q))
