-- The theorem: a list has a crowded span exactly if it has no proper plan. Assumes nothing.
use Prim.Native.Nat.{ℕ, ◌-◌, ◌≤◌, ◌<◌}
use mathlib.Core.Logic.{◌⊎◌, inl, inr}
use native.Mathlib.Omega.{arith}
use Rattle.std.proofs.Common.{Option, Some, None}
use Rattle.day.specs.Windows.{Windows}
use Rattle.day.specs.Plan.{SomePlan, NoPlan}
use Rattle.day.specs.Count.{Count}
use Rattle.day.proofs.Cases.{give, on_le}
use Rattle.day.proofs.Count.{count_at_most, pigeonhole}
use Rattle.checks.specs.Check.{GoodRows}
use Rattle.crowd.specs.declared.CrowdedSpan.{CrowdedSpan}
use Rattle.crowd.specs.Crowded.{Inside, slots_of, Crowded, SpanShown}
use Rattle.crowd.specs.steps.Search.{ShortestIn}
use Rattle.crowd.proofs.Inside.{inside_count, inside_none}
use Rattle.crowd.proofs.CalmPlan.{calm_plan}
use Rattle.crowd.proofs.Search.{shortest_or_none}

-- the jobs inside would need a slot of the span each
pub crowded_no_plan : (slots : ℕ) (w : Windows) (span : CrowdedSpan) → Crowded slots w span → NoPlan w
crowded_no_plan slots w span h start proper =
    omega (
      arith,
      h.crowded,
      pigeonhole start span.begin (slots_of span)
          (λ i l inside. give (proper.inside i l) (λ may. (omega (arith, may.0, inside.0), omega (arith, may.1, inside.1))))
          (λ i j l k _ _. proper.apart i j l k)
          h.counted,
    )

module _ {limit slots : ℕ} {w : Windows} (good : GoodRows limit slots w) where
  -- whatever numbers have more windows between them than slots, a span of the day that is no longer is crowded
  pub crowded_somewhere : (a b jobs : ℕ) → Count (Inside w a b) w.count jobs → b - a < jobs
      → (span : CrowdedSpan) × Crowded slots w span × (slots_of span ≤ b - a)
  crowded_somewhere a b jobs p many =
      on_le b slots
      (λ h.
      on_le b a (λ l. absurd (omega (arith, inside_none good l p)))
      (λ l. (record { begin = a; end = b; jobs = jobs }, record { some = l; in_day = h; counted = p; crowded = many }, omega arith)))
      (λ h.
      give (inside_count w a slots)
      (λ c.
      give (count_at_most (λ i k z. (z.0, good.in_day i k)) p c.1)
      (λ more.
      on_le slots a (λ l. absurd (omega (arith, inside_none good l c.1)))
      (λ l. (
        record { begin = a; end = slots; jobs = c.0 },
        record { some = l; in_day = omega arith; counted = c.1; crowded = omega arith },
        omega arith,
      )))))

  pub not_crowded_plan : ((span : CrowdedSpan) → Crowded slots w span → ⊥) → SomePlan w
  not_crowded_plan none =
      calm_plan slots w
      (record {
        in_day = good.in_day;
        room = λ begin end c l h p.
            on_le c (end - begin) (λ few. few)
            (λ many. give (crowded_somewhere begin end c p many) (λ s. absurd (none s.0 s.1)));
      })

  -- there is a span to show, or a plan
  shown_or_plan_of : (shown : Option CrowdedSpan) → ShortestIn (Crowded slots w) shown → ((span : CrowdedSpan) × SpanShown slots w span) ⊎ SomePlan w
  shown_or_plan_of (Some shown) s = inl (shown, s)
  shown_or_plan_of None s = inr (not_crowded_plan s)

  pub shown_or_plan : ((span : CrowdedSpan) × SpanShown slots w span) ⊎ SomePlan w
  shown_or_plan = give (shortest_or_none slots w) (λ s. shown_or_plan_of s.0 s.1)
