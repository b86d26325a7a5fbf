-- The spans from one begin on, end by end: the first that is crowded is the shortest. Assumes nothing.
use Prim.Native.Nat.{ℕ, suc, ◌+◌, ◌-◌, ◌≤◌, ◌<◌}
use mathlib.Core.Path.{refl}
use mathlib.Core.Logic.{◌⊎◌, inl, inr, ⊎_elim}
use native.Mathlib.Omega.{arith}
use Rattle.std.proofs.Common.{Option, Some, None}
use Rattle.day.specs.Windows.{Windows}
use Rattle.day.specs.Count.{Count}
use Rattle.day.proofs.Cases.{give, on_le}
use Rattle.day.proofs.Count.{count_unique}
use Rattle.checks.specs.Check.{GoodRows}
use Rattle.checks.proofs.Refusal.{first_or_none}
use Rattle.crowd.specs.declared.CrowdedSpan.{CrowdedSpan}
use Rattle.crowd.specs.Crowded.{Inside, Crowded, Shortest}
use Rattle.crowd.specs.steps.Ends.{EndsAt}
use Rattle.crowd.specs.steps.Search.{CrowdedFrom, ShortestIn}
use Rattle.crowd.proofs.Inside.{inside_count, inside_none}
use Rattle.crowd.proofs.Ends.{inside_next}

-- on a longer day a crowded span is one too
pub crowded_longer : {last slots : ℕ} {w : Windows} {span : CrowdedSpan} → last ≤ slots → Crowded last w span → Crowded slots w span
crowded_longer l c = record { some = c.some; in_day = omega (arith, c.in_day); counted = c.counted; crowded = c.crowded }

module _ (w : Windows) (begin : ℕ) where
  -- the span from `begin` to an end is crowded
  pub record CrowdedTo (end : ℕ) : Type 0 where
    pub jobs : ℕ
    pub crowded : Crowded end w (record { begin = begin; end = end; jobs = jobs })

  crowded_to : {last : ℕ} (span : CrowdedSpan) → CrowdedFrom last w begin span → CrowdedTo span.end
  crowded_to span c = grind arith

  -- the count tells it
  pub calm_to : (end jobs : ℕ) → Count (Inside w begin end) w.count jobs → jobs ≤ end - begin → CrowdedTo end → ⊥
  calm_to end jobs p h c = omega (arith, c.crowded.crowded, count_unique c.crowded.counted p)

  crowded_to_known : (end : ℕ) → CrowdedTo end ⊎ (CrowdedTo end → ⊥)
  crowded_to_known end =
      give (inside_count w begin end)
      (λ c.
      on_le c.0 (end - begin) (λ h. inr (calm_to end c.0 c.1 h))
      (λ h.
      on_le end begin (λ l. inr (λ z. omega (arith, z.crowded.some)))
      (λ l. inl (record { jobs = c.0; crowded = record { some = l; in_day = omega arith; counted = c.1; crowded = h } }))))

  -- the first end by which it is crowded gives the shortest span
  pub from_found : (end jobs last : ℕ) → end ≤ last → Crowded end w (record { begin = begin; end = end; jobs = jobs })
      → ((e : ℕ) → e < end → CrowdedTo e → ⊥)
      → Shortest (CrowdedFrom last w begin) (record { begin = begin; end = end; jobs = jobs })
  from_found end jobs last l c before =
      record {
        among = (crowded_longer l c, refl);
        no_shorter = λ other o.
            on_le end other.end (λ h. omega (arith, o.1)) (λ h. absurd (before other.end h (crowded_to other o)));
        no_earlier = λ other o same. omega (arith, o.1);
      }

  pub from_none : (last : ℕ) → ((e : ℕ) → e ≤ last → CrowdedTo e → ⊥) → (other : CrowdedSpan) → CrowdedFrom last w begin other → ⊥
  from_none last before other o = before other.end o.0.in_day (crowded_to other o)

  pub first_crowded : (last : ℕ) → (span : Option CrowdedSpan) × ShortestIn (CrowdedFrom last w begin) span
  first_crowded last =
      ⊎_elim
      (λ f.
      let c : CrowdedTo f.0 = f.1.fault in
      (Some (record { begin = begin; end = f.0; jobs = c.jobs }), from_found f.0 c.jobs last (omega (arith, f.1.within)) c.crowded f.1.lowest))
      (λ none. (None, from_none last (λ e l. none e (omega arith))))
      (first_or_none crowded_to_known (suc last))

-- end by end from `begin` on: how many are inside so far, and no span is crowded yet
pub record WalkedTo (w : Windows) (begin end jobs : ℕ) : Type 0 where
  pub order : begin ≤ end
  pub inside : Count (Inside w begin end) w.count jobs
  pub calm : (e : ℕ) → e ≤ end → CrowdedTo w begin e → ⊥

module _ {w : Windows} {begin : ℕ} where
  pub walk_begun : {limit slots : ℕ} → GoodRows limit slots w → WalkedTo w begin begin 0
  walk_begun good =
      record {
        order = omega arith;
        inside = give (inside_count w begin begin) (λ c. rw (inside_none good (omega arith) c.1) at c.1);
        calm = λ e l c. omega (arith, c.crowded.some);
      }

  module _ {end jobs more : ℕ} (walked : WalkedTo w begin end jobs) (Ends-there : Count (EndsAt w begin (end + 1)) w.count more) where
    pub walk_next : jobs + more ≤ end + 1 - begin → WalkedTo w begin (end + 1) (jobs + more)
    walk_next few =
        let inside = inside_next walked.inside Ends-there in
        let calm = calm_to w begin (end + 1) (jobs + more) inside few in
        grind arith

    pub walk_found : {last : ℕ} → end < last → end + 1 - begin < jobs + more
        → Shortest (CrowdedFrom last w begin) (record { begin = begin; end = end + 1; jobs = jobs + more })
    walk_found l many =
        from_found w begin (end + 1) (jobs + more) _ (omega arith)
        (record { some = omega (arith, walked.order); in_day = omega arith; counted = inside_next walked.inside Ends-there; crowded = many })
        (λ e h. walked.calm e (omega arith))
