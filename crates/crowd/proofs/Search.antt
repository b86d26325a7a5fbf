-- The search over all begins: the shortest span so far is kept, and from each begin on only shorter ones are looked at. Assumes nothing.
use Prim.Native.Nat.{ℕ, zero, suc, ◌+◌, ◌-◌, ◌≤◌, ◌<◌, min}
use mathlib.Core.Path.{◌≡◌, refl}
use native.Mathlib.Omega.{arith}
use native.Mathlib.Numerals.{add-one}
use Rattle.std.proofs.Common.{Option, Some, None}
use Rattle.day.specs.Windows.{Windows}
use Rattle.day.proofs.Cases.{give}
use Rattle.crowd.specs.declared.CrowdedSpan.{CrowdedSpan}
use Rattle.crowd.specs.Crowded.{slots_of, Crowded, Shortest}
use Rattle.crowd.specs.steps.Search.{CrowdedFrom, ShortestIn}
use Rattle.crowd.proofs.FromBegin.{first_crowded}

-- a crowded span that begins before this slot
abbrev pub CrowdedBefore : ℕ → Windows → ℕ → CrowdedSpan → Type 0
CrowdedBefore slots w begin span = Crowded slots w span × (span.begin < begin)

module _ (slots : ℕ) (w : Windows) where
  -- how many slots a span of interest may have: one less than the span that is shown
  abbrev pub ReachLeft : Option CrowdedSpan → ℕ → Type 0
  ReachLeft (Some shown) reach = suc reach ≡ slots_of shown
  ReachLeft None reach = reach ≡ slots

  -- the spans that begin before `begin` are searched; from here on a span is of interest if it has at most `reach` slots
  pub record Searched (begin reach : ℕ) (shown : Option CrowdedSpan) : Type 0 where
    pub shortest : ShortestIn (CrowdedBefore slots w begin) shown
    pub left : ReachLeft shown reach

  pub reach_in_day : {begin reach : ℕ} (shown : Option CrowdedSpan) → Searched begin reach shown → reach ≤ slots
  reach_in_day (Some shown) s = omega (arith, s.left, s.shortest.among.0.in_day)
  reach_in_day None s = omega (arith, s.left)

  pub search_begun : Searched 0 slots None
  search_begun = record { shortest = λ other c. omega (arith, c.1); left = refl }

  module _ {begin reach last : ℕ} {shown : Option CrowdedSpan} (s : Searched begin reach shown) (within : last ≡ min (begin + reach) slots) where
    pub search_found : {found : CrowdedSpan} (next : ℕ) → Shortest (CrowdedFrom last w begin) found → next + 1 + begin ≡ found.end
        → Searched (begin + 1) next (Some found)
    search_found {found} next best one_less = grind arith

    -- a span from `begin` on that was not looked at is longer
    pub not_looked_at : ((other : CrowdedSpan) → CrowdedFrom last w begin other → ⊥) → (other : CrowdedSpan) → Crowded slots w other
        → other.begin ≡ begin
        → reach < slots_of other
    not_looked_at none other c e = grind arith

  pub search_passed : {begin reach : ℕ} (shown : Option CrowdedSpan) → Searched begin reach shown
      → ((other : CrowdedSpan) → Crowded slots w other → other.begin ≡ begin → reach < slots_of other)
      → Searched (begin + 1) reach shown
  search_passed (Some shown) s later = grind arith
  search_passed None s later = grind arith

  -- a span begins before the day's last slot
  pub search_ended : {begin reach : ℕ} (shown : Option CrowdedSpan) → slots ≤ begin → Searched begin reach shown
      → ShortestIn (Crowded slots w) shown
  search_ended (Some shown) l s = grind arith
  search_ended None l s = grind arith

  -- there is always an end of the search
  abbrev SearchedTo : ℕ → Type 0
  SearchedTo begin = (reach : ℕ) × (shown : Option CrowdedSpan) × Searched begin reach shown

  searched_next : {begin reach : ℕ} (shown found : Option CrowdedSpan) → Searched begin reach shown
      → ShortestIn (CrowdedFrom (min (begin + reach) slots) w begin) found
      → SearchedTo (begin + 1)
  searched_next {begin} shown (Some found) s f =
      let next : ℕ = found.end - begin - 1 in
      (next, Some found, search_found s refl next f (omega (arith, f.among.0.some, f.among.1)))
  searched_next {reach = reach} shown None s f = (reach, shown, search_passed shown s (not_looked_at s refl f))

  searched_to : (begin : ℕ) → SearchedTo begin
  searched_to zero = (slots, None, search_begun)
  searched_to (suc begin) =
      give (searched_to begin)
      (λ s. give (first_crowded w begin (min (begin + s.0) slots)) (λ f. rw add-one at (searched_next s.1 f.0 s.2 f.1)))

  pub shortest_or_none : (span : Option CrowdedSpan) × ShortestIn (Crowded slots w) span
  shortest_or_none = give (searched_to slots) (λ s. (s.1, search_ended s.1 (omega arith) s.2))
