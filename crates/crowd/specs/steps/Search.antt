-- What a search among spans gives.
use Rattle.std.specs.Prelude.{ℕ, ◌≡◌, Option, Some, None}
use Rattle.day.specs.Windows.{Windows}
use Rattle.crowd.specs.declared.CrowdedSpan.{CrowdedSpan}
use Rattle.crowd.specs.Crowded.{Crowded, Shortest}

-- a crowded span that begins in this slot
abbrev pub CrowdedFrom : ℕ → Windows → ℕ → CrowdedSpan → Type 0
CrowdedFrom slots w begin span = Crowded slots w span × (span.begin ≡ begin)

-- of these spans the shortest, among those the earliest; none where there are none of them
abbrev pub ShortestIn : (CrowdedSpan → Type 0) → Option CrowdedSpan → Type 0
ShortestIn These (Some span) = Shortest These span
ShortestIn These None = (other : CrowdedSpan) → These other → ⊥
