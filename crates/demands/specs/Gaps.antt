-- The gaps that a plan is priced by are those of document 01, each once and in their order.
use Rattle.std.specs.Prelude.{ℕ, ◌≡◌, Bool, List}
use Rattle.day.specs.Gap.{Listed, gaps}

-- over the day's slots, of which some are full: the walk lists the gaps, and no other list does
pub record GapsListed : Type 0 where
  pub listed : (full : ℕ → Bool) (slots : ℕ) → Listed full slots 0 (gaps full 0 slots)
  pub only : (full : ℕ → Bool) (slots : ℕ) (gs : List ℕ) → Listed full slots 0 gs → gs ≡ gaps full 0 slots
