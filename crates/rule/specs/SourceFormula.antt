-- The formula as source document 000 prints it (Proposition 3.1), and the rule without one of the three conditions that it omits.
use Rattle.std.specs.Prelude.{ℕ, suc, ◌+◌, ◌<◌, ◌≡◌, Bool, ◌&&◌, [], ◌∷◌, ltb, leb}
use Rattle.day.specs.Windows.{Windows, windows}
use Rattle.rule.specs.Span.{Problem, clear, value_by, value}
use Rattle.rule.specs.Whole.{problem}

-- as printed: any allowed t of the span
unfoldable pub as_printed : Problem → ℕ → ℕ → ℕ → Bool
as_printed P k s t = P.allowed t && leb s t

-- t may lie before job k's release
unfoldable pub without_release : Problem → ℕ → ℕ → ℕ → Bool
without_release P k s t = as_printed P k s t && (ltb t (P.deadline k) && clear P k t)

-- t + 1 may lie after job k's deadline
unfoldable pub without_deadline : Problem → ℕ → ℕ → ℕ → Bool
without_deadline P k s t = as_printed P k s t && (leb (P.release k) t && clear P k t)

-- a lower-numbered job may be released exactly at t
unfoldable pub without_clear : Problem → ℕ → ℕ → ℕ → Bool
without_clear P k s t = as_printed P k s t && (leb (P.release k) t && ltb t (P.deadline k))

unfoldable pub bound : ℕ
bound = 100

-- a list that is numbered as it stands, on a day where a wake costs 3
unfoldable pub in_row_order : ℕ → Windows → Problem
in_row_order slots w = problem (record { slots = slots; power = record { wake = 3 } }) w (λ k. k) bound

-- the list has no plan by the rule, and has one by the recursion with another test
pub record Invents (may : Problem → ℕ → ℕ → ℕ → Bool) (slots : ℕ) (w : Windows) : Type 0 where
  pub none : value (in_row_order slots w) w.count 0 (slots + 2) ≡ bound
  pub some : value_by (may (in_row_order slots w)) (in_row_order slots w) w.count 0 (slots + 2) < bound

-- two rows that both need the one slot from r to r + 1
unfoldable pub both_at : ℕ → Windows
both_at r = windows (r ∷ r ∷ []) (suc r ∷ suc r ∷ [])
