-- The words of the rule's theorem over a span, where its reader starts: proofs/LowerBound says that no plan of a span costs less than the
-- span's value, and proofs/Optimal that the plan read back is the best of the span.
use Rattle.std.specs.Prelude.{ℕ, zero, suc, ◌≤◌, ◌<◌, ◌≡◌, Bool, true, false, ◌&&◌, ◌||◌, eqb}
use Rattle.day.specs.Span.{span}
use Rattle.rule.specs.Span.{Problem, in_span, value}

-- the jobs below n are numbered by deadline
abbrev pub ByDeadline : Problem → ℕ → Type 0
ByDeadline P n = (i j : ℕ) → i ≤ j → j < n → P.deadline i ≤ P.deadline j

-- job k is released at s or later and before e
abbrev pub In : Problem → ℕ → ℕ → ℕ → Type 0
In P s e k = (s ≤ P.release k) × (P.release k < e)

-- a start for each job below k of the span: allowed, in its window and in the span, no two the same
pub record SpanPlan (P : Problem) (k s e : ℕ) (start : ℕ → ℕ) : Type 0 where
  pub allowed : (i : ℕ) → i < k → In P s e i → P.allowed (start i) ≡ true
  pub fits : (i : ℕ) → i < k → In P s e i → (P.release i ≤ start i) × (start i < P.deadline i) × (start i < e)
  pub apart : (i j : ℕ) → i < k → j < k → In P s e i → In P s e j → start i ≡ start j → i ≡ j

-- whether a job below k of the span starts at t
unfoldable pub occupied : Problem → ℕ → ℕ → ℕ → (ℕ → ℕ) → ℕ → Bool
occupied P zero s e start t = false
occupied P (suc k) s e start t = (in_span P s e k && eqb (start k) t) || occupied P k s e start t

-- the cost of a plan of the span, as if jobs stood just before s and at e
unfoldable pub span_cost : Problem → ℕ → ℕ → ℕ → (ℕ → ℕ) → ℕ
span_cost P k s e start = span P.price (occupied P k s e start) s e

-- p is at least as late as q: the same for the jobs below k of the span, or later at the highest of them where they differ
pub data LateInSpan (P : Problem) (k s e : ℕ) (p q : ℕ → ℕ) : Type 0 where
  same : ((i : ℕ) → i < k → In P s e i → p i ≡ q i) → LateInSpan P k s e p q
  later : (i : ℕ) → i < k → In P s e i → q i < p i → ((j : ℕ) → i < j → j < k → In P s e j → p j ≡ q j) → LateInSpan P k s e p q

-- a plan of the span that costs its value, at least as late as every other of that cost
pub record SpanBest (P : Problem) (k s e : ℕ) (start : ℕ → ℕ) : Type 0 where
  pub plan : SpanPlan P k s e start
  pub costs : span_cost P k s e start ≡ value P k s e
  pub latest : (q : ℕ → ℕ) → SpanPlan P k s e q → span_cost P k s e q ≡ value P k s e → LateInSpan P k s e start q
