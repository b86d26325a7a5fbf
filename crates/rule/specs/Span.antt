-- The recursion of document 01's "The cost table's rule" over jobs in number order, and the plan that it is read back to.
use Rattle.std.specs.Prelude.{ℕ, zero, suc, ◌+◌, Bool, true, false, cond, ◌&&◌, ltb, leb, eqb}
use Rattle.rule.specs.Extreme.{least, latest}

pub record Problem : Type 0 where
  -- what it costs from a point to a point with no job between them, as if jobs stood just before the one and at the other
  pub price : ℕ → ℕ → ℕ
  -- the starts that are searched; of a day, all
  pub allowed : ℕ → Bool
  -- stands for "none": every value is at most this
  pub none : ℕ
  -- by the number of the job, counted from 0
  pub release : ℕ → ℕ
  pub deadline : ℕ → ℕ

-- job k is released at s or later and before e
unfoldable pub in_span : Problem → ℕ → ℕ → ℕ → Bool
in_span P s e k = leb s (P.release k) && ltb (P.release k) e

-- no job below k is released at t: such a job would belong to neither side of a split at t
unfoldable pub clear : Problem → ℕ → ℕ → Bool
clear P zero t = true
clear P (suc k) t = cond (eqb (P.release k) t) false (clear P k t)

-- job k may split a span at t: t is allowed, and the three conditions that the source's printed formula omits
unfoldable pub may_split : Problem → ℕ → ℕ → Bool
may_split P k t = P.allowed t && (leb (P.release k) t && (ltb t (P.deadline k) && clear P k t))

-- the recursion, where job k splits a span from s only at a t that passes `may k s`
unfoldable pub value_by : (ℕ → ℕ → ℕ → Bool) → Problem → ℕ → ℕ → ℕ → ℕ
value_by may P zero s e = P.price s e
value_by may P (suc k) s e =
    cond (in_span P s e k)
    (least (may k s) (λ t. value_by may P k s t + value_by may P k (suc t) e) P.none e)
    (value_by may P k s e)

-- the value of the span from s to e for the lowest k jobs
unfoldable pub value : Problem → ℕ → ℕ → ℕ → ℕ
value P = value_by (λ k s. may_split P k) P

-- the sum of the two sides of a split at t
unfoldable pub sides : Problem → ℕ → ℕ → ℕ → ℕ → ℕ
sides P k s e t = value P k s t + value P k (suc t) e

-- job k may split the span at t, and at no place better
unfoldable pub best_split : Problem → ℕ → ℕ → ℕ → ℕ → Bool
best_split P k s e t = may_split P k t && eqb (sides P k s e t) (value P (suc k) s e)

-- where job k splits the span: the latest best t
unfoldable pub split : Problem → ℕ → ℕ → ℕ → ℕ
split P k s e = latest (best_split P k s e) e

-- the start of job i, one of the lowest k, in the plan read back of the span
unfoldable pub read_back : Problem → ℕ → ℕ → ℕ → ℕ → ℕ
read_back P zero s e i = 0
read_back P (suc k) s e i =
    cond (in_span P s e k)
    (cond (eqb i k) (split P k s e)
    (cond (ltb (P.release i) (split P k s e)) (read_back P k s (split P k s e) i)
    (read_back P k (suc (split P k s e)) e i)))
    (read_back P k s e i)
