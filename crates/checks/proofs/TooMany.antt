-- More than 40 rows are refused alike, whatever they hold. Assumes nothing.
use Prim.Native.Nat.{ℕ, ◌<◌}
use mathlib.Core.Path.{refl}
use Rattle.checks.specs.declared.Answer.{Answer}
use Rattle.day.specs.declared.Day.{Day}
use Rattle.day.specs.Windows.{Windows}
use Rattle.checks.specs.Answer.{says, too_many_jobs}
use Rattle.checks.specs.Refusal.{◌then◌, stops, goes_on, Refuses}
use Rattle.checks.specs.Check.{most_jobs, JobsCheck, TimesCheck, ListCheck}
use Rattle.checks.proofs.Refusal.{clear_first, clear_next}

-- a check has something to refuse, and the other check refuses it with the same answer
pub record Alike (Check Other : Answer → Type 0) : Type 0 where
  pub refuses : ((b : Answer) → Check b → ⊥) → ⊥
  pub same : (a : Answer) → Check a → Other a

-- what comes after a check that has something to refuse does not answer
pub alike_stops : {Check Other Next : Answer → Type 0} → Alike Check Other → (a : Answer) → (Check then Next) a → Check a
alike_stops alike a (stops p) = p
alike_stops alike a (goes_on clear p) = absurd (alike.refuses clear)

-- checks that refuse alike do so whatever comes next
pub alike_first : {Check Other Next Next' : Answer → Type 0} → Alike Check Other → Alike (Check then Next) (Other then Next')
alike_first alike =
    record { refuses = λ clear. alike.refuses (clear_first clear); same = λ a p. stops (alike.same a (alike_stops alike a p)) }

-- what comes next may be another, where that gives the same answer
pub map_next : {Check Next Next' : Answer → Type 0} → (((b : Answer) → Check b → ⊥) → (a : Answer) → Next a → Next' a) → (a : Answer) → (Check then Next) a → (Check then Next') a
map_next f a (stops p) = stops p
map_next f a (goes_on clear p) = goes_on clear (f clear a p)

-- and after one and the same check
pub alike_next : {Before Check Other : Answer → Type 0} → Alike Check Other → Alike (Before then Check) (Before then Other)
alike_next alike = record { refuses = λ clear. alike.refuses (clear_next clear); same = map_next (λ _. alike.same) }

pub counts_alike : (n m : ℕ) → most_jobs < n → most_jobs < m → Alike (Refuses too_many_jobs (most_jobs < n)) (Refuses too_many_jobs (most_jobs < m))
counts_alike n m many other =
    record {
      refuses = λ clear. clear (says too_many_jobs 0 0) (record { fault = many; says = refl });
      same = λ a p. record { fault = other; says = p.says };
    }

module _ (w v : Windows) (many : most_jobs < w.count) (other : most_jobs < v.count) where
  jobs_alike : (slots : ℕ) → Alike (JobsCheck most_jobs slots w) (JobsCheck most_jobs slots v)
  jobs_alike slots = alike_first (counts_alike w.count v.count many other)

  pub times_alike : (slots : ℕ) → Alike (TimesCheck slots w) (TimesCheck slots v)
  times_alike slots = alike_next (jobs_alike slots)

  pub lists_alike : (day : Day) → Alike (ListCheck day w) (ListCheck day v)
  lists_alike day = alike_next (alike_next (jobs_alike day.slots))
