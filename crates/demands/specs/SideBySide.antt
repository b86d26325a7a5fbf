-- Demand 3, side by side: where every deadline of a list is at most g and every release of another at least g + L, the best plan of the joined
-- list is the best plans of the two, side by side; a wake comes to their costs unless a list is empty; and 7 exactly if one of the two has 7.
use Rattle.std.specs.Prelude.{ℕ, ◌+◌, ◌≤◌, ◌<◌, ◌≡◌, List, ◌++◌, ◌⊎◌, length, take}
use Rattle.day.specs.Windows.{windows, SameRows}
use Rattle.checks.specs.Answer.{done, no_plan}
use Rattle.day.specs.Joined.{joined}
use Rattle.checks.specs.Check.{Accepted}
use Rattle.demands.specs.Run.{Run, list, Served}

-- three runs on one day: a list, another, and the rows of the first followed by those of the second
pub record Joins (g : ℕ) (first second whole : Run) : Type 0 where
  pub day : second.day ≡ first.day
  pub whole_day : whole.day ≡ first.day
  pub rows : SameRows (joined (list first) (list second)) (list whole)
  pub by_g : (i : ℕ) → i < (list first).count → (list first).deadline i ≤ g
  pub wake_later : (i : ℕ) → i < (list second).count → g + first.day.power.wake ≤ (list second).release i

-- of lists of numbers: the second list's numbers after the first's, which has a deadline for each row, are the joined list
abbrev pub AppendedJoined : Type 0
AppendedJoined =
    (releases deadlines more-releases more-deadlines : List ℕ) → length deadlines ≡ length releases
    → SameRows (joined (windows releases deadlines) (windows more-releases more-deadlines))
    (windows (releases ++ more-releases) (deadlines ++ more-deadlines))

-- where checks 1 to 4 accept the whole, they accept the two
abbrev pub JoinedAccepted : Type 0
JoinedAccepted =
    (g : ℕ) (first second whole : Run) → Joins g first second whole → Accepted whole.day (list whole)
    → Accepted first.day (list first) × Accepted second.day (list second)

-- the whole has code 0, slot for slot the starts of the first and then those of the second, and the costs of both, with a wake if both have jobs
pub record SideBySide (first second whole : Run) : Type 0 where
  pub code : whole.answer.code ≡ done
  pub starts : take (list whole).count whole.starts_after
      ≡ take (list first).count first.starts_after ++ take (list second).count second.starts_after
  pub with_wake : 0 < (list first).count → 0 < (list second).count
      → whole.answer.first ≡ first.answer.first + second.answer.first + first.day.power.wake
  pub no_wake : ((list first).count ≡ 0) ⊎ ((list second).count ≡ 0)
      → whole.answer.first ≡ first.answer.first + second.answer.first

-- 7 exactly if one of the two has 7
pub record SevenOfEither (first second whole : Run) : Type 0 where
  pub only_if : whole.answer.code ≡ no_plan → (first.answer.code ≡ no_plan) ⊎ (second.answer.code ≡ no_plan)
  pub of_first : first.answer.code ≡ no_plan → whole.answer.code ≡ no_plan
  pub of_second : second.answer.code ≡ no_plan → whole.answer.code ≡ no_plan

abbrev pub JoinsSideBySide : Type 0
JoinsSideBySide =
    (g : ℕ) (first second whole : Run) → Joins g first second whole → Served first → Served second → Served whole
    → first.answer.code ≡ done
    → second.answer.code ≡ done
    → SideBySide first second whole

abbrev pub JoinsSeven : Type 0
JoinsSeven =
    (g : ℕ) (first second whole : Run) → Joins g first second whole → Served first → Served second → Served whole
    → SevenOfEither first second whole
