-- What is lent beside the table, what is asked of it, and which problems of the rule it poses.
use Rattle.std.specs.Prelude.{ℕ, ◌≤◌, ◌<◌, ◌≡◌, true, List, length}
use Rattle.day.specs.Windows.{at}
use Rattle.rule.specs.Span.{Problem, clear}
use Rattle.engine.specs.declared.Shape.{Shape}
use Rattle.engine.specs.declared.Loan.{Loan}
use Rattle.engine.specs.Places.{Layout, Fits, layout}

-- the shape of the table, where its bands begin, and the jobs by number: releases, deadlines, and for each point how many of the lowest
-- jobs may split there as far as allowed starts and the releases of lower jobs go
pub record Lent : Type 0 where
  pub shape : Shape
  pub begins : List ℕ
  pub rel : List ℕ
  pub dead : List ℕ
  pub marks : List ℕ

abbrev pub lent : Shape → List ℕ → List ℕ → List ℕ → List ℕ → Lent
lent shape begins rel dead marks = record { shape = shape; begins = begins; rel = rel; dead = dead; marks = marks }

-- what the code's loan has
abbrev pub lent_in : Loan → Lent
lent_in p = lent p.frame.shape p.frame.begins.now p.rel.now p.dead.now p.marks.now

abbrev pub layout_of : Lent → Layout
layout_of G = layout G.shape G.begins

-- the sum of two values has 15 bits
abbrev pub most_none : ℕ
most_none = 16383

-- what is asked for n jobs
pub record Prepared (G : Lent) (n : ℕ) : Type 0 where
  pub fits : Fits (layout_of G)
  pub small_none : G.shape.none ≤ most_none
  pub bands : G.shape.points ≤ length G.begins
  pub releases : n ≤ length G.rel
  pub deadlines : n ≤ length G.dead
  pub marked : G.shape.points ≤ length G.marks
  pub window : (k : ℕ) → k < n → at G.rel k < at G.dead k
  pub before_end : (k : ℕ) → k < n → at G.dead k < G.shape.points

-- the lists pose the lowest n jobs of the problem
pub record Posed (P : Problem) (G : Lent) (n : ℕ) : Type 0 where
  pub none : P.none ≡ G.shape.none
  pub release : (k : ℕ) → k < n → P.release k ≡ at G.rel k
  pub deadline : (k : ℕ) → k < n → P.deadline k ≡ at G.dead k
  pub marked : (k t : ℕ) → k < n → t < G.shape.points → k < at G.marks t → (P.allowed t ≡ true) × (clear P k t ≡ true)
  pub unmarked : (k t : ℕ) → k < n → t < G.shape.points → P.allowed t ≡ true → clear P k t ≡ true → k < at G.marks t
