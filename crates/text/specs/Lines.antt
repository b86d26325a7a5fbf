-- The printed lines.
use Rattle.std.specs.Prelude.{ℕ, zero, suc, ◌-◌, ◌≡◌, cond, List, [], ◌∷◌, ◌++◌, eqb, length, replicate}
use Rattle.checks.specs.declared.Answer.{Answer}
use Rattle.checks.specs.Answer.{done}
use Rattle.ledger.specs.declared.Counts.{Counts}
use Rattle.text.specs.declared.Text.{Text}
use Rattle.text.specs.Decimal.{decimal}

-- "plan" and "slots"
abbrev pub plan_word : List ℕ
plan_word = 112 ∷ 108 ∷ 97 ∷ 110 ∷ []

abbrev pub slots_word : List ℕ
slots_word = 115 ∷ 108 ∷ 111 ∷ 116 ∷ 115 ∷ []

abbrev pub blank : List ℕ
blank = 32 ∷ []

abbrev pub line_feed : List ℕ
line_feed = 10 ∷ []

-- numbers, a blank before each
unfoldable pub spaced : List ℕ → List ℕ
spaced [] = []
spaced (n ∷ ns) = blank ++ decimal n ++ spaced ns

-- a word, numbers, and the line's end
abbrev pub line : List ℕ → List ℕ → List ℕ
line word numbers = word ++ (spaced numbers ++ line_feed)

unfoldable pub plan_line : Answer → List ℕ
plan_line answer = line plan_word (answer.code ∷ answer.first ∷ [])

-- a row, counted from 1, and its start
unfoldable pub row_line : ℕ → ℕ → List ℕ
row_line row start = line (decimal row) (start ∷ [])

-- the lines of the first n rows
unfoldable pub row_lines : (ℕ → ℕ) → ℕ → List ℕ
row_lines start zero = []
row_lines start (suc n) = row_lines start n ++ row_line (suc n) (start n)

unfoldable pub slots_line : Counts → List ℕ
slots_line counts =
    line slots_word (counts.before ∷ counts.job ∷ counts.awake ∷ counts.asleep ∷ counts.after ∷ [])

-- the whole text; under a refusal only the first line appears
unfoldable pub lines : Answer → ℕ → (ℕ → ℕ) → Counts → List ℕ
lines answer count start counts =
    plan_line answer
    ++ cond (eqb answer.code done) (row_lines start count ++ slots_line counts) []

-- the text has these bytes, and zeros after them
pub record Prints (bytes : List ℕ) (text : Text) : Type 0 where
  pub len : text.len ≡ length bytes
  pub holds : text.bytes ≡ bytes ++ replicate (512 - length bytes) 0
