-- Where a promise speaks of the columns of a list or of a slot's record in numbers, it determines the outcome too. Assumes nothing.
use Prim.Native.Nat.{ℕ}
use mathlib.Core.Path.{◌≡◌, sym, ◌∙◌, ap}
use mathlib.Core.List.{List}
use lib.IntN.{ℤ}
use Rattle.checks.specs.declared.Answer.{Answer}
use Rattle.day.specs.declared.Day.{Day}
use Rattle.day.specs.declared.Job.{Job}
use Rattle.day.specs.Windows.{Windows}
use Rattle.day.proofs.Cases.{give}
use Rattle.checks.proofs.Check.{times_is_check, list_is_check}
use Rattle.dayfile.specs.declared.reader.Reading.{Reading}
use Rattle.dayfile.specs.Reader.{ReadPromise}
use Rattle.dayfile.proofs.Unique.{read_unique}
use Rattle.moving.specs.Moving.{MovePromise}
use Rattle.moving.proofs.Unique.{moved_list_unique}
use Rattle.ledger.proofs.Unique.{shown_unique}
use Rattle.chaskuri.specs.declared.numbers.SlotNumbers.{SlotNumbers}
use Rattle.rows.specs.Columns.{releases, deadlines}
use Rattle.rows.proofs.Columns.{same_columns}
use Rattle.chaskuri.specs.Slot.{in_numbers, SlotNumbered}

pub moved_jobs_unique : (slots : ℕ) (by : ℤ) (jobs : List Job) (a b : Answer) (js ks : List Job)
    → MovePromise slots by (releases jobs) (deadlines jobs) a (releases js) (deadlines js)
    → MovePromise slots by (releases jobs) (deadlines jobs) b (releases ks) (deadlines ks)
    → (a ≡ b) × (js ≡ ks)
moved_jobs_unique slots by jobs a b js ks p q =
    give (moved_list_unique times_is_check p q) (λ s. (s.0, same_columns js ks s.1 s.2))

pub read_jobs_unique : (file : List ℕ) (jobs : List Job) (a b : Reading) (js ks : List Job)
    → ReadPromise file (releases jobs) (deadlines jobs) a (releases js) (deadlines js)
    → ReadPromise file (releases jobs) (deadlines jobs) b (releases ks) (deadlines ks)
    → (a ≡ b) × (js ≡ ks)
read_jobs_unique file jobs a b js ks p q =
    give (read_unique p q) (λ s. (s.0, same_columns js ks s.1 s.2))

pub slot_numbers_unique : (day : Day) (w : Windows) (starts : List ℕ) (asked : ℕ) (a b : SlotNumbers)
    → SlotNumbered day w starts asked a → SlotNumbered day w starts asked b → a ≡ b
slot_numbers_unique day w starts asked a b p q =
    p.same
    ∙ ap in_numbers (shown_unique list_is_check day w starts asked p.shown q.shown p.promised q.promised)
    ∙ sym q.same
