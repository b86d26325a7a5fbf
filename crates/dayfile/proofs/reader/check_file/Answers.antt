-- `dayfile::reader::check_file` meets its contract. Assumes nothing.
use mathlib.Core.Path.{refl}
use native.Mathlib.Omega.{arith}
use Rattle.checks.specs.Refusal.{◌then◌, Passed, stops}
use Rattle.checks.proofs.Refusal.{past, then_group}
use Rattle.checks.specs.Answer.{checked}
use Rattle.dayfile.specs.Reader.{FileCheck}
use Rattle.dayfile.proofs.Accepted.{good_if_ok}
use Rattle.dayfile.proofs.Format.{mark_number, number_mark}
use Rattle.dayfile.proofs.reader.check_file.Goals as goal

pub returns-then-number_at-ne-MARK-clause-refuses : goal.returns-then-number_at-ne-MARK-clause-refuses
returns-then-number_at-ne-MARK-clause-refuses c =
    stops
    (past (λ f. omega arith)
    (stops (record { fault = λ m. omega (arith, mark_number c.args.file.now m (omega arith)); says = refl })))

pub returns : goal.returns
returns c =
    let rows =
    rw (c.from-count.ensures, c.number_at-2.ensures.0, c.from-distance.ensures, c.number_at-3.ensures.0)
    at c.check_rows.ensures
    in
    let refuses : (FileCheck c.args.file.now c.args.room then Passed) (checked c.check_rows.result) =
    then_group _
    (past (λ f. omega arith)
    (then_group _ (past (λ f. f (number_mark c.args.file.now (omega arith) (omega arith) (omega arith))) rows)))
    in
    record { refuses = refuses; good = good_if_ok _ _ _ refuses }
