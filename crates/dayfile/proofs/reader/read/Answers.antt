-- `dayfile::reader::read` meets its contract. Assumes nothing.
use Prim.Native.Nat.{min}
use mathlib.Core.Path.{◌≡◌, refl, sym, ◌∙◌, ap}
use native.Mathlib.Omega.{arith}
use lib.ListN.{length}
use Rattle.checks.proofs.Refused.{refused_not_done, given_back}
use Rattle.dayfile.specs.declared.reader.Header.{Header}
use Rattle.dayfile.specs.Format.{count_in}
use Rattle.dayfile.proofs.RowsRead.{filled_front}
use Rattle.dayfile.proofs.reader.read.Goals as goal

pub returns-in_err-check_file : goal.returns-in_err-check_file
returns-in_err-check_file c =
    let room : c.min.result ≡ min (length c.args.releases.now) (length c.args.deadlines.now) = c.min.ensures in
    rw (given_back c.from_residual.result c.from_residual.ensures.1)
    record {
      answer = rw (← room) c.in_err-check_file.ensures.refuses;
      accepted = λ e. absurd (refused_not_done _ e);
      refused = λ h. record { reading = refl; kept_releases = refl; kept_deadlines = refl };
    }

pub returns : goal.returns
returns c =
    let room : c.min.result ≡ min (length c.args.releases.now) (length c.args.deadlines.now) = c.min.ensures in
    let good = c.in_ok-check_file.ensures.good in
    let rows : c.from-count.result ≡ count_in c.args.file.now =
    c.from-count.ensures ∙ ap (λ (header : Header). header.count) c.of-header.ensures
    in
    rw c.of-header.ensures
    record {
      answer = rw (← room) c.in_ok-check_file.ensures.refuses;
      accepted = λ e.
          record {
            count = refl;
            slots = refl;
            wake = refl;
            first_releases = filled_front _ (omega arith) (sym rows) (omega (arith, good)) c.read_column.ensures;
            first_deadlines = filled_front _ (omega arith) (sym rows) (omega (arith, good)) c.read_column-2.ensures;
          };
      refused = λ h. absurd (h refl);
    }
