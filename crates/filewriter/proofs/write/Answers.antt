-- `filewriter::write` meets its contract. Assumes nothing.
use mathlib.Core.Path.{refl}
use native.Mathlib.Omega.{arith}
use Rattle.filewriter.proofs.Format.{rows_and_trailer_stored}
use Rattle.filewriter.proofs.write.Goals as goal

pub returns : goal.returns
returns c =
    let room = c.in_ok-check_room.ensures.writable in
    rw (c.write_rows.ensures, c.write_trailer.ensures)
    record {
      answer = c.in_ok-check_room.ensures.refuses;
      accepted = λ e. rows_and_trailer_stored _ _ _ _ _ _ (omega arith) (omega arith) (omega (arith, room));
      refused = λ h. absurd (h refl);
    }
