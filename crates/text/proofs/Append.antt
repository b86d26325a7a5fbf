-- Laws of bytes put at the end of a text. Assumes nothing.
use Prim.Native.Nat.{ℕ, ◌+◌, ◌-◌}
use mathlib.Core.Path.{◌≡◌, refl}
use mathlib.Core.List.{List, [], ◌++◌, append_assoc, append-nil}
use native.Mathlib.Omega.{arith}
use borrow.Rule.Slice.PartMut.{put_mid}
use lib.ListN.{length, length-append}
use Rattle.text.specs.declared.Text.{Text}
use Rattle.text.proofs.Lines.{zeros_after}
use Rattle.text.specs.steps.Append.{Appended}

pub appended_none : (text : Text) → Appended [] text text
appended_none text = record { ends = omega arith; goes_on = λ before p. rw append-nil p }

-- bytes after bytes are one run of bytes
pub appended_join : {xs ys : List ℕ} {old between new : Text} → Appended xs old between → Appended ys between new → Appended (xs ++ ys) old new
appended_join {xs} {ys} p q =
    record {
      ends = omega (arith, p.ends, q.ends, length-append xs ys);
      goes_on = λ before held. rw (← append_assoc) (q.goes_on _ (p.goes_on before held));
    }

-- a word that is written at a text's end
pub appended_word : (word written : List ℕ) (old : Text) → written ≡ word
    → Appended word old (record { bytes = put_mid old.len (old.len + length word - old.len) old.bytes written; len = old.len + length word })
appended_word word written old e =
    record {
      ends = refl;
      goes_on = λ before held.
          record { len = rw (length-append, held.len); holds = rw e (zeros_after before word old.bytes old.len held.len held.holds) };
    }
