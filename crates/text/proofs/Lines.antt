-- Laws of the printed lines: how they are made one after the other. Assumes nothing.
use Prim.Native.Nat.{ℕ, ◌+◌, ◌-◌, ◌≤◌, ◌<◌}
use mathlib.Core.Path.{◌≡◌, refl, sym, ◌∙◌, ap}
use mathlib.Core.List.{List, [], ◌∷◌, ◌++◌, append_assoc, append-nil}
use native.Mathlib.Numerals.{add-one}
use native.Mathlib.Omega.{arith}
use borrow.Rule.Slice.PartMut.{put_mid}
use lib.ListN.{length, get_or, take, replicate, length-append}
use lib.Seq.{take-suc, take_at}
use borrow.Author.Tests.{eq-eqb, ne_eqb}
use Rattle.std.proofs.lemmas.List.{drop_at, drop-replicate}
use Rattle.checks.specs.declared.Answer.{Answer}
use Rattle.checks.specs.Answer.{done}
use Rattle.ledger.specs.declared.Counts.{Counts}
use Rattle.text.specs.declared.Text.{Text}
use Rattle.text.specs.Decimal.{decimal}
use Rattle.text.specs.Lines.{blank, spaced, plan_line, row_line, row_lines, slots_line, lines, Prints}

spaced_append : (ms ns : List ℕ) → spaced (ms ++ ns) ≡ spaced ms ++ spaced ns
unfolding spaced
spaced_append [] ns = refl
spaced_append (m ∷ ms) ns =
    ap (λ (rest : List ℕ). blank ++ decimal m ++ rest) (spaced_append ms ns)
    ∙ sym (append_assoc (blank ++ decimal m) (spaced ms) (spaced ns))

spaced_alone : (n : ℕ) → spaced (n ∷ []) ≡ blank ++ decimal n
unfolding spaced
spaced_alone n = append-nil (blank ++ decimal n)

-- one number more
pub spaced_next : (ns : List ℕ) (i : ℕ) → i < length ns → spaced (take (i + 1) ns) ≡ spaced (take i ns) ++ (blank ++ decimal (get_or ns i 0))
spaced_next ns i h = rw (add-one, take-suc ns i 0, spaced_append, spaced_alone)

-- one row more
pub row_lines_next : (start : ℕ → ℕ) (n : ℕ) → row_lines start (n + 1) ≡ row_lines start n ++ row_line (n + 1) (start n)
unfolding row_lines
row_lines_next start n = rw add-one

pub lines_done : (answer : Answer) (count : ℕ) (start : ℕ → ℕ) (counts : Counts) → answer.code ≡ done
    → lines answer count start counts ≡ plan_line answer ++ (row_lines start count ++ slots_line counts)
unfolding lines
lines_done answer count start counts e = rw (eq-eqb answer.code done e)

pub lines_refused : (answer : Answer) (count : ℕ) (start : ℕ → ℕ) (counts : Counts) → (answer.code ≡ done → ⊥)
    → lines answer count start counts ≡ plan_line answer
unfolding lines
lines_refused answer count start counts h = rw (ne_eqb answer.code done h) (append-nil (plan_line answer))

-- bytes held, and zeros after them, with a word written over the first zeros
pub zeros_after : (before word held : List ℕ) (len : ℕ) → len ≡ length before → held ≡ before ++ replicate (512 - length before) 0
    → put_mid len (len + length word - len) held word ≡ (before ++ word) ++ replicate (512 - length (before ++ word)) 0
zeros_after before word held len e h =
    let long : len + length word - len ≡ length word = omega arith in
    let rest : 512 - length before - length word ≡ 512 - (length before + length word) = omega arith in
    rw (long, h, e, take_at before _ _ refl, drop_at before _ _ refl, drop-replicate, length-append, rest) (sym (append_assoc before word _))

-- a text lies within its buffer
pub prints_within : {bytes : List ℕ} {text : Text} → Prints bytes text → text.len ≤ length text.bytes
prints_within {bytes} p = rw (p.holds, length-append) (omega (arith, p.len))
