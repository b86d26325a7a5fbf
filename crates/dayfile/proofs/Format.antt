-- Laws of a day file's mark and of its numbers listed. Assumes nothing.
use Prim.Native.Nat.{ℕ, zero, suc, ◌+◌, ◌*◌, ◌-◌, ◌<◌, ◌≤◌}
use mathlib.Core.Path.{◌≡◌, refl, sym, ◌∙◌, ap}
use mathlib.Core.List.{List, [], ◌∷◌}
use native.Mathlib.Omega.{arith}
use lib.ListN.{length, length-append, get_or-append}
use lib.Seq.{get_or-append_seam}
use Rattle.day.specs.Windows.{at}
use Rattle.day.proofs.Cases.{on_eq}
use Rattle.dayfile.specs.Bytes.{number_at}
use Rattle.dayfile.specs.Format.{HasMark, listed}

-- the mark's two bytes as one number
pub mark_number : (file : List ℕ) → HasMark file → 2 ≤ length file → number_at file (length file - 2) ≡ 19536
unfolding number_at
mark_number file m h = let last : length file - 2 + 1 ≡ length file - 1 = omega arith in rw last (omega (arith, m.0, m.1))

pub number_mark : (file : List ℕ) → number_at file (length file - 2) ≡ 19536 → at file (length file - 2) < 256 → 2 ≤ length file → HasMark file
unfolding number_at
number_mark file e low h =
    let last : length file - 2 + 1 ≡ length file - 1 = omega arith in
    let same : at file (length file - 2) + 256 * at file (length file - 1) ≡ 19536 = rw last at e in (omega arith, omega arith)

pub listed_length : (f : ℕ → ℕ) (n : ℕ) → length (listed f n) ≡ n
unfolding listed
listed_length f zero = refl
listed_length f (suc n) = simp (length-append, listed_length f n) (omega arith)

pub listed_at : (f : ℕ → ℕ) (n i : ℕ) → i < n → at (listed f n) i ≡ f i
unfolding listed
listed_at f zero i h = absurd (omega arith)
listed_at f (suc n) i h =
    on_eq i (length (listed f n))
    (λ e. rw (e, get_or-append_seam) (ap f (sym (listed_length f n))))
    (λ e.
    let within : i < length (listed f n) = omega (arith, listed_length f n) in
    get_or-append (listed f n) (f n ∷ []) 0 i within ∙ listed_at f n i (omega (arith, listed_length f n)))
