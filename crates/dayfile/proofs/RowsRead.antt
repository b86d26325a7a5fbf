-- What the reader gives are the file's day and rows. Assumes nothing.
use Prim.Native.Nat.{ℕ, ◌+◌, ◌-◌, ◌≤◌, ◌<◌}
use mathlib.Core.Path.{◌≡◌, refl, sym, ◌∙◌, ap}
use mathlib.Core.List.{List, ◌++◌}
use native.Mathlib.Omega.{arith}
use lib.ListN.{length, take, drop, length-append, length-drop, get_or-append}
use lib.Seq.{length-take-le, get_or-take, ext_get_or}
use Rattle.std.proofs.lemmas.List.{get_or-append-add, get_or-drop}
use Rattle.day.specs.Windows.{at}
use Rattle.day.proofs.Cases.{on_le}
use Rattle.day.specs.declared.Day.{Day}
use Rattle.dayfile.specs.declared.reader.Reading.{Reading}
use Rattle.dayfile.specs.Format.{number_in_row, count_in, release_in, deadline_in, listed, file_day}
use Rattle.dayfile.specs.Reader.{FilledFrom, RowsRead}
use Rattle.dayfile.proofs.Format.{listed_length, listed_at}

pub day_ext : (a b : Day) → a.slots ≡ b.slots → a.power.wake ≡ b.power.wake → a ≡ b
day_ext a b p q =
    ap (λ (x : ℕ). day_of x a.power.wake) p ∙ ap (day_of b.slots) q
  where
    day_of : ℕ → ℕ → Day
    day_of slots wake = record { slots = slots; power = record { wake = wake } }

-- a list whose first part was filled is filled so far; where the rows begin may be said in another way
pub filled_front : {n m place other : ℕ} {xs ys : List ℕ} (file : List ℕ) → m ≤ length xs → n ≡ m → place ≡ other
    → FilledFrom (length (take m xs)) (number_in_row file place) (take m xs) ys → FilledFrom n (number_in_row file other) xs (ys ++ drop m xs)
filled_front {m = m} {xs = xs} {ys = ys} file h e f p =
    let long : length (take m xs) ≡ m = length-take-le m xs h in
    let same : length ys ≡ m = p.long ∙ long in
    rw (e, ← f)
    record {
      long = omega (arith, length-append ys (drop m xs), length-drop m xs);
      inside = λ i l. get_or-append ys _ 0 i (omega arith) ∙ p.inside i (omega arith);
      outside = λ j out.
          let past : m ≤ j = on_le m j (λ l. l) (λ l. absurd (out j l refl)) in
          let here : j ≡ length ys + (j - m) = omega arith in
          let there : m + (j - m) ≡ j = omega arith in
          ap (at (ys ++ drop m xs)) here ∙ get_or-append-add ys _ (j - m) 0 ∙ get_or-drop m xs (j - m) 0 ∙ ap (at xs) there;
    }

-- the first places that the reader fills are the numbers, listed
filled_listed : (n : ℕ) (f : ℕ → ℕ) (xs ys : List ℕ) → n ≤ length xs → FilledFrom n f xs ys → take n ys ≡ listed f n
filled_listed n f xs ys h F =
    let long : length (take n ys) ≡ n = length-take-le n ys (omega (arith, F.long)) in
    ext_get_or 0 (take n ys) (listed f n) (long ∙ sym (listed_length f n))
    (λ i l.
    let below : i < n = omega arith in
    get_or-take n ys i 0 below ∙ F.inside i below ∙ sym (listed_at f n i below))

module _ {file xs ys xs-after ys-after : List ℕ} {r : Reading} (R : RowsRead file xs ys r xs-after ys-after) where
  pub day_read : r.day ≡ file_day file
  day_read = day_ext r.day (file_day file) R.slots R.wake

  pub releases_read : count_in file ≤ length xs → take r.count xs-after ≡ listed (release_in file) (count_in file)
  releases_read enough = rw R.count (filled_listed (count_in file) (release_in file) xs xs-after enough R.first_releases)

  pub deadlines_read : count_in file ≤ length ys → take r.count ys-after ≡ listed (deadline_in file) (count_in file)
  deadlines_read enough = rw R.count (filled_listed (count_in file) (deadline_in file) ys ys-after enough R.first_deadlines)
