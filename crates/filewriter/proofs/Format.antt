-- Laws of the bytes of a day file, and how many there are. Assumes nothing.
use Prim.Native.Nat.{ℕ, zero, suc, ◌+◌, ◌*◌, ◌/◌, ◌%◌, ◌^◌, ◌<◌, ◌≤◌}
use mathlib.Core.Path.{◌≡◌, refl, sym, ◌∙◌, ap}
use mathlib.Core.List.{List, [], ◌∷◌, ◌++◌, append_assoc}
use native.Mathlib.Numerals.{add-one}
use native.Mathlib.Omega.{arith}
use borrow.Rule.Slice.PartMut.{put_mid}
use lib.ListN.{length, get_or, take, length-append}
use lib.Seq.{take-suc}
use Rattle.std.specs.Int.{w16, to_le_bytes}
use Rattle.std.specs.List.{flat_map}
use Rattle.std.proofs.lemmas.Grind.{flat_map-append}
use Rattle.std.proofs.lemmas.List.{drop-drop}
use Rattle.std.proofs.lemmas.Slice.{take-put_mid}
use Rattle.day.specs.declared.Day.{Day}
use Rattle.day.specs.Windows.{Windows}
use Rattle.day.specs.Stored.{Stored}
use Rattle.day.proofs.Stored.{stored_more}
use Rattle.dayfile.specs.Bytes.{bytes_of}
use Rattle.dayfile.specs.Format.{row_bytes, rows_bytes, trailer, distance_back, rows_and_trailer}

pub length_bytes_of : (x : ℕ) → length (bytes_of x) ≡ 2
unfolding bytes_of
length_bytes_of x = refl

-- the trailer is five numbers, the mark's last
pub trailer_numbers : (n : ℕ) (day : Day)
    → flat_map bytes_of (n ∷ day.slots ∷ day.power.wake ∷ distance_back n ∷ 19536 ∷ []) ≡ trailer n day
unfolding trailer bytes_of
trailer_numbers n day = refl

-- a row is two
pub row_numbers : (r d : ℕ) → flat_map bytes_of (r ∷ d ∷ []) ≡ row_bytes r d
unfolding row_bytes bytes_of
row_numbers r d = refl

-- one number more
pub numbers_next : (ns : List ℕ) (i : ℕ) → i < length ns
    → flat_map bytes_of (take (i + 1) ns) ≡ flat_map bytes_of (take i ns) ++ bytes_of (get_or ns i 0)
unfolding bytes_of
numbers_next ns i h = rw (add-one, take-suc ns i 0, flat_map-append)

-- a number's bytes as the library gives them
pub low_first : (x : ℕ) → x < 65536 → to_le_bytes w16 x ≡ bytes_of x
unfolding bytes_of
low_first x h = let high : x / 256 ^ 1 % 256 ≡ x / 256 = omega arith in ap (λ (b : ℕ). x % 256 ∷ b ∷ []) high

-- one part more, after those that stand in the first places
pub written_more : {before part : List ℕ} (a k : ℕ) (xs ys : List ℕ) (n : ℕ) → take a xs ≡ before → ys ≡ part → n ≡ a + length ys → a ≤ length xs
    → take n (put_mid a k xs ys) ≡ before ++ part
written_more a k xs ys n e f h l = rw (take-put_mid a k xs ys n h l, e, f)

pub length_row_bytes : (r d : ℕ) → length (row_bytes r d) ≡ 4
unfolding row_bytes
length_row_bytes r d = simp (length-append, length_bytes_of)

pub length_rows_bytes : (w : Windows) (n : ℕ) → length (rows_bytes w n) ≡ 4 * n
unfolding rows_bytes
length_rows_bytes w zero = omega arith
length_rows_bytes w (suc n) = simp (length-append, length_row_bytes, length_rows_bytes w n) (omega arith)

pub length_trailer : (n : ℕ) (day : Day) → length (trailer n day) ≡ 10
unfolding trailer
length_trailer n day = simp (length-append, length_bytes_of)

pub length_rows_and_trailer : (day : Day) (w : Windows) → length (rows_and_trailer day w) ≡ distance_back w.count
unfolding rows_and_trailer
length_rows_and_trailer day w = simp (length-append, length_rows_bytes, length_trailer)

-- bytes that fill a part of a list are stored there
stored_mid : (bytes old : List ℕ) (place size : ℕ) → length bytes ≡ size → Stored place bytes old (put_mid place size old bytes)
stored_mid bytes old place size e =
    record { between = rw (e, ← drop-drop) (sym (append_assoc (take place old) bytes _)) }

-- rows, and the trailer after them
pub rows_and_trailer_stored : (m a b : ℕ) (day : Day) (w : Windows) (file : List ℕ) → a ≡ 4 * w.count → b ≡ 10 → m ≤ length file
    → Stored m (rows_and_trailer day w) file (put_mid (m + 4 * w.count) b (put_mid m a file (rows_bytes w w.count)) (trailer w.count day))
unfolding rows_and_trailer
rows_and_trailer_stored m a b day w file e f h =
    stored_more h (stored_mid (rows_bytes w w.count) file m a (length_rows_bytes w w.count ∙ sym e)) (rw length_rows_bytes)
    (stored_mid (trailer w.count day) _ (m + 4 * w.count) b (length_trailer w.count day ∙ sym f))
