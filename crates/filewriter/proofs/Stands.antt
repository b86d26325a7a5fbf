-- Bytes that stand at a place of a file: a number, a row and n rows are read as they were written. Assumes nothing.
use Prim.Native.Nat.{ℕ, zero, suc, ◌+◌, ◌*◌, ◌<◌, ◌≤◌}
use mathlib.Core.Path.{◌≡◌, sym, ◌∙◌, ap}
use mathlib.Core.List.{List, [], ◌∷◌, ◌++◌}
use native.Mathlib.Nat.{add_assoc}
use native.Mathlib.Omega.{arith}
use lib.ListN.{length, take, length-append, get_or-append}
use lib.Seq.{length-take-le, get_or-append-add, get_or-take}
use Rattle.day.specs.declared.Day.{Day}
use Rattle.day.specs.Windows.{Windows, at}
use Rattle.day.specs.Stored.{Stored}
use Rattle.day.proofs.Cases.{give, on_eq}
use Rattle.dayfile.specs.Bytes.{bytes_of, number_at}
use Rattle.dayfile.specs.Format.{row_bytes, rows_bytes, distance_back, trailer, number_in_row}
use Rattle.filewriter.proofs.Format.{length_bytes_of, length_rows_bytes}

pub record Stands (file : List ℕ) (place : ℕ) (bytes : List ℕ) : Type 0 where
  pub byte : (i : ℕ) → i < length bytes → at file (place + i) ≡ at bytes i

-- stored bytes stand in as much of the file as reaches their end
pub stored_stands : {place : ℕ} {bytes file after : List ℕ} (end : ℕ) → place ≤ length file → place + length bytes ≤ end
    → Stored place bytes file after → Stands (take end after) place bytes
stored_stands {place} {bytes} {file} {after} end h l p =
    record { byte = λ i b. get_or-take end after (place + i) 0 (omega arith) ∙ here i b }
  where
    here : (i : ℕ) → i < length bytes → at after (place + i) ≡ at bytes i
    here i b =
        let long : length (take place file) ≡ place = length-take-le place file h in
        let inside : place + i < length (take place file ++ bytes) = omega (arith, length-append (take place file) bytes) in
        rw (p.between, get_or-append (take place file ++ bytes) _ 0 (place + i) inside)
        (ap (λ (k : ℕ). at (take place file ++ bytes) (k + i)) (sym long) ∙ get_or-append-add (take place file) bytes i 0)

pub stands_first : {file : List ℕ} {place : ℕ} (bytes more : List ℕ) → Stands file place (bytes ++ more) → Stands file place bytes
stands_first bytes more p =
    record { byte = λ i h. p.byte i (omega (arith, length-append bytes more)) ∙ get_or-append bytes more 0 i h }

pub stands_next : {file : List ℕ} {place : ℕ} (bytes more : List ℕ) (before : ℕ) → Stands file place (bytes ++ more)
    → length bytes ≡ before → Stands file (place + before) more
stands_next bytes more before p e =
    record {
      byte = λ i h.
          rw (← e, add_assoc) (p.byte (length bytes + i) (omega (arith, length-append bytes more)) ∙ get_or-append-add bytes more i 0);
    }

byte_stands : {file bytes : List ℕ} {place : ℕ} (i spot : ℕ) → spot ≡ place + i → i < length bytes → Stands file place bytes
    → at file spot ≡ at bytes i
byte_stands i spot e h p = rw e (p.byte i h)

-- a number
pub number_stands : {file : List ℕ} {place : ℕ} (x : ℕ) → Stands file place (bytes_of x) → number_at file place ≡ x
unfolding bytes_of number_at
number_stands {file} {place} x p =
    omega (
      arith,
      byte_stands 0 place (omega arith) (omega arith) p,
      byte_stands 1 (place + 1) (omega arith) (omega arith) p,
    )

-- a row
pub row_stands : {file : List ℕ} {place : ℕ} (r d : ℕ) → Stands file place (row_bytes r d)
    → (number_at file place ≡ r) × (number_at file (place + 2) ≡ d)
unfolding row_bytes
row_stands r d p = (
  number_stands r (stands_first (bytes_of r) (bytes_of d) p),
  number_stands d (stands_next (bytes_of r) (bytes_of d) 2 p (length_bytes_of r)),
)

row_of_rows : {file : List ℕ} {place : ℕ} (w : Windows) (n i : ℕ) → i < n → Stands file place (rows_bytes w n)
    → Stands file (place + 4 * i) (row_bytes (w.release i) (w.deadline i))
unfolding rows_bytes
row_of_rows w zero i h p = absurd (omega arith)
row_of_rows w (suc n) i h p =
    on_eq i n (λ e. rw e (stands_next (rows_bytes w n) (row_bytes (w.release n) (w.deadline n)) (4 * n) p (length_rows_bytes w n)))
    (λ e. row_of_rows w n i (omega arith) (stands_first (rows_bytes w n) (row_bytes (w.release n) (w.deadline n)) p))

-- n rows
pub rows_stand : {file : List ℕ} {place : ℕ} (w : Windows) (n i : ℕ) → i < n → Stands file place (rows_bytes w n)
    → (number_in_row file place i ≡ w.release i) × (number_in_row file (place + 2) i ≡ w.deadline i)
unfolding number_in_row
rows_stand {file} {place} w n i h p =
    let deadline-place : place + 2 + 4 * i ≡ place + 4 * i + 2 = omega arith in
    give (row_stands (w.release i) (w.deadline i) (row_of_rows w n i h p))
    (λ r. (r.0, ap (number_at file) deadline-place ∙ r.1))

pub record TrailerStands (file : List ℕ) (place n : ℕ) (day : Day) : Type 0 where
  pub count : number_at file place ≡ n
  pub slots : number_at file (place + 2) ≡ day.slots
  pub wake : number_at file (place + 4) ≡ day.power.wake
  pub distance : number_at file (place + 6) ≡ distance_back n
  pub first_mark : at file (place + 8) ≡ 80
  pub second_mark : at file (place + 9) ≡ 76

pub trailer_stands : {file : List ℕ} {place : ℕ} (n : ℕ) (day : Day) → Stands file place (trailer n day) → TrailerStands file place n day
unfolding trailer
trailer_stands {file} {place} n day p =
    let two : List ℕ = bytes_of n ++ bytes_of day.slots in
    let three : List ℕ = two ++ bytes_of day.power.wake in
    let four : List ℕ = three ++ bytes_of (distance_back n) in
    let mark : Stands file (place + 8) (80 ∷ 76 ∷ []) = stands_next four _ 8 p (simp (length-append, length_bytes_of)) in
    let distance-here : Stands file place four = stands_first four _ p in
    let wake-here : Stands file place three = stands_first three _ distance-here in
    let slots-here : Stands file place two = stands_first two _ wake-here in
    record {
      count = number_stands n (stands_first (bytes_of n) _ slots-here);
      slots = number_stands _ (stands_next (bytes_of n) _ 2 slots-here (length_bytes_of n));
      wake = number_stands _ (stands_next two _ 4 wake-here (simp (length-append, length_bytes_of)));
      distance = number_stands _ (stands_next three _ 6 distance-here (simp (length-append, length_bytes_of)));
      first_mark = byte_stands 0 (place + 8) (omega arith) (omega arith) mark;
      second_mark = byte_stands 1 (place + 9) (omega arith) (omega arith) mark;
    }
