-- Laws of numbers stored one after another. Assumes nothing.
use Prim.Native.Nat.{ℕ, suc, ◌+◌, ◌≤◌}
use mathlib.Core.Path.{◌≡◌, sym, ap, ◌∙◌}
use mathlib.Core.List.{List, [], ◌∷◌, ◌++◌, append_assoc}
use native.Mathlib.Nat.{add_assoc}
use native.Mathlib.Omega.{arith}
use lib.ListN.{length, take, drop, set, length-append}
use lib.Seq.{sets-eq, length-sets, length-take-le, take_at, drop-append-add, drop-drop}
use Rattle.day.specs.Stored.{Stored}

pub stored_none : {old : List ℕ} {place : ℕ} → place ≤ length old → Stored place [] old old
stored_none {old} {place} h = record { between = sets-eq [] old place (omega arith) }

-- two numbers, the second just after the first
pub stored_pair : (old : List ℕ) (place next low high : ℕ) → place + 2 ≤ length old → next ≡ suc place
    → Stored place (low ∷ high ∷ []) old (set (set old place low) next high)
stored_pair old place next low high h e =
    record { between = rw e (sets-eq (low ∷ high ∷ []) old place (omega arith)) }

-- numbers that go on where those before them ended
pub stored_more : {place next : ℕ} {numbers more old before new : List ℕ} → place ≤ length old → Stored place numbers old before
    → next ≡ place + length numbers → Stored next more before new → Stored place (numbers ++ more) old new
stored_more {place} {next} {numbers} {more} {old} {before} {new} h p q r =
    let head : List ℕ = take place old ++ numbers in
    let head-length : length head ≡ next = simp (length-append, length-take-le place old h) (sym q) in
    let front : take next before ≡ head = rw p.between (take_at head _ next head-length) in
    let back : drop (next + length more) before ≡ drop (place + length (numbers ++ more)) old =
    rw (p.between, ← head-length, drop-append-add, drop-drop, length-append, add_assoc)
    in
    record { between = r.between ∙ rw (front, back) (simp append_assoc) }

pub stored_length : {place : ℕ} {numbers old new : List ℕ} → place + length numbers ≤ length old → Stored place numbers old new
    → length new ≡ length old
stored_length {place} {numbers} {old} h p =
    ap length (p.between ∙ sym (sets-eq numbers old place h)) ∙ length-sets old place numbers
