-- The laws of a table's places: they are below what the jobs need, and different spans have different places. Assumes nothing.
use Prim.Native.Nat.{ℕ, ◌+◌, ◌*◌, ◌-◌, ◌≤◌, ◌<◌}
use mathlib.Core.Path.{◌≡◌}
use native.Mathlib.Nat.{mul-le-mul_left, mul-le-mul_right}
use native.Mathlib.Omega.{arith}
use Rattle.day.proofs.Cases.{on_le, give}
use Rattle.engine.specs.Places.{Layout, SpanIn, Fits, band, place, places_for, square_begins}

-- of two numbers of two digits the one with the lower first digit is lower
first_digit : (w a b x y : ℕ) → a < b → x < w → a * w + x < b * w + y
first_digit w a b x y h l = omega (arith, mul-le-mul_right {m = a + 1} {n = b} w (omega arith))

pub digits_same : (w a b x y : ℕ) → x < w → y < w → a * w + x ≡ b * w + y → (a ≡ b) × (x ≡ y)
digits_same w a b x y h l e =
    on_le b a
    (λ p.
    on_le a b
    (λ q. let z : a ≡ b = omega arith in (z, omega (arith, rw z at e)))
    (λ q. absurd (omega (arith, first_digit w b a y x q l))))
    (λ q. absurd (omega (arith, first_digit w a b x y q h)))

module _ {L : Layout} (fits : Fits L) where
  pub place_below : (n k s e : ℕ) → k ≤ n → SpanIn L s e → place L k s e < places_for L n
  unfolding band places_for
  place_below n k s e h v =
      omega (arith, fits.within s e v, mul-le-mul_right {m = k + 1} {n = n + 1} L.level (omega arith))

  pub place_same : (i k a s x e : ℕ) → SpanIn L a x → SpanIn L s e → place L i a x ≡ place L k s e → (i ≡ k) × (a ≡ s) × (x ≡ e)
  unfolding band
  place_same i k a s x e v w q =
      give (digits_same L.level i k (L.begins a + x) (L.begins s + e) (fits.within a x v) (fits.within s e w) (omega arith))
      (λ outer. give (fits.apart a x s e v w outer.1) (λ inner. (outer.0, inner.0, inner.1)))

  -- a band ends below what the jobs need
  pub band_below : (n k s begin : ℕ) → k ≤ n → s < L.points → begin ≡ band L k s → begin + L.points ≤ places_for L n
  band_below n k s begin h l q = omega (arith, place_below n k s (L.points - 1) h (omega arith, omega arith))

-- a level has a place, so that there are at least as many as levels
pub levels_below : {L : Layout} → Fits L → (n : ℕ) → 0 < L.points → n < places_for L n
unfolding places_for
levels_below {L} fits n h =
    omega (arith, fits.within 0 0 (omega arith, h), mul-le-mul_left {m = 1} {n = L.level} (n + 1) (omega (arith, fits.within 0 0 (omega arith, h))))

pub places_more : (L : Layout) (m n : ℕ) → m ≤ n → places_for L m ≤ places_for L n
unfolding places_for
places_more L m n h = mul-le-mul_right {m = m + 1} {n = n + 1} L.level (omega arith)

-- the square layout fits
pub square_fits : (L : Layout) → L.level ≡ L.points * L.points
    → ((s : ℕ) → s < L.points → L.begins s ≡ square_begins L.points s) → Fits L
square_fits L size begins = record {
  within = λ s e v. omega (
    arith,
    size,
    begins s (omega arith),
    mul-le-mul_right {m = s + 1} {n = L.points} L.points (omega arith),
  );
  apart = λ s e a x v w q.
      digits_same L.points s a e x v.1 w.1 (omega (arith, begins s (omega arith), begins a (omega arith)));
}
