-- The day between its far points, cut at its full slots: one day that holds the full slots of two, the first ones before the second
-- ones, costs as much as both, with a gap in place of two wakes. Assumes nothing.
use Prim.Native.Nat.{ℕ, zero, suc, ◌+◌, ◌-◌, ◌≤◌, ◌<◌}
use mathlib.Core.Path.{◌≡◌, refl, sym, ◌∙◌, ap}
use mathlib.Core.Bool.{Bool, true, false}
use native.Mathlib.Omega.{arith}
use Rattle.day.specs.declared.Day.{Day}
use Rattle.day.specs.Gap.{price}
use Rattle.day.specs.Far.{far_price}
use Rattle.day.specs.Span.{span}
use Rattle.day.proofs.Span.{span_cong, span_empty, span_split}
use Rattle.day.proofs.Far.{from_one, from_one_zero, from_one_suc, far_price_start, far_price_end, far_price_inside}

-- the laws of a span, said of slots

slots_cong : (day : Day) (full other : ℕ → Bool) (s e : ℕ) → s ≤ e → ((t : ℕ) → s ≤ suc t → suc t < e → full t ≡ other t)
    → span (far_price day) (from_one full) s e ≡ span (far_price day) (from_one other) s e
slots_cong day full other s e l same = span_cong (far_price day) (from_one full) (from_one other) s e l point
  where
    point : (x : ℕ) → s ≤ x → x < e → from_one full x ≡ from_one other x
    point zero a b = from_one_zero full ∙ sym (from_one_zero other)
    point (suc t) a b = from_one_suc full t ∙ same t a b ∙ sym (from_one_suc other t)

slots_empty : (day : Day) (full : ℕ → Bool) (s e : ℕ) → s ≤ e → ((t : ℕ) → s ≤ suc t → suc t < e → full t ≡ false)
    → span (far_price day) (from_one full) s e ≡ far_price day s e
slots_empty day full s e l none = span_empty (far_price day) (from_one full) s e l point
  where
    point : (x : ℕ) → s ≤ x → x < e → from_one full x ≡ false
    point zero a b = from_one_zero full
    point (suc t) a b = from_one_suc full t ∙ none t a b

slots_split : (day : Day) (full : ℕ → Bool) (s t e : ℕ) → s ≤ suc t → suc t < e → full t ≡ true
    → span (far_price day) (from_one full) s e
    ≡ span (far_price day) (from_one full) s (suc t) + span (far_price day) (from_one full) (suc (suc t)) e
slots_split day full s t e a b h = span_split (far_price day) (from_one full) s (suc t) e a b (from_one_suc full t ∙ h)

-- a day between its far points

abbrev pub whole : Day → (ℕ → Bool) → ℕ
whole day full = span (far_price day) (from_one full) 0 (day.slots + 2)

module _ (day : Day) (full : ℕ → Bool) where
  -- after the last full slot there is a wake
  whole_until : (l : ℕ) → l < day.slots → full l ≡ true → ((t : ℕ) → l < t → full t ≡ false)
      → whole day full ≡ span (far_price day) (from_one full) 0 (suc l) + day.power.wake
  whole_until l b here none =
      omega (
        arith,
        slots_split day full 0 l (day.slots + 2) (omega arith) (omega arith) here,
        slots_empty day full (suc (suc l)) (day.slots + 2) (omega arith) (λ t a c. none t (omega arith)),
        far_price_end day (suc (suc l)) (day.slots + 2) refl,
      )

  -- before the first full slot there is a wake
  whole_since : (f : ℕ) → f < day.slots → full f ≡ true → ((t : ℕ) → t < f → full t ≡ false)
      → whole day full ≡ day.power.wake + span (far_price day) (from_one full) (suc (suc f)) (day.slots + 2)
  whole_since f b here none =
      omega (
        arith,
        slots_split day full 0 f (day.slots + 2) (omega arith) (omega arith) here,
        slots_empty day full 0 (suc f) (omega arith) (λ t a c. none t (omega arith)),
        far_price_start day (suc f),
      )

  -- between two full slots with none between them lies a gap
  whole_across : (l f : ℕ) → l < f → f < day.slots → full l ≡ true → full f ≡ true
      → ((t : ℕ) → l < t → t < f → full t ≡ false)
      → whole day full
      ≡ span (far_price day) (from_one full) 0 (suc l)
      + price day.power (f - suc l)
      + span (far_price day) (from_one full) (suc (suc f)) (day.slots + 2)
  whole_across l f a b here there none =
      let length : suc f - suc (suc l) ≡ f - suc l = omega arith in
      omega (
        arith,
        slots_split day full 0 l (day.slots + 2) (omega arith) (omega arith) here,
        slots_split day full (suc (suc l)) f (day.slots + 2) (omega arith) (omega arith) there,
        slots_empty day full (suc (suc l)) (suc f) (omega arith) (λ t c d. none t (omega arith) (omega arith)),
        far_price_inside day (suc (suc l)) (suc f) (λ z. omega arith) (λ z. omega arith),
        ap (price day.power) length,
      )

-- full slots as in `first` up to its last, l, and as in `second` from its first, f
pub whole_joined : (day : Day) (full first second : ℕ → Bool) (l f : ℕ) → l < f → f < day.slots → first l ≡ true → second f ≡ true
    → ((t : ℕ) → t < f → (full t ≡ first t) × (second t ≡ false))
    → ((t : ℕ) → l < t → (full t ≡ second t) × (first t ≡ false))
    → whole day full + (day.power.wake + day.power.wake) ≡ whole day first + whole day second + price day.power (f - suc l)
whole_joined day full first second l f order inside here there early late =
    omega (
      arith,
      whole_until day first l (omega arith) here (λ t a. (late t a).1),
      whole_since day second f inside there (λ t a. (early t a).1),
      whole_across day full l f order inside ((early l order).0 ∙ here) ((late f order).0 ∙ there)
          (λ t a b. (early t b).0 ∙ (late t a).1),
      slots_cong day full first 0 (suc l) (omega arith) (λ t a b. (early t (omega arith)).0),
      slots_cong day full second (suc (suc f)) (day.slots + 2) (omega arith) (λ t a b. (late t (omega arith)).0),
    )
