-- Where exactly a moved window leaves the day, at either end, in numbers without a sign; the smallest shift, a shift of 0, and an
-- empty list. Assumes nothing.
use Prim.Native.Nat.{ℕ, ◌+◌, ◌<◌, ◌≤◌}
use mathlib.Core.Path.{◌≡◌, refl, ap}
use mathlib.Core.Logic.{inl, inr, ⊎_elim}
use mathlib.Core.List.{List, []}
use native.Mathlib.Nat.{add-zero}
use native.Mathlib.Omega.{arith}
use lib.ListN.{length}
use lib.IntN.{ℤ, pos, negsuc}
use Rattle.std.proofs.lemmas.Int.{ints}
use Rattle.checks.specs.declared.Answer.{Answer}
use Rattle.day.specs.Windows.{at}
use Rattle.checks.specs.Answer.{says, done, leaves_day}
use Rattle.checks.specs.Refusal.{goes_on}
use Rattle.checks.proofs.Refusal.{Avoids, passed_avoids, then_avoids, IsCheck, then_clear}
use Rattle.moving.specs.Moving.{WindowLeaves, MovedList}
use Rattle.moving.proofs.Unique.{moved_list_unique}

-- n + 1 slots earlier, a release of at most n is before slot 0
pub too_early : (slots n release deadline : ℕ) → release ≤ n → WindowLeaves slots (negsuc n) release deadline
too_early slots n release deadline h = inl (omega (arith, ints))

pub early_stays : (slots n release deadline : ℕ) → n < release → release < deadline → deadline ≤ slots
    → WindowLeaves slots (negsuc n) release deadline → ⊥
early_stays slots n release deadline h l u =
    ⊎_elim (λ z. omega (arith, ints)) (λ z. omega (arith, ints))

-- n slots later, a deadline ends after the day exactly if the sum does
pub too_late : (slots n release deadline : ℕ) → slots < deadline + n → WindowLeaves slots (pos n) release deadline
too_late slots n release deadline h = inr (omega (arith, ints))

pub late_stays : (slots n release deadline : ℕ) → deadline + n ≤ slots → WindowLeaves slots (pos n) release deadline → ⊥
late_stays slots n release deadline h =
    ⊎_elim (λ z. omega (arith, ints)) (λ z. omega (arith, ints))

-- -32,768 slots: no release of a day comes to lie in it
pub smallest_leaves : (slots release deadline : ℕ) → release < 32768 → WindowLeaves slots (negsuc 32767) release deadline
smallest_leaves slots release deadline h = too_early slots 32767 release deadline (omega arith)

-- 18 names a row, so that an empty list never gets it
pub empty_list_stays : {Check : Answer → Type 0} {slots : ℕ} {by : ℤ} {deadlines rs ds : List ℕ} {a : Answer} → Avoids leaves_day Check
    → MovedList Check slots by [] deadlines a rs ds → a.code ≡ leaves_day → ⊥
empty_list_stays {a = a} check p =
    then_avoids (then_avoids check (λ b r e. omega (arith, r.first.within))) (passed_avoids (λ e. omega arith)) a p.answer

pub zero_shift_keeps : {Check : Answer → Type 0} {slots : ℕ} {releases deadlines rs ds : List ℕ} {a : Answer} → IsCheck Check
    → ((b : Answer) → Check b → ⊥) → ((i : ℕ) → i < length releases → at deadlines i ≤ slots)
    → MovedList Check slots (pos 0) releases deadlines a rs ds → (a ≡ says done 0 0) × (rs ≡ releases) × (ds ≡ deadlines)
zero_shift_keeps {slots = slots} {releases} {deadlines} check clear in_day p =
    moved_list_unique check p
    (record {
      answer =
          goes_on
          (then_clear clear
          (λ b r.
          late_stays slots 0 (at releases r.row) (at deadlines r.row) (omega (arith, in_day r.row r.first.within))
          r.first.fault))
          refl;
      accepted = λ e.
          record {
            moved_releases = record { long = refl; inside = λ i h. ap pos (add-zero (at releases i)); outside = λ i h. refl };
            moved_deadlines = record { long = refl; inside = λ i h. ap pos (add-zero (at deadlines i)); outside = λ i h. refl };
          };
      refused = λ h. absurd (h refl);
    })
