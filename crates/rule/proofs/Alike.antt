-- Two jobs of two problems that are alike: with them the values are the same, and so are the splits. Assumes nothing.
use Prim.Native.Nat.{ℕ, suc, ◌≤◌, ◌<◌}
use mathlib.Core.Path.{◌≡◌, refl, sym, ap, ◌∙◌}
use mathlib.Core.Bool.{true}
use native.Mathlib.Omega.{arith}
use Rattle.day.proofs.Cases.{on, bool_ext}
use Rattle.rule.specs.Extreme.{least}
use Rattle.rule.specs.Span.{Problem, may_split, value, sides, best_split, split}
use Rattle.rule.specs.SpanPlan.{In}
use Rattle.rule.proofs.Extreme.{least_cong, latest_cong}
use Rattle.rule.proofs.Value.{on_in_span, MaySplit, may_split_true, may_split_intro, value_in, value_out, sides_is, best_split_is, split_is}

-- job k of P is job j of Q, over the same values below them, as far as the points go
pub record Alike (points : ℕ) (P : Problem) (k : ℕ) (Q : Problem) (j : ℕ) : Type 0 where
  pub none : P.none ≡ Q.none
  pub release : P.release k ≡ Q.release j
  pub may : (t : ℕ) → t < points → MaySplit P k t → MaySplit Q j t
  pub may_too : (t : ℕ) → t < points → MaySplit Q j t → MaySplit P k t
  pub values : (s e : ℕ) → s ≤ e → e < points → value P k s e ≡ value Q j s e

module _ {points : ℕ} {P : Problem} {k : ℕ} {Q : Problem} {j : ℕ} (A : Alike points P k Q j) (s e : ℕ) (end : e < points) where
  splits_alike : (t : ℕ) → t < e → may_split P k t ≡ may_split Q j t
  splits_alike t h =
      bool_ext (may_split P k t) (may_split Q j t)
      (λ m. may_split_intro Q j t (A.may t (omega arith) (may_split_true P k t m)))
      (λ m. may_split_intro P k t (A.may_too t (omega arith) (may_split_true Q j t m)))

  sides_alike : In P s e k → (t : ℕ) → t < e → may_split P k t ≡ true → sides P k s e t ≡ sides Q j s e t
  sides_alike inside t h m =
      omega (
        arith,
        (may_split_true P k t m).low,
        sides_is P k s e t,
        sides_is Q j s e t,
        A.values s t (omega (arith, (may_split_true P k t m).low)) (omega arith),
        A.values (suc t) e h end,
      )

  least_alike : In P s e k → least (may_split P k) (sides P k s e) P.none e ≡ least (may_split Q j) (sides Q j s e) Q.none e
  least_alike inside =
      least_cong (may_split P k) (may_split Q j) (sides P k s e) (sides Q j s e) P.none e splits_alike (sides_alike inside)
      ∙ ap (λ none. least (may_split Q j) (sides Q j s e) none e) A.none

  -- so is its value with it
  pub value_alike : s ≤ e → value P (suc k) s e ≡ value Q (suc j) s e
  value_alike h =
      on_in_span P s e k
      (λ inside. value_in P k s e inside ∙ least_alike inside ∙ sym (value_in Q j s e (rw A.release at inside)))
      (λ out. value_out P k s e out ∙ A.values s e h end ∙ sym (value_out Q j s e (λ inside. out (rw A.release inside))))

  -- and where it splits
  pub split_alike : In P s e k → split P k s e ≡ split Q j s e
  split_alike inside =
      split_is P k s e
      ∙ latest_cong (best_split P k s e) (best_split Q j s e) e
      (λ t h.
      best_split_is P k s e t
      ∙ on (may_split P k t)
      (λ m. rw (sides_alike inside t h m, value_alike (omega arith), splits_alike t h) refl)
      (λ m. rw (← splits_alike t h, m) refl)
      ∙ sym (best_split_is Q j s e t))
      ∙ sym (split_is Q j s e)
