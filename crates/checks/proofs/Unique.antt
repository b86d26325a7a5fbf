-- Two outcomes that keep what any planner promises are equal. Assumes nothing.
use Prim.Native.Nat.{ℕ}
use mathlib.Core.Path.{◌≡◌, sym, ap, ◌∙◌}
use mathlib.Core.List.{List}
use mathlib.Core.Logic.{inl, inr}
use Rattle.day.specs.declared.Day.{Day}
use Rattle.day.specs.Windows.{Windows}
use Rattle.day.proofs.Cases.{on_eq}
use Rattle.day.proofs.Best.{best_costs, best_unique}
use Rattle.day.proofs.Changed.{changed_as, filled_unique}
use Rattle.checks.specs.declared.Answer.{Answer}
use Rattle.checks.specs.Answer.{says, done, no_plan}
use Rattle.checks.specs.Planned.{Verdict, costs, none_proper, BestIn, Planned}
use Rattle.checks.proofs.Refusal.{IsCheck, then_unique}

pub verdict_unique : (day : Day) (w : Windows) (a b : Answer) → Verdict day w a → Verdict day w b → a ≡ b
verdict_unique day w a b (costs p P e) (costs q Q f) = e ∙ ap (λ (c : ℕ). says done c 0) (best_costs day w p q P Q) ∙ sym f
verdict_unique day w a b (costs p P e) (none_proper n f) = absurd (n p P.proper)
verdict_unique day w a b (none_proper n e) (costs q Q f) = absurd (n q Q.proper)
verdict_unique day w a b (none_proper n e) (none_proper m f) = e ∙ sym f

best_in_unique : {day : Day} {w : Windows} {starts p q : List ℕ} → BestIn day w starts p → BestIn day w starts q → p ≡ q
best_in_unique {day} {w} P Q =
    filled_unique (λ i y z e f. e ∙ sym f) P.filled
    (changed_as (λ i l. l) (λ i l. l) (λ i y l e. e ∙ best_unique day w Q.plan P.plan Q.best P.best i l) Q.filled)

module _ (Check : Answer → Type 0) (need : ℕ) (day : Day) (w : Windows) (starts table : List ℕ) where
  pub planned_unique : IsCheck Check → (a b : Answer) (p t q u : List ℕ) → Planned Check need day w starts table a p t
      → Planned Check need day w starts table b q u → (a ≡ b) × (p ≡ q) × (t ≡ u)
  planned_unique check a b p t q u A B =
      let same : a ≡ b = then_unique check (verdict_unique day w) a b A.answer B.answer in
      let C : Planned Check need day w starts table a q u = rw same B in (
        same,
        on_eq a.code done (λ d. best_in_unique (A.planned d) (C.planned d))
            (λ d. A.unplanned d ∙ sym (C.unplanned d)),
        on_eq a.code done (λ d. A.cleared (inl d) ∙ sym (C.cleared (inl d)))
            (λ d. on_eq a.code no_plan (λ n. A.cleared (inr n) ∙ sym (C.cleared (inr n)))
            (λ n. A.kept d n ∙ sym (C.kept d n))),
      )
