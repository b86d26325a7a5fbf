-- Laws of refusals as answers: none is `done`, so a check's outcome tells whether it refused. Assumes nothing.
use Rattle.std.proofs.Common.{refl, sym, ◌∙◌, ap, arith, ℕ, ◌-◌, ◌≡◌, List, [], ◌∷◌, slice_index_or, Result, Ok, Err}
use Rattle.std.specs.Result.{IsErrAnd}
use Rattle.std.proofs.lemmas.Result.{err_from_is_err_and}
use Rattle.checks.specs.declared.Answer.{Answer}
use Rattle.checks.specs.declared.outcome.Refusal.{Refusal}
use Rattle.checks.specs.declared.outcome.Refusal.TheVariants.{BadSlots, BadWake, TooManyJobs, BadRow, FewStarts, ShortTable, NoPlan, ShortFile, WrongMark, WrongDistance, CutFile, FewRows, NoRoom, OutsideWindow, SameStart, NeitherProper, LongInput, LeavesDay, NoSuchSlot, DayOver, PlanExists}
use Rattle.checks.specs.Answer.{says, done, refused}
use Rattle.checks.specs.Refusal.{◌then◌, Passed}
use Rattle.checks.proofs.Refusal.{IsCheck, code_of, then_refused, then_passed}

-- no refusal has the number of what is done
pub refused_not_done : (r : Refusal) → (refused r).code ≡ done → ⊥
refused_not_done BadSlots e = omega arith
refused_not_done BadWake e = omega arith
refused_not_done TooManyJobs e = omega arith
refused_not_done (BadRow row) e = omega arith
refused_not_done FewStarts e = omega arith
refused_not_done ShortTable e = omega arith
refused_not_done NoPlan e = omega arith
refused_not_done ShortFile e = omega arith
refused_not_done WrongMark e = omega arith
refused_not_done WrongDistance e = omega arith
refused_not_done CutFile e = omega arith
refused_not_done FewRows e = omega arith
refused_not_done NoRoom e = omega arith
refused_not_done (OutsideWindow row) e = omega arith
refused_not_done (SameStart row partner) e = omega arith
refused_not_done NeitherProper e = omega arith
refused_not_done LongInput e = omega arith
refused_not_done (LeavesDay row) e = omega arith
refused_not_done NoSuchSlot e = omega arith
refused_not_done DayOver e = omega arith
refused_not_done PlanExists e = omega arith

-- what a check refuses, the whole refuses
pub then_err : {Check Next : Answer → Type 0} (r : Refusal) → (Check then Passed) (refused r) → (Check then Next) (refused r)
then_err r p = then_refused (refused r) p (refused_not_done r)

-- after a check that passed, what comes next answers
pub then_ok : {Check Next : Answer → Type 0} → IsCheck Check → {first : ℕ} → (Check then Passed) (says done first 0) → (b : Answer) → Next b
    → (Check then Next) b
then_ok is_check {first} p b = then_passed is_check (says done first 0) b p refl

-- what `?` gives back is the refusal that it met
pub given_back : {A : Type 0} (r : Result A Refusal) {e : Refusal} → IsErrAnd r (λ x. x ≡ e) → r ≡ Err e
given_back r h = let found = err_from_is_err_and r h in found.1 ∙ ap Err found.2

-- the refusals in the order of their numbers, with the rows that they name
abbrev refusals : ℕ → ℕ → List Refusal
refusals first second =
    BadSlots ∷ BadWake ∷ TooManyJobs ∷ BadRow first ∷ FewStarts ∷ ShortTable ∷ NoPlan ∷ ShortFile ∷ WrongMark ∷ WrongDistance ∷ CutFile ∷ FewRows ∷ NoRoom ∷ OutsideWindow first ∷ SameStart first second ∷ NeitherProper ∷ LongInput ∷ LeavesDay first ∷ NoSuchSlot ∷ DayOver ∷ PlanExists ∷ []

-- the refusal that an answer tells
abbrev refusal_told : Answer → Refusal
refusal_told a = slice_index_or (refusals a.first a.second) (a.code - 1) PlanExists

told_back : (r : Refusal) → refusal_told (refused r) ≡ r
told_back BadSlots = refl
told_back BadWake = refl
told_back TooManyJobs = refl
told_back (BadRow row) = refl
told_back FewStarts = refl
told_back ShortTable = refl
told_back NoPlan = refl
told_back ShortFile = refl
told_back WrongMark = refl
told_back WrongDistance = refl
told_back CutFile = refl
told_back FewRows = refl
told_back NoRoom = refl
told_back (OutsideWindow row) = refl
told_back (SameStart row partner) = refl
told_back NeitherProper = refl
told_back LongInput = refl
told_back (LeavesDay row) = refl
told_back NoSuchSlot = refl
told_back DayOver = refl
told_back PlanExists = refl

-- a refusal is known from its answer
pub refused_unique : (a b : Refusal) → refused a ≡ refused b → a ≡ b
refused_unique a b e = sym (told_back a) ∙ ap refusal_told e ∙ told_back b

-- an outcome is known from what says it, where that has its answer and its value
pub outcome_unique : {A B : Type 0} (says : Result A Refusal → B) (answer : B → Answer) (value : B → A)
    → ((x : A) → (answer (says (Ok x))).code ≡ done)
    → ((x : A) → value (says (Ok x)) ≡ x)
    → ((r : Refusal) → answer (says (Err r)) ≡ refused r)
    → (a b : Result A Refusal)
    → says a ≡ says b
    → a ≡ b
outcome_unique says answer value is_done is_value is_refused (Ok x) (Ok y) e = ap Ok (sym (is_value x) ∙ ap value e ∙ is_value y)
outcome_unique says answer value is_done is_value is_refused (Ok x) (Err r) e =
    absurd (refused_not_done r (code_of (sym (is_refused r) ∙ sym (ap answer e)) ∙ is_done x))
outcome_unique says answer value is_done is_value is_refused (Err r) (Ok x) e =
    absurd (refused_not_done r (code_of (sym (is_refused r) ∙ ap answer e) ∙ is_done x))
outcome_unique says answer value is_done is_value is_refused (Err r) (Err t) e =
    ap Err (refused_unique r t (sym (is_refused r) ∙ ap answer e ∙ is_refused t))
