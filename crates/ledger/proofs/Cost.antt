-- The cost of a plan from its ledger: the awake slots, and a wake for each sleeping gap. Assumes nothing.
use Prim.Native.Nat.{ℕ, zero, suc, ◌+◌, ◌-◌, ◌*◌}
use mathlib.Core.Path.{◌≡◌, refl, sym, ◌∙◌}
use mathlib.Core.Bool.{true, false, cond}
use mathlib.Core.Logic.{inl, inr, ⊎_elim}
use mathlib.Core.List.{List, [], ◌∷◌}
use native.Mathlib.Omega.{arith}
use native.Mathlib.Numerals.{add-one}
use Rattle.day.specs.declared.Power.{Power}
use Rattle.day.specs.declared.Day.{Day}
use Rattle.day.specs.Plan.{Plan, taken}
use Rattle.day.specs.Gap.{price, asleep, ended, gaps_since, gaps, total, cost}
use Rattle.day.specs.Count.{Count}
use Rattle.checks.specs.steps.FirstOrEnd.{FirstOrEnd}
use Rattle.day.proofs.Cases.{give, on, on_eq}
use Rattle.day.proofs.Count.{count_unique}
use Rattle.checks.proofs.Refusal.{first_or_none}
use Rattle.day.proofs.Gap.{
  price_asleep,
  price_awake,
  total_none,
  total_cons,
  gaps_since_none,
  gaps_since_full,
  gaps_since_empty,
  gaps_same,
  gaps_from_first,
}
use Rattle.claim.specs.Rows.{row_at, holds_job}
use Rattle.claim.proofs.Rows.{row_at_taken, holds_job_true, holds_job_false}
use Rattle.ledger.specs.declared.Counts.{Counts}
use Rattle.ledger.specs.Fills.{Busy}
use Rattle.ledger.specs.Count.{CountedAs, Counted}
use Rattle.ledger.specs.Sleep.{SleepTest, sleeps, paid}
use Rattle.ledger.proofs.Fills.{not_busy}
use Rattle.ledger.proofs.Walked.{Walked, walked_first, walked_empty, walked_job, walked_end}

-- of a gap's slots, those that the machine stays awake
unfoldable awake_slots : SleepTest → ℕ → ℕ
awake_slots test g = g - cond (test g) g 0

-- a run with no slot adds nothing
total_awake_ended : (test : SleepTest) (g : ℕ) (rest : List ℕ)
    → total (awake_slots test) (ended g rest) ≡ awake_slots test g + total (awake_slots test) rest
unfolding ended awake_slots
total_awake_ended test zero rest = omega arith
total_awake_ended test (suc g) rest = total_cons (awake_slots test) (suc g) rest

first_busy : (slots : ℕ) (row : ℕ → ℕ) → (s : ℕ) × FirstOrEnd slots (Busy row) s
first_busy slots row =
    ⊎_elim (λ f. (f.0, record { within = omega (arith, f.1.within); fault = λ h. f.1.fault; lowest = f.1.lowest }))
    (λ none. (slots, record { within = omega arith; fault = λ h. absurd (omega arith); lowest = none }))
    (first_or_none (λ t. on_eq (row t) 0 (λ e. inr (λ b. b e)) (λ b. inl b)) slots)

module _ {test : SleepTest} {slots : ℕ} {row : ℕ → ℕ} where
  -- from any slot of the walk on, the awake slots are those of the gaps still to come
  awake_counted : {first job awake asleep empty : ℕ}
      (m slot : ℕ) → slot + m ≡ slots → Walked test slots row first job awake asleep empty slot
      → Count (CountedAs test slots row 2) slots (awake + total (awake_slots test) (gaps_since (holds_job row) empty slot m))
  unfolding awake_slots
  awake_counted {awake = awake} {empty = empty} zero slot e p =
      let all : awake + total (awake_slots test) (gaps_since (holds_job row) empty slot 0) ≡ awake =
      rw (gaps_since_none (holds_job row) empty slot) (omega (arith, total_none (awake_slots test)))
      in
      rw all (walked_end p (omega arith)).awake
  awake_counted {job = job} {awake = awake} {empty = empty} (suc m) slot e p =
      on_eq (row slot) 0
      (λ here.
      rw (gaps_since_empty (holds_job row) empty slot m (holds_job_false row slot here))
      (awake_counted {awake = awake} {empty = suc empty} m (suc slot) (omega arith)
      (rw (add-one slot) at (walked_empty {empty-after = suc empty} p (omega arith) here (sym (add-one empty))))))
      (λ busy.
      let rest : ℕ = total (awake_slots test) (gaps_since (holds_job row) 0 (suc slot) m) in
      let sum : awake + total (awake_slots test) (gaps_since (holds_job row) empty slot (suc m)) ≡ awake + awake_slots test empty + rest =
      rw (gaps_since_full (holds_job row) empty slot m (holds_job_true row slot busy))
      (omega (arith, total_awake_ended test empty (gaps_since (holds_job row) 0 (suc slot) m)))
      in
      rw sum
      (awake_counted {job = job + 1} {awake = awake + awake_slots test empty} {empty = 0} m (suc slot) (omega arith) (rw (add-one slot) at (walked_job {awake-after = awake + awake_slots test empty} {empty-after = 0} p
      (omega arith) busy refl refl refl refl refl))))

  -- the awake slots are those of the gaps
  awake_of_gaps : {c : Counts} → Counted test slots row c → c.awake ≡ total (awake_slots test) (gaps (holds_job row) 0 slots)
  awake_of_gaps {c} p =
      give (first_busy slots row)
      (λ f.
      rw
      (gaps_from_first (holds_job row) slots f.0 f.1.within
      (λ u h. holds_job_false row u (not_busy row u (f.1.lowest u h)))
      (λ h. holds_job_true row f.0 (f.1.fault h)))
      (count_unique p.awake (awake_counted (slots - f.0) f.0 (omega (arith, f.1.within)) (walked_first f.1)) ∙ omega arith))

sleeps_none : (test : SleepTest) → sleeps test [] ≡ 0
unfolding sleeps
sleeps_none test = refl

sleeps_asleep : (test : SleepTest) (g : ℕ) (gs : List ℕ) → test g ≡ true → sleeps test (g ∷ gs) ≡ 1 + sleeps test gs
unfolding sleeps
sleeps_asleep test g gs e = rw e (omega arith)

sleeps_awake : (test : SleepTest) (g : ℕ) (gs : List ℕ) → test g ≡ false → sleeps test (g ∷ gs) ≡ sleeps test gs
unfolding sleeps
sleeps_awake test g gs e = rw e

-- what is paid: the awake slots, and a wake for each sleep
total_parted : (power : Power) (test : SleepTest) (gs : List ℕ)
    → total (paid power test) gs ≡ total (awake_slots test) gs + power.wake * sleeps test gs
unfolding awake_slots
total_parted power test [] = rw (sleeps_none test) (omega (arith, total_none (paid power test), total_none (awake_slots test)))
total_parted power test (g ∷ gs) =
    on (test g)
    (λ e.
    let dark : awake_slots test g ≡ 0 = rw e (omega arith) in
    let wake : paid power test g ≡ power.wake = rw e in
    rw (sleeps_asleep test g gs e)
    (omega (arith, total_cons (paid power test) g gs, total_cons (awake_slots test) g gs, total_parted power test gs, wake, dark)))
    (λ e.
    let light : awake_slots test g ≡ g = rw e (omega arith) in
    let units : paid power test g ≡ g = rw e in
    rw (sleeps_awake test g gs e)
    (omega (arith, total_cons (paid power test) g gs, total_cons (awake_slots test) g gs, total_parted power test gs, units, light)))

-- doing as the test says costs the price of every gap
abbrev pub PaysPrice : Power → SleepTest → Type 0
PaysPrice power test = (g : ℕ) → price power g ≡ paid power test g

total_paid : (power : Power) (test : SleepTest) → PaysPrice power test → (gs : List ℕ) → total (price power) gs ≡ total (paid power test) gs
total_paid power test pays [] = total_none (price power) ∙ sym (total_none (paid power test))
total_paid power test pays (g ∷ gs) =
    total_cons (price power) g gs ∙ rw (pays g, total_paid power test pays gs) (sym (total_cons (paid power test) g gs))

-- a plan costs what is paid for its gaps
pub cost_paid : (day : Day) (test : SleepTest) (n : ℕ) (start : Plan) → PaysPrice day.power test
    → cost day n start ≡ total (paid day.power test) (gaps (taken n start) 0 day.slots)
unfolding cost
cost_paid day test n start pays = total_paid day.power test pays (gaps (taken n start) 0 day.slots)

-- the ledger's own test pays the price
pub asleep_pays : (power : Power) → PaysPrice power (asleep power)
asleep_pays power g = on (asleep power g) (λ e. price_asleep power g e ∙ rw e) (λ e. price_awake power g e ∙ rw e)

-- cost = awake + L × number of sleeping gaps
pub cost_of_ledger : {test : SleepTest} (day : Day) (n : ℕ) (start : Plan) (c : Counts) → PaysPrice day.power test
    → Counted test day.slots (row_at n start) c
    → cost day n start ≡ c.awake + day.power.wake * sleeps test (gaps (taken n start) 0 day.slots)
cost_of_ledger {test} day n start c pays p =
    let same : gaps (holds_job (row_at n start)) 0 day.slots ≡ gaps (taken n start) 0 day.slots =
    gaps_same (holds_job (row_at n start)) (taken n start) day.slots 0 (λ u h. row_at_taken n start u)
    in
    let awake : c.awake ≡ total (awake_slots test) (gaps (taken n start) 0 day.slots) = rw same at (awake_of_gaps p) in
    cost_paid day test n start pays ∙ total_parted day.power test (gaps (taken n start) 0 day.slots) ∙ rw awake
