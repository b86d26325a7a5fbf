-- The wrong programs of document 01, written out: each checks as promised, and then goes wrong. Assumes nothing.
use Prim.Native.Nat.{ℕ, zero, suc, ◌≤◌, ◌<◌}
use mathlib.Core.Path.{◌≡◌, refl, sym, ◌∙◌, ap}
use mathlib.Core.Bool.{cond}
use mathlib.Core.List.{List}
use mathlib.Core.Logic.{inl, inr}
use native.Mathlib.Omega.{arith}
use lib.Dec.{eqb}
use lib.ListN.{length, set, length-set}
use lib.Seq.{get_or-set_same, get_or-set_other}
use borrow.Author.Tests.{ne_eqb}
use Rattle.checks.specs.declared.Answer.{Answer}
use Rattle.day.specs.declared.Day.{Day}
use Rattle.day.specs.Windows.{Windows, windows, at}
use Rattle.day.specs.Plan.{Plan}
use Rattle.checks.specs.Answer.{says, done, no_plan}
use Rattle.checks.specs.Check.{ListCheck}
use Rattle.day.proofs.Cases.{on_eq}
use Rattle.checks.proofs.Check.{list_is_check}
use Rattle.checks.proofs.Decided.{Decided, list_decided}
use Rattle.planner.specs.Promise.{PlanCheck}
use Rattle.planner.proofs.Promise.{plan_is_check, plan_decided}
use Rattle.claim.specs.Claim.{ClaimCheck}
use Rattle.claim.proofs.Claim.{claim_is_check, claim_decided}
use Rattle.ledger.specs.declared.LedgerAnswer.{LedgerAnswer}
use Rattle.ledger.specs.Promise.{no_counts}
use Rattle.demands.specs.Run.{Admitted}
use Rattle.demands.specs.Impostors.{
  Input,
  Outcome,
  Planner,
  run_of,
  Checks,
  Does,
  Seven,
  Fixed,
  Writeless,
  Invented,
  Ledger,
  Planless,
}
use Rattle.demands.proofs.BestPlan.{admitted_clear}

abbrev CheckOf : Input → Answer → Type 0
CheckOf input = PlanCheck input.day (windows input.releases input.deadlines) input.starts input.table

decided : (input : Input) → Decided (CheckOf input)
decided input = plan_decided input.day (windows input.releases input.deadlines) input.starts input.table

-- where the checks refuse nothing, what the wrong planner makes of it
checked_by : (input : Input) → Outcome → Decided (CheckOf input) → Outcome
checked_by input wrong (inl refusal) = (refusal.0, input.starts, input.table)
checked_by input wrong (inr clear) = wrong

checked : Planner → Planner
checked wrong input = checked_by input (wrong input) (decided input)

checks : (wrong : Planner) → Checks (checked wrong)
unfolding checked checked_by
checks wrong input b refused = by (decided input)
  where
    by : (d : Decided (CheckOf input)) → checked_by input (wrong input) d ≡ (b, input.starts, input.table)
    by (inl refusal) =
        ap (λ (a : Answer). (a, input.starts, input.table))
        ((plan_is_check input.day (windows input.releases input.deadlines) input.starts input.table).one refusal.0 b
        refusal.1 refused)
    by (inr clear) = absurd (clear b refused)

goes_wrong : (wrong : Planner) (input : Input) → Admitted (run_of (checked wrong) input) → checked wrong input ≡ wrong input
unfolding checked checked_by
goes_wrong wrong input admitted = by (decided input)
  where
    by : (d : Decided (CheckOf input)) → checked_by input (wrong input) d ≡ wrong input
    by (inl refusal) = absurd (admitted_clear (run_of (checked wrong) input) admitted refusal.0 refusal.1)
    by (inr clear) = refl

-- a list with the first n places filled
laid : Plan → ℕ → List ℕ → List ℕ
laid plan zero starts = starts
laid plan (suc n) starts = set (laid plan n starts) n (plan n)

length_laid : (plan : Plan) (n : ℕ) (starts : List ℕ) → length (laid plan n starts) ≡ length starts
unfolding laid
length_laid plan zero starts = refl
length_laid plan (suc n) starts = length-set (laid plan n starts) n (plan n) ∙ length_laid plan n starts

at_laid : (plan : Plan) (n : ℕ) (starts : List ℕ) → n ≤ length starts → (i : ℕ) → i < n → at (laid plan n starts) i ≡ plan i
unfolding laid
at_laid plan zero starts room i l = absurd (omega arith)
at_laid plan (suc n) starts room i l =
    on_eq i n (λ e. rw e (get_or-set_same (laid plan n starts) n (plan n) 0 (omega (arith, length_laid plan n starts))))
    (λ e. get_or-set_other (laid plan n starts) n i (plan n) 0 e ∙ at_laid plan n starts (omega arith) i (omega arith))

-- it says that its plan costs nothing
lays : (Input → Plan) → Planner
lays plan input = (says done 0 0, laid (plan input) (length input.releases) input.starts, input.table)

lays_plan : (plan : Input → Plan) (input : Input) → Admitted (run_of (checked (lays plan)) input) → (i : ℕ) → i < length input.releases
    → at (checked (lays plan) input).1 i ≡ plan input i
unfolding lays
lays_plan plan input admitted i l =
    rw (goes_wrong (lays plan) input admitted) (at_laid (plan input) (length input.releases) input.starts admitted.room i l)

pub always_seven : (planner : Planner) × Checks planner × Does Seven planner
always_seven = (
  checked (λ input. (says no_plan 0 0, input.starts, input.table)),
  checks _,
  λ input admitted. ap (λ (o : Outcome). o.0.code) (goes_wrong _ input admitted),
)

pub fixed_plan : (plan : Plan) → (planner : Planner) × Checks planner × Does (Fixed plan) planner
fixed_plan plan = (checked (lays (λ input. plan)), checks _, λ input admitted code i l. lays_plan (λ input. plan) input admitted i l)

pub no_starts : (planner : Planner) × Checks planner × Does Writeless planner
no_starts = (
  checked (λ input. (says done 0 0, input.starts, input.table)),
  checks _,
  λ input admitted. ap (λ (o : Outcome). o.1) (goes_wrong _ input admitted),
)

-- the first row in the first slot of its window
first_then : (ℕ → ℕ → ℕ) → Input → Plan
first_then invent input i = cond (eqb i 0) (at input.releases 0) (invent i (at input.releases 0))

pub first_placed : (invent : ℕ → ℕ → ℕ) → (planner : Planner) × Checks planner × Does (Invented invent) planner
unfolding first_then
first_placed invent = (
  checked (lays (first_then invent)),
  checks _,
  λ input admitted code i some l.
      lays_plan (first_then invent) input admitted i l
      ∙ rw (ne_eqb i 0 (λ e. omega arith))
      (ap (invent i) (sym (lays_plan (first_then invent) input admitted 0 (omega arith)))),
)

-- the ledger that takes its counts from nowhere

-- all slots before the first job, whatever the plan
planless_by : (day : Day) (w : Windows) (starts : List ℕ) → Decided (ClaimCheck (ListCheck day w) w starts) → LedgerAnswer
planless_by day w starts (inl refusal) = record { answer = refusal.0; counts = no_counts }
planless_by day w starts (inr clear) =
    record { answer = says done 0 0; counts = record { before = day.slots; job = 0; awake = 0; asleep = 0; after = 0 } }

planless : Ledger
planless day w starts = planless_by day w starts (claim_decided (list_decided day w) w starts)

accepted_counts : (day : Day) (w : Windows) (starts : List ℕ) → (planless day w starts).answer.code ≡ done
    → (planless day w starts).counts ≡ record { before = day.slots; job = 0; awake = 0; asleep = 0; after = 0 }
unfolding planless planless_by
accepted_counts day w starts = by (claim_decided (list_decided day w) w starts)
  where
    by : (d : Decided (ClaimCheck (ListCheck day w) w starts)) → (planless_by day w starts d).answer.code ≡ done
        → (planless_by day w starts d).counts ≡ record { before = day.slots; job = 0; awake = 0; asleep = 0; after = 0 }
    by (inl refusal) code = absurd ((claim_is_check list_is_check w starts).not_done refusal.0 refusal.1 code)
    by (inr clear) code = refl

refused_counts : (day : Day) (w : Windows) (starts : List ℕ) (b : Answer) → ClaimCheck (ListCheck day w) w starts b
    → planless day w starts ≡ record { answer = b; counts = no_counts }
unfolding planless planless_by
refused_counts day w starts b refused = by (claim_decided (list_decided day w) w starts)
  where
    by : (d : Decided (ClaimCheck (ListCheck day w) w starts)) → planless_by day w starts d ≡ record { answer = b; counts = no_counts }
    by (inl refusal) =
        ap (λ (a : Answer). record { answer = a; counts = no_counts })
        ((claim_is_check list_is_check w starts).one refusal.0 b refusal.1 refused)
    by (inr clear) = absurd (clear b refused)

pub counts_without_plan : (ledger : Ledger) × Planless ledger
    × ((day : Day) (w : Windows) (starts : List ℕ) (b : Answer) → ClaimCheck (ListCheck day w) w starts b
    → ledger day w starts ≡ record { answer = b; counts = no_counts })
counts_without_plan = (
  planless,
  λ day w starts other one two. accepted_counts day w starts one ∙ sym (accepted_counts day w other two),
  refused_counts,
)
