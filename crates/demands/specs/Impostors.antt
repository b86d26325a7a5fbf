-- Wrong programs that document 01 names, four planners and a ledger: none of them keeps its promise. Each is
-- described by what it does where the checks have nothing to refuse, and each exists, with checks as promised.
use Rattle.std.specs.Prelude.{ℕ, ◌<◌, ◌≡◌, List}
use Rattle.checks.specs.declared.Answer.{Answer}
use Rattle.day.specs.declared.Day.{Day}
use Rattle.day.specs.Windows.{Windows, windows, at}
use Rattle.day.specs.Plan.{Plan}
use Rattle.checks.specs.Answer.{done, no_plan}
use Rattle.checks.specs.Check.{ListCheck}
use Rattle.claim.specs.Claim.{ClaimCheck}
use Rattle.planner.specs.Promise.{PlanCheck}
use Rattle.ledger.specs.declared.LedgerAnswer.{LedgerAnswer}
use Rattle.ledger.specs.Promise.{no_counts, LedgerPromise}
use Rattle.demands.specs.Run.{Run, list, Promised, Admitted}

-- what goes into a planner
pub record Input : Type 0 where
  pub day : Day
  pub releases : List ℕ
  pub deadlines : List ℕ
  pub starts : List ℕ
  pub table : List ℕ

-- what comes out: the answer, and starts and table afterwards
abbrev pub Outcome : Type 0
Outcome = Answer × List ℕ × List ℕ

abbrev pub Planner : Type 0
Planner = Input → Outcome

abbrev pub run_of : Planner → Input → Run
run_of planner input =
    record {
      day = input.day;
      releases = input.releases;
      deadlines = input.deadlines;
      starts = input.starts;
      table = input.table;
      answer = (planner input).0;
      starts_after = (planner input).1;
      table_after = (planner input).2;
    }

abbrev pub KeepsPromise : Planner → Type 0
KeepsPromise planner = (input : Input) → Promised (run_of planner input)

-- what the checks refuse it refuses as promised
abbrev pub Checks : Planner → Type 0
Checks planner =
    (input : Input) (b : Answer) → PlanCheck input.day (windows input.releases input.deadlines) input.starts input.table b
    → planner input ≡ (b, input.starts, input.table)

-- with what the checks take it does what Wrong says
abbrev pub Does : (Run → Type 0) → Planner → Type 0
Does Wrong planner = (input : Input) → Admitted (run_of planner input) → Wrong (run_of planner input)

-- it answers 7 always
abbrev pub Seven : Run → Type 0
Seven run = run.answer.code ≡ no_plan

-- it has a fixed plan
abbrev pub Fixed : Plan → Run → Type 0
Fixed plan run = run.answer.code ≡ done → (i : ℕ) → i < (list run).count → at run.starts_after i ≡ plan i

-- it writes no starts
abbrev pub Writeless : Run → Type 0
Writeless run = run.starts_after ≡ run.starts

-- it places the first job and invents the rest: a row's start is made up from the first row's
abbrev pub Invented : (ℕ → ℕ → ℕ) → Run → Type 0
Invented invent run =
    run.answer.code ≡ done → (i : ℕ) → 0 < i → i < (list run).count
    → at run.starts_after i ≡ invent i (at run.starts_after 0)

-- no planner that does so keeps its promise, and there is one that does so
pub record RuledOut (Wrong : Run → Type 0) : Type 0 where
  pub breaks : (planner : Planner) → Does Wrong planner → KeepsPromise planner → ⊥
  pub exists : (planner : Planner) × Checks planner × Does Wrong planner

-- a ledger answers every day, list and plan
abbrev pub Ledger : Type 0
Ledger = Day → Windows → List ℕ → LedgerAnswer

-- its counts are not taken from the plan: any two plans of a list that it accepts have the same
abbrev pub Planless : Ledger → Type 0
Planless ledger =
    (day : Day) (w : Windows) (starts other : List ℕ) → (ledger day w starts).answer.code ≡ done
    → (ledger day w other).answer.code ≡ done
    → (ledger day w starts).counts ≡ (ledger day w other).counts

-- as for the planners
pub record PlanlessRuledOut : Type 0 where
  pub breaks : (ledger : Ledger) → Planless ledger → ((day : Day) (w : Windows) (starts : List ℕ) → LedgerPromise day w starts (ledger day w starts))
      → ⊥
  pub exists : (ledger : Ledger) × Planless ledger
      × ((day : Day) (w : Windows) (starts : List ℕ) (b : Answer) → ClaimCheck (ListCheck day w) w starts b
      → ledger day w starts ≡ record { answer = b; counts = no_counts })

pub record NoImpostor : Type 0 where
  pub seven : RuledOut Seven
  pub fixed : (plan : Plan) → RuledOut (Fixed plan)
  pub writeless : RuledOut Writeless
  pub invented : (invent : ℕ → ℕ → ℕ) → RuledOut (Invented invent)
  pub planless : PlanlessRuledOut
