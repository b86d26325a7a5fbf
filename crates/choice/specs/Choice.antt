-- The choice between two claimed plans for one list: the notebook's own and the server's.
use Rattle.std.specs.Prelude.{ℕ, ◌≤◌, ◌<◌, ◌≡◌, List, take}
use Rattle.std.specs.Borrow.{Bor}
use Rattle.checks.specs.declared.Answer.{Answer}
use Rattle.day.specs.declared.Day.{Day}
use Rattle.day.specs.Windows.{Windows}
use Rattle.checks.specs.Answer.{says, done, neither_proper}
use Rattle.checks.specs.Refusal.{◌then◌, Refuses}
use Rattle.checks.specs.Check.{ListCheck}
use Rattle.claim.specs.Claim.{Fit, plan_cost}
use Rattle.choice.specs.declared.Winner.{Winner}
use Rattle.choice.specs.declared.Winner.TheVariants.{Own, Server}

-- the plans as the companion numbers them
abbrev pub own_plan : ℕ
own_plan = 1

abbrev pub server_plan : ℕ
server_plan = 2

-- the number of a plan in an answer
abbrev pub plan_number : Winner → ℕ
plan_number Own = own_plan
plan_number Server = server_plan

-- which plan wins: the cheaper fit one; equal cost goes to the notebook's own
pub data Wins (day : Day) (w : Windows) (own server : List ℕ) : ℕ → Type 0 where
  own_wins : Fit w own → (Fit w server → plan_cost day w own ≤ plan_cost day w server) → Wins day w own server own_plan
  server_wins : Fit w server → (Fit w own → plan_cost day w server < plan_cost day w own) → Wins day w own server server_plan

pub record NamesWinner (day : Day) (w : Windows) (own server : List ℕ) (a : Answer) : Type 0 where
  pub winner : ℕ
  pub wins : Wins day w own server winner
  pub says : a ≡ says done winner 0

-- neither of the two plans is proper
abbrev pub NeitherCheck : Windows → List ℕ → List ℕ → Answer → Type 0
NeitherCheck w own server = Refuses neither_proper ((Fit w own → ⊥) × (Fit w server → ⊥))

-- what the companion answers, for any check of the list
abbrev pub Chosen : (Answer → Type 0) → Day → Windows → List ℕ → List ℕ → Answer → Type 0
Chosen Check day w own server = Check then NeitherCheck w own server then NamesWinner day w own server

-- what `which` promises: codes 1 to 4 for the list
abbrev pub ChoicePromise : Day → Windows → List ℕ → List ℕ → Answer → Type 0
ChoicePromise day w = Chosen (ListCheck day w) day w

-- a part that begins where a lent plan begins and holds its first n starts
pub record StartOf (plan : Bor (List ℕ)) (n : ℕ) (part : Bor (List ℕ)) : Type 0 where
  pub begins : part.ref_ptr ≡ plan.ref_ptr
  pub holds : part.now ≡ take n plan.now

-- the part handed back with an answer of the companion: of n starts of the winner, or the empty start of the first plan
pub data PartFor (n : ℕ) (own server part : Bor (List ℕ)) (a : Answer) : Type 0 where
  refused : (a.code ≡ done → ⊥) → StartOf own 0 part → PartFor n own server part a
  of_own : a ≡ says done own_plan 0 → StartOf own n part → PartFor n own server part a
  of_server : a ≡ says done server_plan 0 → StartOf server n part → PartFor n own server part a

-- what the choice hands back: the part for what the companion answers
pub record HandedBack (Check : Answer → Type 0) (day : Day) (w : Windows) (own server part : Bor (List ℕ)) : Type 0 where
  pub answer : Answer
  pub chosen : Chosen Check day w own.now server.now answer
  pub handed : PartFor w.count own server part answer

-- what `choose` promises
abbrev pub PartPromise : Day → Windows → Bor (List ℕ) → Bor (List ℕ) → Bor (List ℕ) → Type 0
PartPromise day w = HandedBack (ListCheck day w) day w

-- two parts that begin at the same place and hold the same starts
pub record SamePart (part other : Bor (List ℕ)) : Type 0 where
  pub begins : part.ref_ptr ≡ other.ref_ptr
  pub holds : part.now ≡ other.now
