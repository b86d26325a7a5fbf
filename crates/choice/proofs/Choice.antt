-- Laws of the choice between two plans. Assumes nothing.
use Prim.Native.Nat.{ℕ, ◌≤◌, ◌<◌}
use mathlib.Core.Path.{◌≡◌, ap}
use mathlib.Core.List.{List}
use native.Mathlib.Omega.{arith}
use Rattle.checks.specs.declared.Answer.{Answer}
use Rattle.day.specs.declared.Day.{Day}
use Rattle.day.specs.Windows.{Windows}
use Rattle.checks.specs.Answer.{says, done}
use Rattle.checks.specs.Refusal.{◌then◌, stops, goes_on}
use Rattle.checks.proofs.Refusal.{IsCheck, refuses_is_check, then_done}
use Rattle.day.proofs.Cases.{give, on_eq}
use Rattle.claim.specs.Claim.{Fit, plan_cost}
use Rattle.choice.specs.Choice.{
  own_plan,
  server_plan,
  Wins,
  own_wins,
  server_wins,
  NamesWinner,
  NeitherCheck,
  Chosen,
}
use Rattle.claim.specs.steps.Starts.{PricedStarts}
use Rattle.choice.specs.steps.Compared.{Compared, keeps_own, takes_server, neither}
use Rattle.claim.proofs.Claim.{priced_fit, priced_unfit}

pub neither_is_check : (w : Windows) (own server : List ℕ) → IsCheck (NeitherCheck w own server)
neither_is_check w own server = refuses_is_check (λ e. omega arith)

-- who wins is fit, so not both are unfit
winner_fit : {day : Day} {w : Windows} {own server : List ℕ} {k : ℕ} → Wins day w own server k →
    (b : Answer) → NeitherCheck w own server b → ⊥
winner_fit (own_wins fit _) b r = r.fault.0 fit
winner_fit (server_wins fit _) b r = r.fault.1 fit

module _ (day : Day) (w : Windows) (own server : List ℕ) where
  named : {k : ℕ} {a : Answer} → Wins day w own server k → a ≡ says done k 0 →
      (NeitherCheck w own server then NamesWinner day w own server) a
  named win e = goes_on (winner_fit win) (record { winner = _; wins = win; says = e })

  -- what holds of a plan's price, where it has one, holds of the plan's cost where it is fit
  priced_holds : (starts : List ℕ) (q : Answer) → PricedStarts day w starts q → (P : ℕ → Type 0)
      → (q.code ≡ done → P q.first) → Fit w starts → P (plan_cost day w starts)
  priced_holds starts q priced P holds fit =
      on_eq q.code done (λ z. rw (priced_fit day w starts q priced z).1 at (holds z))
      (λ z. absurd (priced_unfit day w starts q priced z fit))

  -- comparing the two prices finds the winner
  pub compared_named : (p q a : Answer) → PricedStarts day w own p → PricedStarts day w server q
      → Compared p q a → (NeitherCheck w own server then NamesWinner day w own server) a
  compared_named p q a priced-own priced-server (keeps_own code least e) =
      give (priced_fit day w own p priced-own code)
      (λ f.
      named
      (own_wins f.0 (priced_holds server q priced-server (λ x. plan_cost day w own ≤ x) (λ z. rw f.1 at (least z))))
      e)
  compared_named p q a priced-own priced-server (takes_server code least e) =
      give (priced_fit day w server q priced-server code)
      (λ f.
      named
      (server_wins f.0 (priced_holds own p priced-own (λ x. plan_cost day w server < x) (λ z. rw f.1 at (least z))))
      e)
  compared_named p q a priced-own priced-server (neither bad-own bad-server e) =
      stops
      (record {
        fault = (priced_unfit day w own p priced-own bad-own, priced_unfit day w server q priced-server bad-server);
        says = e;
      })

-- an answer of 0 names the winner
pub chosen_named : {Check : Answer → Type 0} {day : Day} {w : Windows} {own server : List ℕ} → IsCheck Check → (a : Answer)
    → Chosen Check day w own server a → a.code ≡ done → NamesWinner day w own server a
chosen_named {w = w} {own} {server} check a p e = then_done (neither_is_check w own server) a (then_done check a p e) e

-- the plan that an answer of 0 names is fit
pub chosen_fit : {Check : Answer → Type 0} {day : Day} {w : Windows} {own server : List ℕ} → IsCheck Check → (a : Answer)
    → Chosen Check day w own server a → a.code ≡ done → (a.first ≡ own_plan → Fit w own) × (a.first ≡ server_plan → Fit w server)
chosen_fit {day = day} {w} {own} {server} check a p e =
    let named : NamesWinner day w own server a = chosen_named check a p e in
    by named.winner named.wins (ap (λ (x : Answer). x.first) named.says)
  where
    by : (k : ℕ) → Wins day w own server k → a.first ≡ k → (a.first ≡ own_plan → Fit w own) × (a.first ≡ server_plan → Fit w server)
    by _ (own_wins fit _) q = ((λ h. fit), (λ h. omega arith))
    by _ (server_wins fit _) q = ((λ h. omega arith), (λ h. fit))
