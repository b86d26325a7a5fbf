use mathlib.Core.Path.{◌≡◌, ap}
use Prim.Native.Nat.{ℕ}
use Rattle.std.specs.Prelude.{Result, Ok, Err, MatchResult, IsOkAnd}
use Rattle.checks.specs.declared.outcome.Refusal.{Refusal}
use Rattle.checks.specs.Answer.{says, done, answered, answered_by}
use Rattle.choice.specs.declared.Winner.{Winner}
use Rattle.choice.specs.Choice.{plan_number}
use Rattle.chaskuri.proofs.CopyPromises.{list_chosen}
use Rattle.chaskuri.proofs.chaskuri_which.Goals as goal

-- the winner's number is answered
numbered : (r : Result Winner Refusal) (s : Result ℕ Refusal) → MatchResult r (λ w. IsOkAnd s (λ n. n ≡ plan_number w)) (λ e. s ≡ Err e)
    → answered s ≡ answered_by plan_number r
numbered (Ok w) (Ok n) h = ap (λ (n : ℕ). says done n 0) h
numbered (Ok w) (Err e) h = absurd h
numbered (Err e) s h = ap answered h

pub returns : goal.returns
returns c =
    rw (c.from.ensures, numbered c.which-winner.result c.map.result c.map.ensures.cases)
    (list_chosen c.args.jobs.now c.args.day c.args.own.now c.args.server.now _
    (rw (c.releases.ensures, c.deadlines.ensures, c.copy_out-rows.ensures) at c.which-winner.ensures))
