-- Two prices compared.
use Rattle.std.specs.Prelude.{◌≤◌, ◌<◌, ◌≡◌}
use Rattle.checks.specs.declared.Answer.{Answer}
use Rattle.checks.specs.Answer.{says, done, neither_proper}
use Rattle.choice.specs.Choice.{own_plan, server_plan}

-- the companion's answer, from the answers of pricing the two plans
pub data Compared (own server a : Answer) : Type 0 where
  keeps_own : own.code ≡ done → (server.code ≡ done → own.first ≤ server.first) → a ≡ says done own_plan 0 → Compared own server a
  takes_server : server.code ≡ done → (own.code ≡ done → server.first < own.first) → a ≡ says done server_plan 0
      → Compared own server a
  neither : (own.code ≡ done → ⊥) → (server.code ≡ done → ⊥) → a ≡ says neither_proper 0 0 → Compared own server a
