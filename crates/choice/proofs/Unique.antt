-- Two outcomes that keep a promise of this crate are equal, and so the two functions of the choice agree. Assumes nothing.
use Prim.Native.Nat.{ℕ}
use mathlib.Core.Path.{◌≡◌, refl, sym, ◌∙◌, ap}
use mathlib.Core.List.{List}
use native.Mathlib.Omega.{arith}
use denote.Ref.{Bor}
use Rattle.checks.specs.declared.Answer.{Answer}
use Rattle.day.specs.declared.Day.{Day}
use Rattle.day.specs.Windows.{Windows}
use Rattle.checks.specs.Answer.{says, done}
use Rattle.checks.proofs.Refusal.{IsCheck, code_of, then_unique}
use Rattle.choice.specs.Choice.{
  Wins,
  own_wins,
  server_wins,
  Chosen,
  StartOf,
  SamePart,
  PartFor,
  refused,
  of_own,
  of_server,
  HandedBack,
}
use Rattle.choice.proofs.Choice.{neither_is_check}

wins_unique : {day : Day} {w : Windows} {own server : List ℕ} {k l : ℕ} → Wins day w own server k → Wins day w own server l → k ≡ l
wins_unique (own_wins f g) (own_wins h i) = refl
wins_unique (own_wins f g) (server_wins h i) = absurd (omega (arith, g h, i f))
wins_unique (server_wins f g) (own_wins h i) = absurd (omega (arith, g h, i f))
wins_unique (server_wins f g) (server_wins h i) = refl

module _ {Check : Answer → Type 0} (check : IsCheck Check) (day : Day) (w : Windows) where
  pub chosen_unique : (own server : List ℕ) (a b : Answer) → Chosen Check day w own server a → Chosen Check day w own server b → a ≡ b
  chosen_unique own server =
      then_unique check
      (then_unique (neither_is_check w own server)
      (λ a b p q. p.says ∙ ap (λ (k : ℕ). says done k 0) (wins_unique p.wins q.wins) ∙ sym q.says))

  -- the part handed back is the one for what the companion answers
  pub handed_agrees : (own server part : Bor (List ℕ)) (a : Answer) → HandedBack Check day w own server part
      → Chosen Check day w own.now server.now a → PartFor w.count own server part a
  handed_agrees own server part a h chosen = rw (chosen_unique own.now server.now a h.answer chosen h.chosen) h.handed

start_unique : {plan part other : Bor (List ℕ)} {n : ℕ} → StartOf plan n part → StartOf plan n other → SamePart part other
start_unique p q = record { begins = p.begins ∙ sym q.begins; holds = p.holds ∙ sym q.holds }

part_unique : {n : ℕ} {own server part other : Bor (List ℕ)} {a : Answer} → PartFor n own server part a → PartFor n own server other a
    → SamePart part other
part_unique (refused e p) (refused f q) = start_unique p q
part_unique (refused e p) (of_own f q) = absurd (e (code_of f))
part_unique (refused e p) (of_server f q) = absurd (e (code_of f))
part_unique (of_own e p) (refused f q) = absurd (f (code_of e))
part_unique (of_own e p) (of_own f q) = start_unique p q
part_unique (of_own e p) (of_server f q) = absurd (omega (arith, ap (λ (x : Answer). x.first) (sym e ∙ f)))
part_unique (of_server e p) (refused f q) = absurd (f (code_of e))
part_unique (of_server e p) (of_own f q) = absurd (omega (arith, ap (λ (x : Answer). x.first) (sym e ∙ f)))
part_unique (of_server e p) (of_server f q) = start_unique p q

pub handed_unique : {Check : Answer → Type 0} → IsCheck Check → (day : Day) (w : Windows) (own server part other : Bor (List ℕ))
    → HandedBack Check day w own server part → HandedBack Check day w own server other → SamePart part other
handed_unique check day w own server part other p q =
    part_unique p.handed (handed_agrees check day w own server other p.answer q p.chosen)
