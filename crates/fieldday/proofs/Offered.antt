-- Laws of offering a plan: what it gives where the day or the plan is refused, and where the costs are weighed. Assumes nothing.
use Prim.Native.Nat.{ℕ, ◌≤◌, ◌<◌}
use mathlib.Core.Path.{◌≡◌, refl, ap}
use mathlib.Core.List.{List}
use native.Mathlib.Omega.{arith}
use Rattle.checks.specs.declared.Answer.{Answer}
use Rattle.checks.specs.Answer.{says, done}
use Rattle.checks.specs.Refusal.{◌then◌, stops, goes_on}
use Rattle.checks.proofs.Refusal.{code_of, then_stopped, then_clear, then_done}
use Rattle.claim.specs.Claim.{Fit, Costs}
use Rattle.claim.specs.steps.Starts.{PricedStarts}
use Rattle.claim.proofs.Claim.{fit_clear, priced_fit}
use Rattle.fieldday.specs.declared.FieldDay.{FieldDay}
use Rattle.fieldday.specs.Held.{HeldCheck, list_held, cut_held, held_cost, held_at}
use Rattle.fieldday.specs.steps.Sound.{Sound}
use Rattle.fieldday.specs.Promise.{OfferCheck, offered_cost, Weighed, cheaper, no_cheaper, OfferPromise}
use Rattle.fieldday.proofs.Checks.{held_is_check}
use Rattle.fieldday.proofs.Sound.{sound_clear, judged_sound}

module _ (f : FieldDay) (server : List ℕ) where
  refused : (a : Answer) → OfferCheck f server a → (a.code ≡ done → ⊥) → OfferPromise f server (record { answer = a; held = f })
  refused a p h =
      record { answer = stops p; taken = λ e. absurd (h (code_of e)); left = λ e. absurd (h (code_of e)); refused = λ e. refl }

  module _ (a : Answer) (judged : (HeldCheck f then Costs f.day (list_held f) f.starts) a) where
    pub offer_refused : (a.code ≡ done → ⊥) → OfferPromise f server (record { answer = a; held = f })
    offer_refused h = refused a (stops (then_stopped (λ b p. code_of p) a judged h)) h

    module _ (sound : a.code ≡ done) where
      abbrev day : Sound f
      day = judged_sound f a judged sound

      module _ (b : Answer) (priced : PricedStarts f.day (cut_held f) server b) where
        pub offer_unfit : (b.code ≡ done → ⊥) → OfferPromise f server (record { answer = b; held = f })
        offer_unfit h = refused b (goes_on (sound_clear day) (then_stopped (λ c p. code_of p) b priced h)) h

        module _ (proper : b.code ≡ done) where
          offered_fit : Fit (cut_held f) server
          offered_fit = (priced_fit f.day (cut_held f) server b priced proper).0

          held_costs : a.first ≡ held_cost f
          held_costs = ap (λ (x : Answer). x.first) (then_done (held_is_check f) a judged sound)

          offered_costs : b.first ≡ offered_cost f server
          offered_costs = (priced_fit f.day (cut_held f) server b priced proper).1

          weighed : (r : Answer) → Weighed f server r → (OfferCheck f server then Weighed f server) r
          weighed r = goes_on (then_clear (sound_clear day) (fit_clear (cut_held f) server offered_fit))

          -- strictly cheaper
          pub offer_taken : (g : FieldDay) → b.first < a.first → g ≡ held_at f f.slot server
              → OfferPromise f server (record { answer = says done 1 0; held = g })
          offer_taken g h same =
              record {
                answer = weighed (says done 1 0) (cheaper (omega (arith, held_costs, offered_costs)) refl);
                taken = λ e. same;
                left = λ e. absurd (omega (arith, ap (λ (x : Answer). x.first) e));
                refused = λ e. absurd (e refl);
              }

          pub offer_left : (r : Answer) (g : FieldDay) → a.first ≤ b.first → r ≡ says done 0 0 → g ≡ held_at f f.slot f.starts
              → OfferPromise f server (record { answer = r; held = g })
          offer_left r g h e same =
              record {
                answer = weighed r (no_cheaper (omega (arith, held_costs, offered_costs)) e);
                taken = λ n. absurd (omega (arith, ap (λ (x : Answer). x.first) n, ap (λ (x : Answer). x.first) e));
                left = λ n. same;
                refused = λ n. absurd (n (code_of e));
              }
