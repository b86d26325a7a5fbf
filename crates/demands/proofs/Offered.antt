-- Offering a plan: the day afterwards stands, with the plan that is cheaper. Assumes nothing.
use Prim.Native.Nat.{ℕ, ◌≤◌, ◌<◌}
use mathlib.Core.Path.{◌≡◌, refl, sym, ◌∙◌, ap}
use mathlib.Core.List.{List}
use native.Mathlib.Omega.{arith}
use Rattle.day.specs.Windows.{at}
use Rattle.day.proofs.Cases.{give, on_eq}
use Rattle.day.proofs.Plan.{same_rows_refl, proper_cong, proper_wider}
use Rattle.checks.specs.declared.Answer.{Answer}
use Rattle.checks.specs.Answer.{says, done}
use Rattle.checks.proofs.Refusal.{passed_clear, then_next, then_clear, clear_first, clear_next, code_of}
use Rattle.claim.specs.Claim.{Fit, plan_cost}
use Rattle.claim.proofs.Claim.{clear_fit, fit_clear}
use Rattle.fieldday.specs.declared.FieldDay.{FieldDay}
use Rattle.fieldday.specs.declared.FieldAnswer.{FieldAnswer}
use Rattle.fieldday.specs.Held.{list_held, held_cost, cut_held, held_at}
use Rattle.fieldday.specs.steps.Sound.{Sound}
use Rattle.fieldday.specs.Promise.{OfferCheck, Weighed, cheaper, no_cheaper, offered_cost, OfferPromise}
use Rattle.fieldday.proofs.Sound.{clear_sound}
use Rattle.fieldday.proofs.Places.{at_zeros}
use Rattle.cutlist.proofs.CutPlan.{cut_narrower, own_proper}
use Rattle.fieldday.proofs.Checks.{offer_is_check}
use Rattle.demands.specs.FieldDay.{HasPlaces, OfferNoDearer, OfferTaken}
use Rattle.demands.proofs.Standing.{Stands, at_costs, at_stands, Replanned}

module _ {f : FieldDay} {server : List ℕ} {r : FieldAnswer} (p : OfferPromise f server r) where
  -- the plan held after an offer under 0
  pub record Holds : Type 0 where
    pub starts : List ℕ
    pub held : r.held ≡ held_at f f.slot starts
    pub fit : Fit (cut_held f) starts
    pub cheap : plan_cost f.day (list_held f) starts ≤ held_cost f

  module _ (e : r.answer.code ≡ done) where
    offer_clear : (b : Answer) → OfferCheck f server b → ⊥
    offer_clear = passed_clear (offer_is_check f server) r.answer p.answer e

    pub offer_sound : Sound f
    offer_sound = clear_sound (clear_first offer_clear)

    weighed : Weighed f server r.answer → Holds
    weighed (cheaper less answer) =
        record {
          starts = server;
          held = p.taken answer;
          fit = clear_fit (cut_held f) server (clear_next offer_clear);
          cheap = omega arith;
        }
    weighed (no_cheaper most answer) =
        record {
          starts = f.starts;
          held = p.left answer;
          fit =
              record { long = offer_sound.fit.long; proper = own_proper f.slot (at f.starts) (list_held f) offer_sound.fit.proper };
          cheap = omega arith;
        }

    pub holds : Holds
    holds = weighed (then_next offer_clear r.answer p.answer)

    fits : Fit (list_held f) holds.starts
    fits =
        record {
          long = holds.fit.long;
          proper = proper_wider (cut_narrower f.slot (at f.starts) (list_held f) offer_sound.fit.proper) holds.fit.proper;
        }

    pub offered_stands : HasPlaces f → Stands r.held
    offered_stands places = rw holds.held (at_stands f f.slot holds.starts places offer_sound fits offer_sound.slot)

    pub offer_replanned : Replanned f r.held
    offer_replanned =
        rw holds.held
        (record {
          slot = refl;
          count = omega arith;
          proper =
              proper_cong (cut_held f) (cut_held f) (at holds.starts) (at (held_at f f.slot holds.starts).starts)
              (same_rows_refl (cut_held f)) (λ i l. sym (at_zeros f.count holds.starts holds.fit.long i l)) holds.fit.proper;
          new = λ i l m. absurd (omega arith);
        })

    no_dearer : held_cost r.held ≤ held_cost f
    no_dearer = rw holds.held (omega (arith, at_costs f f.slot holds.starts holds.fit.long, holds.cheap))

pub offer_no_dearer : OfferNoDearer
offer_no_dearer f server r p = on_eq r.answer.code done (no_dearer p) (λ n. rw (p.refused n) (omega arith))

-- an offer that is weighed

module _ (f : FieldDay) (server : List ℕ) (r : FieldAnswer) (p : OfferPromise f server r) where
  -- an answer that says taken comes from a plan that is proper and cheaper
  says_taken : r.answer ≡ says done 1 0 → Weighed f server r.answer → offered_cost f server < held_cost f
  says_taken e (cheaper less answer) = less
  says_taken e (no_cheaper most answer) = absurd (omega (arith, ap (λ (a : Answer). a.first) (sym e ∙ answer)))

  cheaper_taken : offered_cost f server < held_cost f → Weighed f server r.answer → r.answer ≡ says done 1 0
  cheaper_taken l (cheaper less answer) = answer
  cheaper_taken l (no_cheaper most answer) = absurd (omega arith)

  not_taken : (r.answer ≡ says done 1 0 → ⊥) → Weighed f server r.answer → r.answer ≡ says done 0 0
  not_taken n (cheaper less answer) = absurd (n answer)
  not_taken n (no_cheaper most answer) = answer

  starts_left : (r.answer ≡ says done 1 0 → ⊥) → (i : ℕ) → i < f.count → at r.held.starts i ≡ at f.starts i
  starts_left n i l =
      on_eq r.answer.code done
      (λ e.
      rw (p.left (not_taken n (then_next (offer_clear p e) r.answer p.answer)))
      (at_zeros f.count f.starts (offer_sound p e).fit.long i l))
      (λ m. rw (p.refused m))

pub offer_taken : OfferTaken
offer_taken f server r p clear =
    record {
      only_if = λ e.
          give (offer_clear p (code_of e))
          (λ none. (
            clear_fit (cut_held f) server (clear_next none),
            says_taken f server r p e (then_next none r.answer p.answer),
          ));
      whenever = λ fit less.
          cheaper_taken f server r p less
          (then_next (then_clear clear (fit_clear (cut_held f) server fit)) r.answer p.answer);
      taken = λ e i l.
          rw (p.taken e) (at_zeros f.count server (clear_fit (cut_held f) server (clear_next (offer_clear p (code_of e)))).long i l);
      left = starts_left f server r p;
    }
