-- Laws of checks in order: each answers once and never with `done`, so that what comes after a check is known from its answer; and
-- which codes a chain never answers with. Assumes nothing.
use Prim.Native.Nat.{ℕ, zero, suc, ◌+◌, ◌<◌}
use mathlib.Core.Path.{◌≡◌, refl, sym, ◌∙◌, ap}
use mathlib.Core.Logic.{◌⊎◌, inl, inr, ⊎_elim}
use native.Mathlib.Omega.{arith}
use Rattle.day.proofs.Cases.{on_le, on_eq}
use Rattle.checks.specs.declared.Answer.{Answer}
use Rattle.checks.specs.Answer.{says, done}
use Rattle.checks.specs.Refusal.{◌then◌, stops, goes_on, Passed, Refuses, First, RefusesRow, FirstPair, RefusesPair}

pub first_unique : {n : ℕ} {Fault : ℕ → Type 0} (i j : ℕ) → First n Fault i → First n Fault j → i ≡ j
first_unique i j p q =
    on_le i j (λ h. on_le j i (λ l. omega arith) (λ l. absurd (q.lowest i l p.fault)))
    (λ h. absurd (p.lowest j h q.fault))

pub first_pair_unique : {n : ℕ} {Fault : ℕ → ℕ → Type 0} (i j k l : ℕ) → FirstPair n Fault i j → FirstPair n Fault k l
    → (i ≡ k) × (j ≡ l)
first_pair_unique {n} {Fault} i j k l p q =
    let same_row : i ≡ k =
    on_le i k (λ h. on_le k i (λ u. omega arith) (λ u. absurd (q.lowest i j u p.order p.within p.fault)))
    (λ h. absurd (p.lowest k l h q.order q.within q.fault))
    in
    let q-here : FirstPair n Fault i l = rw same_row q in (
      same_row,
      on_le j l
          (λ h. on_le l j (λ u. omega arith) (λ u. absurd (q-here.partner j p.order u p.fault)))
          (λ h. absurd (p.partner l q-here.order h q-here.fault)),
    )

-- where it is known of each row whether it is at fault, there is a first such row or none
pub first_or_none : {Fault : ℕ → Type 0} → ((i : ℕ) → Fault i ⊎ (Fault i → ⊥)) → (n : ℕ)
    → ((i : ℕ) × First n Fault i) ⊎ ((i : ℕ) → i < n → Fault i → ⊥)
first_or_none known zero = inr (λ i h. absurd (omega arith))
first_or_none known (suc n) =
    ⊎_elim
    (λ f. inl (f.0, record { within = omega (arith, f.1.within); fault = f.1.fault; lowest = f.1.lowest }))
    (λ none.
    ⊎_elim (λ f. inl (n, record { within = omega arith; fault = f; lowest = none }))
    (λ clear. inr (λ i h. on_eq i n (λ e. rw e clear) (λ e. none i (omega arith))))
    (known n))
    (first_or_none known n)

module _ {Fault : ℕ → ℕ → Type 0} (known : (i j : ℕ) → Fault i j ⊎ (Fault i j → ⊥)) (n : ℕ) where
  -- row j comes after row i and is at fault with it
  abbrev Partner : ℕ → ℕ → Type 0
  Partner i j = (i < j) × Fault i j

  abbrev LowestPartner : ℕ → Type 0
  LowestPartner i = (j : ℕ) × First n (Partner i) j

  lowest_partner : (i : ℕ) → LowestPartner i ⊎ ((j : ℕ) → j < n → Partner i j → ⊥)
  lowest_partner i =
      first_or_none
      (λ j. on_le (suc i) j (λ h. ⊎_elim (λ f. inl (h, f)) (λ f. inr (λ p. f p.1)) (known i j)) (λ h. inr (λ p. omega arith)))
      n

  has_partner : (i j : ℕ) → j < n → Partner i j → LowestPartner i
  has_partner i j within p = ⊎_elim (λ f. f) (λ none. absurd (none j within p)) (lowest_partner i)

  -- the first row that has a partner, with the lowest of its partners, is the first pair
  first_pair : (i : ℕ) (f : First n LowestPartner i) → FirstPair n Fault i f.fault.0
  first_pair i f =
      record {
        order = f.fault.1.fault.0;
        within = f.fault.1.within;
        fault = f.fault.1.fault.1;
        lowest = λ k l below order within fault. f.lowest k below (has_partner k l within (order, fault));
        partner = λ l order below fault. f.fault.1.lowest l below (order, fault);
      }

  -- there is a first pair at fault, or none is
  pub first_pair_or_none : ((i : ℕ) × (j : ℕ) × FirstPair n Fault i j) ⊎ ((i j : ℕ) → i < j → j < n → Fault i j → ⊥)
  first_pair_or_none =
      ⊎_elim (λ f. inl (f.0, f.1.fault.0, first_pair f.0 f.1))
      (λ none. inr (λ i j order within fault. none i (omega arith) (has_partner i j within (order, fault))))
      (first_or_none (λ k. ⊎_elim inl (λ none. inr (λ p. none p.0 p.1.within p.1.fault)) (lowest_partner k)) n)

  -- a pair at fault would be refused
  pub no_pair_at_fault : {code : ℕ} → ((b : Answer) → RefusesPair code n Fault b → ⊥) → (i j : ℕ) → i < j → j < n → Fault i j → ⊥
  no_pair_at_fault {code} clear =
      ⊎_elim
      (λ f. absurd (clear (says code (f.0 + 1) (f.1 + 1)) (record { row = f.0; partner = f.1; first = f.2; says = refl })))
      (λ none. none)
      first_pair_or_none

-- a search that found a row found the row to refuse
pub found_refused : {code n : ℕ} {Fault : ℕ → Type 0} (i : ℕ) → First n Fault i → RefusesRow code n Fault (says code (i + 1) 0)
found_refused i f = record { row = i; first = f; says = refl }

-- a search that found no row found nothing to refuse
pub none_clear : {code n : ℕ} {Fault : ℕ → Type 0} → ((j : ℕ) → j < n → Fault j → ⊥) → (b : Answer) → RefusesRow code n Fault b → ⊥
none_clear none b r = none r.row r.first.within r.first.fault

-- a fault would be refused
pub no_fault : {code : ℕ} {Fault : Type 0} → ((b : Answer) → Refuses code Fault b → ⊥) → Fault → ⊥
no_fault {code} clear f = clear (says code 0 0) (record { fault = f; says = refl })

-- past a refusal that has no fault to name
pub past : {code : ℕ} {Fault : Type 0} {Next : Answer → Type 0} {a : Answer} → (Fault → ⊥) → Next a → (Refuses code Fault then Next) a
past clear next = goes_on (λ b r. clear r.fault) next

-- a row at fault would be refused
pub no_row_at_fault : {code n : ℕ} {Fault : ℕ → Type 0} → ((i : ℕ) → Fault i ⊎ (Fault i → ⊥))
    → ((b : Answer) → RefusesRow code n Fault b → ⊥) → (i : ℕ) → i < n → Fault i → ⊥
no_row_at_fault {code} {n} known clear =
    ⊎_elim (λ f. absurd (clear (says code (f.0 + 1) 0) (record { row = f.0; first = f.1; says = refl }))) (λ none. none)
    (first_or_none known n)

pub code_of : {a b : Answer} → a ≡ b → a.code ≡ b.code
code_of e = ap (λ (a : Answer). a.code) e

-- it never answers with this code
abbrev pub Avoids : ℕ → (Answer → Type 0) → Type 0
Avoids code Check = (a : Answer) → Check a → a.code ≡ code → ⊥

pub refuses_avoids : {code other : ℕ} {Fault : Type 0} → (code ≡ other → ⊥) → Avoids other (Refuses code Fault)
refuses_avoids h a p e = h (rw p.says at e)

pub refuses_row_avoids : {code other n : ℕ} {Fault : ℕ → Type 0} → (code ≡ other → ⊥) → Avoids other (RefusesRow code n Fault)
refuses_row_avoids h a p e = h (rw p.says at e)

pub refuses_pair_avoids : {code other n : ℕ} {Fault : ℕ → ℕ → Type 0} → (code ≡ other → ⊥) → Avoids other (RefusesPair code n Fault)
refuses_pair_avoids h a p e = h (rw p.says at e)

pub passed_avoids : {code : ℕ} → (done ≡ code → ⊥) → Avoids code Passed
passed_avoids h a p e = h (rw p at e)

-- a relation that only refuses, and with one answer
pub record IsCheck (Check : Answer → Type 0) : Type 0 where
  pub one : (a b : Answer) → Check a → Check b → a ≡ b
  pub not_done : Avoids done Check

pub refuses_is_check : {code : ℕ} {Fault : Type 0} → (code ≡ done → ⊥) → IsCheck (Refuses code Fault)
refuses_is_check h = record { one = λ a b p q. p.says ∙ sym q.says; not_done = refuses_avoids h }

pub refuses_row_is_check : {code n : ℕ} {Fault : ℕ → Type 0} → (code ≡ done → ⊥) → IsCheck (RefusesRow code n Fault)
refuses_row_is_check {code} h =
    record {
      one = λ a b p q. p.says ∙ ap (λ (i : ℕ). says code (i + 1) 0) (first_unique _ _ p.first q.first) ∙ sym q.says;
      not_done = refuses_row_avoids h;
    }

pub refuses_pair_is_check : {code n : ℕ} {Fault : ℕ → ℕ → Type 0} → (code ≡ done → ⊥) → IsCheck (RefusesPair code n Fault)
refuses_pair_is_check h =
    record {
      one = λ a b p q.
          let same : (p.row ≡ q.row) × (p.partner ≡ q.partner) = first_pair_unique _ _ _ _ p.first q.first in
          p.says ∙ rw (same.0, same.1) (sym q.says);
      not_done = refuses_pair_avoids h;
    }

module _ {Check : Answer → Type 0} where
  -- two outcomes agree where what comes next agrees
  pub then_unique : {Next Other : Answer → Type 0} → IsCheck Check → ((a b : Answer) → Next a → Other b → a ≡ b)
      → (a b : Answer) → (Check then Next) a → (Check then Other) b → a ≡ b
  then_unique k f a b (stops p) (stops q) = k.one a b p q
  then_unique k f a b (stops p) (goes_on n q) = absurd (n a p)
  then_unique k f a b (goes_on n p) (stops q) = absurd (n b q)
  then_unique k f a b (goes_on n p) (goes_on m q) = f a b p q

  pub passed_unique : IsCheck Check → (a b : Answer) → (Check then Passed) a → (Check then Passed) b → a ≡ b
  passed_unique k = then_unique k (λ a b p q. p ∙ sym q)

  -- the answer of a check that refused is the answer of the whole
  pub then_refused : {Next : Answer → Type 0} (a : Answer) → (Check then Passed) a → (a.code ≡ done → ⊥) → (Check then Next) a
  then_refused a (stops p) h = stops p
  then_refused a (goes_on n p) h = absurd (h (code_of p))

  -- before an answer with a code that the check never has, it had nothing to refuse
  pub avoids_clear : {code : ℕ} {Next : Answer → Type 0} → Avoids code Check → (a : Answer) → (Check then Next) a → a.code ≡ code
      → (b : Answer) → Check b → ⊥
  avoids_clear f a (stops p) e = absurd (f a p e)
  avoids_clear f a (goes_on n p) e = n

  pub passed_clear : {Next : Answer → Type 0} → IsCheck Check → (a : Answer) → (Check then Next) a → a.code ≡ done → (b : Answer)
      → Check b → ⊥
  passed_clear k = avoids_clear k.not_done

  -- after a check that passed, what comes next answers
  pub then_passed : {Next : Answer → Type 0} → IsCheck Check → (a b : Answer) → (Check then Passed) a → a.code ≡ done → Next b
      → (Check then Next) b
  then_passed k a b p e = goes_on (passed_clear k a p e)

  -- past a check that has nothing to refuse
  pub then_next : {Next : Answer → Type 0} → ((b : Answer) → Check b → ⊥) → (a : Answer) → (Check then Next) a → Next a
  then_next clear a (stops p) = absurd (clear a p)
  then_next clear a (goes_on n p) = p

  -- an answer of `done` comes from what follows the check
  pub then_done : {Next : Answer → Type 0} → IsCheck Check → (a : Answer) → (Check then Next) a → a.code ≡ done → Next a
  then_done k a p e = then_next (passed_clear k a p e) a p

  pub then_avoids : {code : ℕ} {Next : Answer → Type 0} → Avoids code Check → Avoids code Next → Avoids code (Check then Next)
  then_avoids f g a (stops p) = f a p
  then_avoids f g a (goes_on n p) = g a p

  pub then_is_check : {Next : Answer → Type 0} → IsCheck Check → IsCheck Next → IsCheck (Check then Next)
  then_is_check k l = record { one = then_unique k l.one; not_done = then_avoids k.not_done l.not_done }

  -- two checks that have nothing to refuse have nothing together
  pub then_clear : {Next : Answer → Type 0} → ((b : Answer) → Check b → ⊥) → ((b : Answer) → Next b → ⊥) → (b : Answer)
      → (Check then Next) b → ⊥
  then_clear n m b (stops p) = n b p
  then_clear n m b (goes_on _ p) = m b p

  pub clear_first : {Next : Answer → Type 0} → ((b : Answer) → (Check then Next) b → ⊥) → (b : Answer) → Check b → ⊥
  clear_first clear b p = clear b (stops p)

  pub clear_next : {Next : Answer → Type 0} → ((b : Answer) → (Check then Next) b → ⊥) → (b : Answer) → Next b → ⊥
  clear_next clear b p = clear b (goes_on (clear_first clear) p)

  -- a check and the next, taken together, are one check before the rest
  pub then_group : {Next Rest : Answer → Type 0} (a : Answer) → (Check then Next then Rest) a → ((Check then Next) then Rest) a
  then_group a (stops p) = stops (stops p)
  then_group a (goes_on n (stops p)) = stops (goes_on n p)
  then_group a (goes_on n (goes_on m p)) = goes_on (then_clear n m) p

  -- where the first of two checks taken together has nothing to refuse, the second is left
  pub group_next : {Next Rest : Answer → Type 0} → ((b : Answer) → Check b → ⊥) → (a : Answer) → ((Check then Next) then Rest) a
      → (Next then Rest) a
  group_next clear a (stops p) = stops (then_next clear a p)
  group_next clear a (goes_on n p) = goes_on (clear_next n) p

  -- what follows has another code, so the check answered
  pub then_stopped : {code : ℕ} {Next : Answer → Type 0} → ((b : Answer) → Next b → b.code ≡ code) → (a : Answer) → (Check then Next) a
      → (a.code ≡ code → ⊥) → Check a
  then_stopped answers a (stops p) h = p
  then_stopped answers a (goes_on n p) h = absurd (h (answers a p))

  -- a check and what comes next may be said in another way
  pub then_as : {Other Next After : Answer → Type 0} → ((b : Answer) → Check b → Other b) → ((b : Answer) → Other b → Check b)
      → ((b : Answer) → Next b → After b) → (a : Answer) → (Check then Next) a → (Other then After) a
  then_as there back next a (stops p) = stops (there a p)
  then_as there back next a (goes_on n p) = goes_on (λ b q. n b (back b q)) (next a p)
