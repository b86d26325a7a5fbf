-- From the table's value to the best plan: what the rule says of the whole day, for jobs put into number order. Assumes nothing.
use Prim.Native.Nat.{ℕ, ◌+◌, ◌-◌, ◌≤◌, ◌<◌}
use mathlib.Core.Path.{◌≡◌, sym, ap, ◌∙◌}
use mathlib.Core.List.{List}
use native.Mathlib.Omega.{arith}
use lib.ListN.{length}
use lib.Seq.{ext_get_or}
use Rattle.std.proofs.Common.{Option, Some, None}
use Rattle.checks.specs.declared.Answer.{Answer}
use Rattle.day.specs.declared.Day.{Day}
use Rattle.day.specs.Windows.{Windows, at}
use Rattle.checks.specs.Answer.{says, done, no_plan}
use Rattle.checks.specs.Refusal.{goes_on}
use Rattle.day.specs.Far.{far_price}
use Rattle.checks.specs.Zero.{zeroed}
use Rattle.day.proofs.Cases.{give, on_le}
use Rattle.day.proofs.Changed.{filled_rest}
use Rattle.checks.proofs.Zero.{zeroed_length, zeroed_below, zeroed_beyond}
use Rattle.rule.specs.Span.{Problem, value}
use Rattle.rule.specs.Whole.{problem, whole_back, ByNumber, Ready}
use Rattle.rule.proofs.Whole.{whole_none, whole_best, whole_cost, back_in_day}
use Rattle.engine.specs.Places.{SpanIn, place, places_for}
use Rattle.engine.specs.steps.Bands.{span_place, BandsHold}
use Rattle.engine.specs.Lent.{Lent, layout_of}
use Rattle.engine.specs.Filled.{Small, Filled}
use Rattle.readback.specs.StartsRead.{ReadBackAsks}
use Rattle.engine.proofs.Places.{place_below, places_more}
use Rattle.planner.specs.declared.Found.{Found}
use Rattle.planner.specs.Table.{need}
use Rattle.planner.specs.steps.Jobs.{planner_none, LentSquare}
use Rattle.numbered.specs.InOrder.{Laid}
use Rattle.planner.specs.steps.Finished.{Tabled, Finds, FindsPlan, Told}
use Rattle.checks.specs.Planned.{costs, none_proper, Planned}
use Rattle.checks.specs.steps.Never.{Never}
use Rattle.planner.proofs.Table.{need_square}
use Rattle.planner.proofs.Jobs.{far_price_bounded}
use Rattle.checks.proofs.Planned.{never_clear, best_in}

-- n jobs, lent to the engine
module _ {day : Day} {G : Lent} {n : ℕ} (given : LentSquare day G n) (old : List ℕ) (long : need day.slots n ≤ length old) where
  -- the engine has room
  pub room : need day.slots n ≡ places_for (layout_of G) n
  room = sym (need_square (layout_of G) day.slots n given.level)

  pub room_for_prices : places_for (layout_of G) 0 ≤ length old
  room_for_prices = omega (arith, room, places_more (layout_of G) 0 n (omega arith))

  -- once the level of no jobs has its prices
  module _ (priced : List ℕ) (r : BandsHold (layout_of G) 0 0 G.shape.points (far_price day) old priced) where
    pub priced_small : Small (layout_of G) G.shape.none 0 priced
    priced_small s e v =
        omega (
          arith,
          given.none,
          r.inside (s, e) (v, omega arith, omega arith),
          far_price_bounded day (omega (arith, given.jobs.wake)) s e,
        )

    pub tabled : (new : List ℕ) → Filled G n priced new → Tabled day G n old new
    tabled new f = record {
      changed = record {
        long = f.changed.long ∙ r.long;
        inside = λ i h. tt;
        outside = λ j m.
            f.changed.outside j (λ i h. m i (omega (arith, room)))
            ∙ r.outside j
            (λ x t. m (span_place (layout_of G) 0 x)
            (omega (arith, room, place_below given.prepared.fits n 0 x.0 x.1 (omega arith) t.0)));
      };
      small = f.small;
      values = λ P a. f.values P a.posed
          (λ s e v. r.inside (s, e) (v, omega arith, omega arith) ∙ sym (a.price s e));
    }

  -- once the table is filled
  module _ (new : List ℕ) (t : Tabled day G n old new) where
    pub table_asks : ReadBackAsks G new n
    table_asks = record {
      prepared = given.prepared;
      few_points = omega (arith, given.points, given.jobs.slots);
      room = omega (arith, t.changed.long, room);
      small = t.small;
    }

    -- what is set to zero doesn't matter
    pub table_cleared : (m : ℕ) (cleared : List ℕ) → m ≡ need day.slots n → cleared ≡ zeroed m new
        → cleared ≡ zeroed (need day.slots n) old
    table_cleared m cleared q c =
        c
        ∙ ext_get_or 0 (zeroed m new) (zeroed m old) (zeroed_length m new ∙ t.changed.long ∙ sym (zeroed_length m old))
        (λ i h.
        on_le m i (λ l. zeroed_beyond m new i l ∙ filled_rest t.changed i (omega arith) ∙ sym (zeroed_beyond m old i l))
        (λ l. zeroed_below m new i l ∙ sym (zeroed_below m old i l)))
        ∙ ap (λ (x : ℕ). zeroed x old) q

-- a table from which n jobs are read back, up to the last point
module _ {G : Lent} {n : ℕ} {table : List ℕ} (asks : ReadBackAsks G table n) (some-point : 0 < G.shape.points) where
  abbrev end : ℕ
  end = G.shape.points - 1

  whole_span : SpanIn (layout_of G) 0 end
  whole_span = (omega arith, omega arith)

  pub whole_there : place (layout_of G) n 0 end < length table
  whole_there = omega (arith, asks.room, place_below asks.prepared.fits n n 0 end (omega arith) whole_span)

-- the table's value decides, and the plan read back is the best
module _ (day : Day) (w : Windows) (order starts table : List ℕ) (R : Ready day w (at order) planner_none) where
  abbrev P : Problem
  P = problem day w (at order) planner_none

  module _ (all : length order ≡ w.count) (a : Answer) (p t : List ℕ) (cleared : t ≡ zeroed (need day.slots w.count) table) where
    -- the starts laid out by number are those of the whole day's plan: each is a slot of the day
    laid_back : (found : Found) → Finds P w.count (day.slots + 2) found → value P w.count 0 (day.slots + 2) < planner_none
        → Laid order w.count (at found.starts) starts p → ByNumber w.count (at order) (at p) (whole_back day w (at order) planner_none)
    laid_back found F small l k h = omega (arith, l.inside k h, F.each small k h, back_in_day day w (at order) planner_none R small k h)

    found_planned : (found : Found) → FindsPlan P w.count (day.slots + 2) (Some found) → Told day order (Some found) starts a p
        → Planned Never (need day.slots w.count) day w starts table a p t
    found_planned found F T =
        let small : value P w.count 0 (day.slots + 2) < planner_none = omega (arith, F.0.value_is, F.1) in
        give (rw (all, F.0.value_is) at T)
        (λ f.
        let back = laid_back found F.0 small f.1 in
        let best = whole_best day w (at order) planner_none R small (at p) back in
        let code : a.code ≡ done = ap (λ (x : Answer). x.code) f.0 in
        record {
          answer = goes_on never_clear (costs (at p) best
              (f.0 ∙ ap (λ (v : ℕ). says done v 0) (sym (whole_cost day w (at order) planner_none R small (at p) back))));
          planned = λ e. best_in best f.1.long (λ i l. f.1.outside i (λ k h q. omega (arith, R.numbered.within k h)));
          unplanned = λ e. absurd (e code);
          cleared = λ e. cleared;
          kept = λ e g. absurd (e code);
        })

    missing_planned : planner_none ≤ value P w.count 0 (day.slots + 2) → Told day order None starts a p
        → Planned Never (need day.slots w.count) day w starts table a p t
    missing_planned h T =
        let code : a.code ≡ no_plan = ap (λ (x : Answer). x.code) T.0 in
        record {
          answer = goes_on never_clear (none_proper (whole_none day w (at order) planner_none R h) T.0);
          planned = λ e. absurd (omega arith);
          unplanned = λ e. T.1;
          cleared = λ e. cleared;
          kept = λ e g. absurd (g code);
        }

    pub finished_planned : (found : Option Found) → FindsPlan P w.count (day.slots + 2) found → Told day order found starts a p
        → Planned Never (need day.slots w.count) day w starts table a p t
    finished_planned (Some found) F T = found_planned found F T
    finished_planned None F T = missing_planned F T
