-- The laws of the table's levels: bands are added one by one, a level keeps the others, and a filled table grows by a level.
-- Assumes nothing.
use Prim.Native.Nat.{ℕ, ◌+◌, ◌≤◌, ◌<◌}
use mathlib.Core.Path.{◌≡◌, refl, sym, ◌∙◌}
use mathlib.Core.Logic.{inl, inr}
use mathlib.Core.List.{List}
use native.Mathlib.Numerals.{add-one}
use native.Mathlib.Omega.{arith}
use lib.ListN.{length}
use Rattle.day.specs.Windows.{at}
use Rattle.day.specs.Changed.{itself}
use Rattle.day.proofs.Cases.{on_eq, on_le}
use Rattle.day.proofs.Changed.{changed_join}
use Rattle.rule.specs.Span.{Problem}
use Rattle.rule.proofs.Value.{value_zero, value_out}
use Rattle.engine.specs.Places.{Layout, SpanIn, Fits, band, place, places_for}
use Rattle.engine.specs.Lent.{Lent, layout_of, most_none, Prepared, Posed}
use Rattle.engine.specs.Filled.{ValuesHeld, PricesHeld, Small, Filled}
use Rattle.engine.specs.steps.Bands.{HoldsAlong, BeginsIn, span_place, BandsHold, along, Disjoint}
use Rattle.engine.specs.steps.OneMore.{OneMore, more_of, layout_for, one_job, value_with, Copyable, Fillable, BandAdded, BandsAdded}
use Rattle.engine.proofs.Places.{place_below, place_same, band_below, levels_below, places_more}
use Rattle.engine.proofs.Along.{holds_as, along_join}
use Rattle.engine.proofs.OneJob.{price_read, value_with_small, value_with_same, value_with_posed}

-- a level and the next are there
module _ {L : Layout} {begun k : ℕ} {table : List ℕ} (c : Copyable L begun k table) (s : ℕ) (h : s < L.points) where
  pub band_there : (i begin : ℕ) → i ≤ k + 1 → begin ≡ band L i s → begin + L.points ≤ length table
  band_there i begin l q = omega (arith, c.room, band_below c.fits (k + 1) i s begin l h q)

  -- a band of the one and a band of the next
  pub bands_apart : (below here hi : ℕ) → below ≡ band L k s → here ≡ band L (k + 1) s → hi ≤ L.points → Disjoint below here s hi
  bands_apart below here hi p q u x y a b z =
      let same : place L k s x ≡ place L (k + 1) s y = omega arith in
      omega (arith, place_same c.fits k (k + 1) s s x y (a.0, omega arith) (b.0, omega arith) same)

module _ {L : Layout} (fits : Fits L) (k : ℕ) (f : ℕ → ℕ → ℕ) {lo : ℕ} where
  pub bands_join : {mid hi : ℕ} {old between new : List ℕ} → lo ≤ mid → mid ≤ hi → BandsHold L k lo mid f old between
      → BandsHold L k mid hi f between new → BandsHold L k lo hi f old new
  bands_join {mid} {hi} g h =
      changed_join {These = BeginsIn L lo mid} {Those = BeginsIn L mid hi}
      (λ x t. on_le mid x.0 (λ p. inr (t.0, p, t.2)) (λ p. inl (t.0, t.1, p)))
      (λ x t. (t.0, t.1, omega arith)) (λ x t. (t.0, omega arith, t.2))
      (λ x y t u q. omega (arith, (place_same fits k k x.0 y.0 x.1 y.1 t.0 u.0 q).1))

  pub bands_more : (s : ℕ) {old between new : List ℕ} → lo ≤ s → s < L.points → BandsHold L k lo s f old between
      → HoldsAlong (place L k s) s L.points (f s) between new → BandsHold L k lo (s + 1) f old new
  bands_more s g h r w =
      bands_join {mid = s} g (omega arith) r
      (record {
        long = w.long;
        inside = λ x t. let q : x.0 ≡ s = omega arith in rw q (w.inside x.1 (rw q at t.0));
        outside = λ j n. w.outside j (λ e t. n (s, e) (t, omega arith, omega arith));
      })

  -- the other levels stay
  pub bands_keep : (i : ℕ) {hi : ℕ} {old new : List ℕ} → (i ≡ k → ⊥) → BandsHold L k lo hi f old new
      → (s e : ℕ) → SpanIn L s e → at new (place L i s e) ≡ at old (place L i s e)
  bands_keep i other r s e v =
      r.outside (place L i s e) (λ x t q. other (place_same fits i k s x.0 e x.1 v t.0 q).0)

-- one more band is copied from the level below, which no band copied before has changed
pub copied_more : {L : Layout} → Fits L → (k lo s : ℕ) (old between new : List ℕ) → lo ≤ s → s < L.points
    → BandsHold L (k + 1) lo s (λ a. along old (band L k a)) old between
    → HoldsAlong (place L (k + 1) s) s L.points (along between (band L k s)) between new
    → BandsHold L (k + 1) lo (s + 1) (λ a. along old (band L k a)) old new
copied_more {L} fits k lo s old between new g h r w =
    bands_more fits (k + 1) _ s g h r (holds_as (λ e. bands_keep fits (k + 1) (λ a. along old (band L k a)) k (λ z. omega arith) r s e) w)

-- one job more may be said in another way
module _ {J K : OneMore} (same : J ≡ K) {table : List ℕ} where
  pub fillable_as : Fillable K table → Fillable J table
  fillable_as f = rw same f

  pub added_as : {new : List ℕ} → BandsAdded J J.shape.points table new → BandsAdded K K.shape.points table new
  added_as f = rw same at f

-- a span of the level below has a place, and what stands there is small
pub record SpanThere (J : OneMore) (table : List ℕ) (s e : ℕ) : Type 0 where
  pub begun : s < length J.begins
  pub there : place (layout_for J) J.job s e < length table
  pub small : at table (place (layout_for J) J.job s e) ≤ most_none

-- bands of the next level leave the level below
module _ {J : OneMore} {old : List ℕ} (f : Fillable J old) where
  pub copyable : Copyable (layout_for J) (length J.begins) J.job old
  copyable = record { fits = f.fits; bands = f.bands; room = f.room }

  -- what stands for a span of the level below
  pub span_there : (s e : ℕ) → SpanIn (layout_for J) s e → SpanThere J old s e
  span_there s e v = record {
    begun = omega (arith, f.bands);
    there = omega (arith, f.room, place_below f.fits (J.job + 1) J.job s e (omega arith) v);
    small = omega (arith, f.small_none, f.small s e v);
  }

  pub next_there : J.job + 1 < length old
  next_there = omega (arith, f.room, levels_below f.fits (J.job + 1) (omega (arith, f.before_end)))

  pub released_before_end : J.release + 1 < J.shape.points
  released_before_end = omega (arith, f.window, f.before_end)

  pub fillable_kept : (new : List ℕ) → length new ≡ length old
      → ((s e : ℕ) → SpanIn (layout_for J) s e → at new (place (layout_for J) J.job s e) ≡ at old (place (layout_for J) J.job s e))
      → Fillable J new
  fillable_kept new long kept = record {
    fits = f.fits;
    small_none = f.small_none;
    bands = f.bands;
    marked = f.marked;
    window = f.window;
    before_end = f.before_end;
    room = omega (arith, f.room);
    small = λ s e v. omega (arith, kept s e v, f.small s e v);
  }

  pub added_kept : (hi : ℕ) (new : List ℕ) → BandsAdded J hi old new
      → (s e : ℕ) → SpanIn (layout_for J) s e → at new (place (layout_for J) J.job s e) ≡ at old (place (layout_for J) J.job s e)
  added_kept hi new = bands_keep f.fits (J.job + 1) (value_with J old) J.job (λ q. omega arith)

  pub fillable_added : (hi : ℕ) (new : List ℕ) → BandsAdded J hi old new → Fillable J new
  fillable_added hi new r = fillable_kept new r.long (added_kept hi new r)

  -- one more band is added
  pub added_more : (s : ℕ) (between new : List ℕ) → s < J.shape.points → BandsAdded J s old between → BandAdded J s between new
      → BandsAdded J (s + 1) old new
  added_more s between new h r w =
      bands_more f.fits (J.job + 1) (value_with J old) s (omega arith) h r (holds_as (value_with_same J between old (added_kept s between r) s) w)

  -- the band from s is copied up to the job's release
  module _ (s : ℕ) (between : List ℕ) (h : s ≤ J.release)
      (copied : HoldsAlong (place (layout_for J) (J.job + 1) s) s (J.release + 1) (along old (band (layout_for J) J.job s)) old between) where
    copy_kept : (a e : ℕ) → SpanIn (layout_for J) a e
        → at between (place (layout_for J) J.job a e) ≡ at old (place (layout_for J) J.job a e)
    copy_kept a e v =
        copied.outside (place (layout_for J) J.job a e)
        (λ x t q. omega (arith, (place_same f.fits J.job (J.job + 1) a s e x v (t.0, omega (arith, t.1, released_before_end)) q).0))

    pub fillable_copied : Fillable J between
    fillable_copied = fillable_kept between copied.long copy_kept

    -- and after it sums made over the copy are unloaded
    pub band_added : {none sums new : List ℕ} → HoldsAlong itself (J.release + 1) J.shape.points (value_with J between s) none sums
        → HoldsAlong (place (layout_for J) (J.job + 1) s) (J.release + 1) J.shape.points (at sums) between new → BandAdded J s old new
    band_added made unloaded =
        along_join {mid = J.release + 1} (λ x y l u q. omega arith) (omega arith) (omega (arith, released_before_end))
        (holds_as (λ e b. price_read J old s e ∙ sym (value_out (one_job J old) 0 s e (λ i. omega (arith, i.1, b.1)))) copied)
        (holds_as (λ e b. made.inside e b ∙ value_with_same J between old copy_kept s e (omega (arith, b.0), b.1)) unloaded)

  -- bands that begin after the job's release are those of the level below
  pub rest_copied : (lo : ℕ) (between new : List ℕ) → J.release < lo → lo ≤ J.shape.points → BandsAdded J lo old between
      → BandsHold (layout_for J) (J.job + 1) lo J.shape.points (λ s. along between (band (layout_for J) J.job s)) between new
      → BandsAdded J J.shape.points old new
  rest_copied lo between new h l r w =
      bands_join f.fits (J.job + 1) (value_with J old) (omega arith) l r
      (holds_as
      (λ x t.
      added_kept lo between r x.0 x.1 t.0 ∙ price_read J old x.0 x.1
      ∙ sym (value_out (one_job J old) 0 x.0 x.1 (λ i. omega (arith, i.0, t.1))))
      w)

pub posed_fewer : {P : Problem} {G : Lent} {n : ℕ} → Posed P G n → (m : ℕ) → m ≤ n → Posed P G m
posed_fewer posed m h = record {
  none = posed.none;
  release = λ k l. posed.release k (omega arith);
  deadline = λ k l. posed.deadline k (omega arith);
  marked = λ k t l. posed.marked k t (omega arith);
  unmarked = λ k t l. posed.unmarked k t (omega arith);
}

-- fewer jobs are prepared too
pub prepared_fewer : {G : Lent} {n : ℕ} → Prepared G n → (m : ℕ) → m ≤ n → Prepared G m
prepared_fewer p m h = record {
  fits = p.fits;
  small_none = p.small_none;
  bands = p.bands;
  releases = omega (arith, p.releases);
  deadlines = omega (arith, p.deadlines);
  marked = p.marked;
  window = λ k l. p.window k (omega arith);
  before_end = λ k l. p.before_end k (omega arith);
}

-- so that a table filled up to k jobs takes the next
pub fillable_next : {G : Lent} {n k : ℕ} {old new : List ℕ} → Prepared G n → places_for (layout_of G) n ≤ length old → Filled G k old new
    → k < n → Fillable (more_of G k) new
fillable_next {G} {n} {k} p room f h = record {
  fits = p.fits;
  small_none = p.small_none;
  bands = p.bands;
  marked = p.marked;
  window = p.window k h;
  before_end = p.before_end k h;
  room = omega (arith, f.changed.long, places_more (layout_of G) (k + 1) n (omega arith));
  small = f.small k (omega arith);
}

module _ (G : Lent) where
  pub filled_none : (old : List ℕ) → Small (layout_of G) G.shape.none 0 old → Filled G 0 old old
  filled_none old small = record {
    changed = record { long = refl; inside = λ i h. tt; outside = λ j n. refl };
    small = λ i h. let z : i ≡ 0 = omega arith in rw z small;
    values = λ P posed priced i h s e v. let z : i ≡ 0 = omega arith in rw z (priced s e v ∙ sym (value_zero P s e));
  }

  -- a level more
  module _ (k : ℕ) (old between new : List ℕ) (f : Filled G k old between) (able : Fillable (more_of G k) between)
      (r : BandsAdded (more_of G k) G.shape.points between new) where
    other_kept : (i : ℕ) → i ≤ k → (s e : ℕ) → SpanIn (layout_of G) s e
        → at new (place (layout_of G) i s e) ≡ at between (place (layout_of G) i s e)
    other_kept i h =
        bands_keep able.fits (k + 1) (value_with (more_of G k) between) i (λ q. omega arith) r

    next_level : (P : Problem) → Posed P G (k + 1) → PricesHeld P (layout_of G) old → ValuesHeld P (layout_of G) (k + 1) new
    next_level P posed priced s e v =
        r.inside (s, e) (v, omega arith, omega arith)
        ∙ rw add-one
        (value_with_posed G between k posed (omega arith) (f.values P (posed_fewer posed k (omega arith)) priced k (omega arith)) s e v)

    pub filled_more : Filled G (k + 1) old new
    filled_more = record {
      changed = record {
        long = r.long ∙ f.changed.long;
        inside = λ i h. tt;
        outside = λ j n.
            r.outside j (λ x t. n (span_place (layout_of G) (k + 1) x) (place_below able.fits (k + 1) (k + 1) x.0 x.1 (omega arith) t.0))
            ∙ f.changed.outside j (λ i h. n i (omega (arith, places_more (layout_of G) k (k + 1) (omega arith))));
      };
      small = λ i h. on_eq i (k + 1)
          (λ q s e v. rw q (omega (
            arith,
            r.inside (s, e) (v, omega arith, omega arith),
            value_with_small (more_of G k) between able.small s e v,
          )))
          (λ q s e v. omega (arith, other_kept i (omega arith) s e v, f.small i (omega arith) s e v));
      values = λ P posed priced i h. on_eq i (k + 1)
          (λ q s e v. rw q (next_level P posed priced s e v))
          (λ q s e v. other_kept i (omega arith) s e v
          ∙ f.values P (posed_fewer posed k (omega arith)) priced i (omega arith) s e v);
    }
