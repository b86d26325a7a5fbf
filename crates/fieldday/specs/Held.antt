-- The day held: its list, how it is judged, and the days that calls make.
use Rattle.std.specs.Prelude.{ℕ, ◌-◌, ◌<◌, List, [], ◌∷◌, ◌++◌, take, replicate}
use Rattle.day.specs.declared.Day.{Day}
use Rattle.day.specs.Windows.{Windows, windows, at}
use Rattle.day.specs.Joined.{joined}
use Rattle.checks.specs.declared.Answer.{Answer}
use Rattle.checks.specs.Answer.{day_over}
use Rattle.checks.specs.Refusal.{◌then◌, Refuses}
use Rattle.checks.specs.Check.{most_jobs, ListCheck}
use Rattle.claim.specs.Claim.{ClaimCheck, plan_cost}
use Rattle.fieldday.specs.declared.FieldDay.{FieldDay}
use Rattle.cutlist.specs.Cut.{raised, cut_list}

-- the list held: so many rows as are counted; what stands beyond them is no row
abbrev pub list_held : FieldDay → Windows
list_held f =
    record {
      count = f.count;
      release = at (take f.count f.releases);
      deadline = at (take f.count f.deadlines);
    }

-- what the plan held costs
abbrev pub held_cost : FieldDay → ℕ
held_cost f = plan_cost f.day (list_held f) f.starts

-- list and plan are judged as opening judges them, then the slot: code 20 for one above T
abbrev pub HeldCheck : FieldDay → Answer → Type 0
HeldCheck f =
    ClaimCheck (ListCheck f.day (list_held f)) (list_held f) f.starts
    then Refuses day_over (f.day.slots < f.slot)

-- the cut list of the list held
abbrev pub cut_held : FieldDay → Windows
cut_held f = cut_list f.slot (at f.starts) (list_held f)

-- a list of the one row
abbrev pub one_row : ℕ → ℕ → Windows
one_row release deadline = windows (release ∷ []) (deadline ∷ [])

-- the list held with a new row last, as it is given
abbrev pub held_with : FieldDay → ℕ → ℕ → Windows
held_with f release deadline = joined (list_held f) (one_row release deadline)

-- the cut list with the new row last; its release is raised too
abbrev pub cut_with : FieldDay → ℕ → ℕ → Windows
cut_with f release deadline = joined (cut_held f) (one_row (raised f.slot release) deadline)

-- the first n numbers of a list, and zeros in the places of a day held that are left
abbrev pub with_zeros : ℕ → List ℕ → List ℕ
with_zeros n numbers = take n numbers ++ replicate (most_jobs - n) 0

-- a day of n rows; the places beyond them are 0
abbrev pub day_of : Day → ℕ → ℕ → List ℕ → List ℕ → List ℕ → FieldDay
day_of day slot n releases deadlines starts =
    record {
      day = day;
      slot = slot;
      count = n;
      releases = with_zeros n releases;
      deadlines = with_zeros n deadlines;
      starts = with_zeros n starts;
    }

-- the list held, at a slot and with a plan
abbrev pub held_at : FieldDay → ℕ → List ℕ → FieldDay
held_at f slot starts = day_of f.day slot f.count f.releases f.deadlines starts

-- a day of all zeros
abbrev pub no_day : FieldDay
no_day = day_of (record { slots = 0; power = record { wake = 0 } }) 0 0 [] [] []
