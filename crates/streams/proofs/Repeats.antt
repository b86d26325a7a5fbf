-- What a repeated call did, seen from before the calls that were interrupted. Assumes nothing.
use Rattle.std.proofs.Common.{ℕ, ◌+◌, ◌<◌, ◌≤◌, List, refl, length, take, Option, None, Some, Result, Ok, Err, MutBor}
use Rattle.std.specs.Result.{IsErrAnd}
use Rattle.std.specs.Fn.{Shared}
use Rattle.std.specs.declared.io.Error.{Error}
use Rattle.streams.specs.Calls.{Follows, moved, failure, IsInterruption}
use Rattle.streams.specs.Calls as calls
use Rattle.streams.specs.Known.{Reads, Writes}
use Rattle.streams.specs.steps.Repeats.{Repeats, over, again, Gives}
use Rattle.streams.specs.steps.Room.{Within}
use Rattle.streams.proofs.Known.{keeps_on, kept_consumes, kept_appends}

pub gives : {F S : Type 0} {g : Shared F (MutBor S × (MutBor (List ℕ) × Unit {0})) (Result ℕ Error × (MutBor S × (MutBor (List ℕ) × Unit {0})))} {f : F}
    (stream left : MutBor S) (room rest : MutBor (List ℕ)) (answer : Result ℕ Error) → g.post f (stream, (room, tt)) (answer, (left, (rest, tt)))
    → Gives g f (stream.now, room.now) answer (left.now, rest.now)
gives stream left room rest answer met =
    record { stream = stream; room = room; shows = (refl, refl); left = (left, (rest, tt)); met = met; leaves = (refl, refl) }

-- only an interrupted call is made again
pub made_again : (answer : Result ℕ Error) (retries : ℕ) → IsErrAnd answer IsInterruption → retries < 1000 → Follows retries answer None
made_again (Ok n) retries i h = absurd i
made_again (Err e) retries i h = calls.again e i h

-- any other call is over
pub is_over : (answer : Result ℕ Error) (retries : ℕ) → (IsErrAnd answer IsInterruption → 1000 ≤ retries) → Follows retries answer (Some answer)
is_over (Ok n) retries h = moved n
is_over (Err e) retries h = failure e h

-- if a call after an interrupted one did what a single call does, so did they all
pub repeats_once : {A : Type 0} (Does Did : A → Result ℕ Error → A → Type 0)
    → ((a b : A) (came : Result ℕ Error) → Does a came b → Did a came b)
    → ((a b c : A) (e : Error) (came : Result ℕ Error) → Did a (Err e) b → Did b came c → Did a came c) → (retries : ℕ) (before after : A)
    (came : Result ℕ Error) → Repeats Does retries before came after → Did before came after
repeats_once Does Did one joins retries before after came (over r b a answer c does (moved n)) = one before after came does
repeats_once Does Did one joins retries before after came (over r b a answer c does (failure e h)) = one before after came does
repeats_once Does Did one joins retries before after came (again r b m a answer c does (calls.again e i h) rest) =
    joins before m after e came (one before m (Err e) does) (repeats_once Does Did one joins (r + 1) m after came rest)

-- what a read does to the stream and to the room
abbrev pub ReadGives : {R : Type 0} → (R → Option (List ℕ)) → R × List ℕ → Result ℕ Error → R × List ℕ → Type 0
ReadGives remaining before answer after =
    Reads (remaining before.0) (remaining after.0) after.1 answer × Within (length after.1) answer

pub reads_after : {R : Type 0} (remaining : R → Option (List ℕ)) (a b c : R × List ℕ) (e : Error) (came : Result ℕ Error)
    → ReadGives remaining a (Err e) b → ReadGives remaining b came c → ReadGives remaining a came c
reads_after remaining a b c e (Ok n) (kept, within) ((read, end), room) =
    ((kept_consumes (remaining a.0) (remaining b.0) (remaining c.0) (take n c.1) kept read, end), room)
reads_after remaining a b c e (Err f) (kept, within) (kept', room) = (keeps_on (remaining a.0) (remaining b.0) (remaining c.0) kept kept', room)

-- what a write of a text does to the stream
abbrev pub WriteGives : {W : Type 0} → (W → Option (List ℕ)) → List ℕ → W × List ℕ → Result ℕ Error → W × List ℕ → Type 0
WriteGives contents text before answer after = Writes (contents before.0) (contents after.0) text answer × Within (length text) answer

pub writes_after : {W : Type 0} (contents : W → Option (List ℕ)) (text : List ℕ) (a b c : W × List ℕ) (e : Error) (came : Result ℕ Error)
    → WriteGives contents text a (Err e) b → WriteGives contents text b came c → WriteGives contents text a came c
writes_after contents text a b c e (Ok n) (kept, within) (wrote, room) =
    (kept_appends (contents a.0) (contents b.0) (contents c.0) (take n text) kept wrote, room)
writes_after contents text a b c e (Err f) (kept, within) (kept', room) = (keeps_on (contents a.0) (contents b.0) (contents c.0) kept kept', room)
