-- What one read or write did to the bytes that are known, seen from before the ones that were interrupted. Assumes nothing.
use Rattle.std.proofs.Common.{rules, ◌≡◌, ℕ, zero, suc, ◌+◌, ◌-◌, ◌≤◌, List, ◌++◌, length, take, drop, ap, arith, Option, None, Some, Result, Ok, Err, append_assoc, ◌∙◌, length-take}
use Rattle.std.proofs.Math.Seq.{take-add, take-append-add}
use Rattle.std.proofs.lemmas.List.{take-append-le, take-take}
use Rattle.std.specs.Io.KnownBytes.{Appends, Consumes, Keeps}
use Rattle.std.specs.declared.io.Error.{Error}
use Rattle.streams.specs.Known.{Reads, Writes}
use Rattle.streams.specs.ReadStep.{after_read}
use Rattle.streams.specs.WriteStep.{after_write}
use Rattle.streams.specs.steps.Room.{Within}

pub keeps_on : (first second third : Option (List ℕ)) → Keeps first second → Keeps second third → Keeps first third
keeps_on None second third a b = tt
keeps_on (Some xs) None third a b = absurd a
keeps_on (Some xs) (Some ys) None a b = absurd b
keeps_on (Some xs) (Some ys) (Some zs) a b = cc

pub kept_consumes : (first second third : Option (List ℕ)) (bs : List ℕ) → Keeps first second → Consumes second third bs → Consumes first third bs
kept_consumes None second third bs a b = tt
kept_consumes (Some xs) None third bs a b = absurd a
kept_consumes (Some xs) (Some ys) None bs a b = absurd b
kept_consumes (Some xs) (Some ys) (Some zs) bs a b = cc

pub kept_appends : (first second third : Option (List ℕ)) (bs : List ℕ) → Keeps first second → Appends second third bs → Appends first third bs
kept_appends None second third bs a b = tt
kept_appends (Some xs) None third bs a b = absurd a
kept_appends (Some xs) (Some ys) None bs a b = absurd b
kept_appends (Some xs) (Some ys) (Some zs) bs a b = cc

-- two reads, one after the other
pub consumes_on : (first second third : Option (List ℕ)) (bs cs : List ℕ) → Consumes first second bs → Consumes second third cs
    → Consumes first third (bs ++ cs)
consumes_on None second third bs cs a b = tt
consumes_on (Some xs) None third bs cs a b = absurd a
consumes_on (Some xs) (Some ys) None bs cs a b = absurd b
consumes_on (Some xs) (Some ys) (Some zs) bs cs a b = rw append_assoc (rw b at a)

-- two writes, one after the other
pub appends_on : (first second third : Option (List ℕ)) (bs cs : List ℕ) → Appends first second bs → Appends second third cs
    → Appends first third (bs ++ cs)
appends_on None second third bs cs a b = tt
appends_on (Some xs) None third bs cs a b = absurd a
appends_on (Some xs) (Some ys) None bs cs a b = absurd b
appends_on (Some xs) (Some ys) (Some zs) bs cs a b = rw (← append_assoc) (rw a at b)

-- the first part of a list whose part from a place on is another
pub take-put : (at n : ℕ) (file room rest : List ℕ) → at ≤ length file → n ≤ length room
    → take (at + n) (take at file ++ (room ++ rest)) ≡ take at file ++ take n room
take-put at n file room rest a b =
    let l : length (take at file) ≡ at = simp length-take (omega arith) in
    rw l at (take-append-add (take at file) (room ++ rest) n) ∙ ap (λ (ys : List ℕ). take at file ++ ys) (take-append-le n room rest b)

-- a read that goes on adds what comes next to what came before
pub reads_on : (first old new : Option (List ℕ)) (at next : ℕ) (came : Result ℕ Error) (file room rest : List ℕ) → at ≤ length file
    → after_read at came ≡ Ok (Some next) → Within (length room) came → Consumes first old (take at file) → Reads old new room came
    → Consumes first new (take next (take at file ++ (room ++ rest)))
reads_on first old new at next (Ok zero) file room rest a e w h r = absurd cc
reads_on first old new at next (Ok (suc n)) file room rest a e w h r =
    let same : next ≡ at + suc n = search rules in
    rw (same, take-put at (suc n) file room rest a w) (consumes_on first old new (take at file) (take (suc n) room) h r.0)
reads_on first old new at next (Err f) file room rest a e w h r = absurd cc

-- a write that goes on adds what comes next in the text
pub writes_on : (first old new : Option (List ℕ)) (at next : ℕ) (came : Result ℕ Error) (text : List ℕ) → after_write at came ≡ Some next
    → Within (length text - at) came → Appends first old (take at text) → Writes old new (take (length text - at) (drop at text)) came
    → Appends first new (take next text)
writes_on first old new at next (Ok zero) text e w h r = absurd cc
writes_on first old new at next (Ok (suc n)) text e w h r =
    let same : next ≡ at + suc n = search rules in
    let part : take (suc n) (take (length text - at) (drop at text)) ≡ take (suc n) (drop at text) = take-take (suc n) (length text - at) (drop at text) w in
    rw (same, take-add at (suc n) text) (appends_on first old new (take at text) (take (suc n) (drop at text)) h (rw part at r))
writes_on first old new at next (Err f) text e w h r = absurd cc
