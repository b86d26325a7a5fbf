-- What reads and writes do to the bytes that a source has left and a target holds, where those are known.
use Rattle.std.specs.Prelude.{ℕ, ◌<◌, ⊤, List, length, take, Option, Result, Ok, Err}
use Rattle.std.specs.Io.KnownBytes.{Appends, Consumes, IsAtEnd, ReadConsumes, WriteAppends}
use Rattle.std.specs.declared.io.Error.{Error}

-- a read puts the bytes that come next at the start of the room, and takes no others; none come only at the end
abbrev pub Reads : Option (List ℕ) → Option (List ℕ) → List ℕ → Result ℕ Error → Type 0
Reads old new room came = ReadConsumes old new came room

-- a whole input is what comes next, as far as the source's end or the file's
abbrev pub ReadsWhole : Option (List ℕ) → Option (List ℕ) → List ℕ → Result ℕ Error → Type 0
ReadsWhole old new file (Ok n) = Consumes old new (take n file) × (n < length file → IsAtEnd new)
ReadsWhole old new file (Err e) = Unit {0}

-- a write adds the first bytes of the text, and no others
abbrev pub Writes : Option (List ℕ) → Option (List ℕ) → List ℕ → Result ℕ Error → Type 0
Writes old new text came = WriteAppends old new came text

-- a text that is not lost was added once, from its first byte to its last
abbrev pub WritesWhole : Option (List ℕ) → Option (List ℕ) → List ℕ → Result ⊤ Error → Type 0
WritesWhole old new text (Ok _) = Appends old new text
WritesWhole old new text (Err e) = Unit {0}
