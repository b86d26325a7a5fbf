-- What stands where in a day file: free notes, rows, the trailer.
use Rattle.std.specs.Prelude.{ℕ, zero, suc, ◌+◌, ◌*◌, ◌-◌, ◌≡◌, List, [], ◌∷◌, ◌++◌, length}
use Rattle.day.specs.declared.Day.{Day}
use Rattle.day.specs.Windows.{Windows, windows, at}
use Rattle.dayfile.specs.Bytes.{bytes_of, number_at}

-- a row is r then d
unfoldable pub row_bytes : ℕ → ℕ → List ℕ
row_bytes release deadline = bytes_of release ++ bytes_of deadline

-- the first n rows
unfoldable pub rows_bytes : Windows → ℕ → List ℕ
rows_bytes w zero = []
rows_bytes w (suc n) = rows_bytes w n ++ row_bytes (w.release n) (w.deadline n)

-- how far the first of n rows lies before the file's end
abbrev pub distance_back : ℕ → ℕ
distance_back n = 4 * n + 10

-- n, T, L, the distance back, and the mark
unfoldable pub trailer : ℕ → Day → List ℕ
trailer n day =
    bytes_of n
    ++ bytes_of day.slots
    ++ bytes_of day.power.wake
    ++ bytes_of (distance_back n)
    ++ (80 ∷ 76 ∷ [])

-- what follows the notes
unfoldable pub rows_and_trailer : Day → Windows → List ℕ
rows_and_trailer day w = rows_bytes w w.count ++ trailer w.count day

-- what a file of at least 10 bytes says in its trailer
abbrev pub count_in : List ℕ → ℕ
count_in file = number_at file (length file - 10)

abbrev pub slots_in : List ℕ → ℕ
slots_in file = number_at file (length file - 8)

abbrev pub wake_in : List ℕ → ℕ
wake_in file = number_at file (length file - 6)

abbrev pub distance_in : List ℕ → ℕ
distance_in file = number_at file (length file - 4)

abbrev pub HasMark : List ℕ → Type 0
HasMark file = (at file (length file - 2) ≡ 80) × (at file (length file - 1) ≡ 76)

-- the number of row i, counted from 0, that stands at a place of the first row
unfoldable pub number_in_row : List ℕ → ℕ → ℕ → ℕ
number_in_row file place i = number_at file (place + 4 * i)

-- what a file says in its rows
abbrev pub release_in : List ℕ → ℕ → ℕ
release_in file = number_in_row file (length file - distance_in file)

abbrev pub deadline_in : List ℕ → ℕ → ℕ
deadline_in file = number_in_row file (length file - distance_in file + 2)

-- the list of f 0 up to f (n - 1)
unfoldable pub listed : (ℕ → ℕ) → ℕ → List ℕ
listed f zero = []
listed f (suc n) = listed f n ++ (f n ∷ [])

-- the day and the rows of a file
abbrev pub file_day : List ℕ → Day
file_day file = record { slots = slots_in file; power = record { wake = wake_in file } }

abbrev pub file_windows : List ℕ → Windows
file_windows file = windows (listed (release_in file) (count_in file)) (listed (deadline_in file) (count_in file))
