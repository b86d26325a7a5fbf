-- Examples of reading and writing a day file and of what the program prints of one, with document 01's own numbers and bytes.
use Rattle.std.specs.Prelude.{ℕ, ◌-◌, List, [], ◌∷◌, ◌++◌, length, drop, replicate}
use Prim.Native.Char.{code}
use Prim.Native.String.{String, [] as no_text, ◌∷◌ as ◌and-text◌}
use Rattle.checks.specs.declared.Answer.{Answer}
use Rattle.day.specs.declared.Day.{Day}
use Rattle.dayfile.specs.declared.reader.Reading.{Reading}
use Rattle.dayfile.specs.Reader.{ReadPromise}
use Rattle.filewriter.specs.Writer.{WritePromise}
use Rattle.report.specs.Outcome.{Outcome}
use Rattle.text.specs.declared.Text.{Text}
use Rattle.report.specs.File.{FilePromise, ReportPromise}
use Rattle.demands.specs.ExamplesTable.{answer_of, ◌gives◌, Table, day_with, releases_of, deadlines_of, P8}
use Rattle.demands.specs.ExamplesOfLedger.{counts_of}

-- P8 with L 3, without notes: its rows, and its trailer
abbrev pub p8_rows : List ℕ
p8_rows = 0x00 ∷ 0x00 ∷ 0x01 ∷ 0x00 ∷ 0x02 ∷ 0x00 ∷ 0x08 ∷ 0x00 ∷ 0x09 ∷ 0x00 ∷ 0x0A ∷ 0x00 ∷ []

abbrev pub p8_file : List ℕ
p8_file = p8_rows ++ (0x03 ∷ 0x00 ∷ 0x0A ∷ 0x00 ∷ 0x03 ∷ 0x00 ∷ 0x16 ∷ 0x00 ∷ 0x50 ∷ 0x4C ∷ [])

-- P1, and P3 with L 5

abbrev pub p1_file : List ℕ
p1_file = 0 ∷ 0 ∷ 1 ∷ 0 ∷ 5 ∷ 0 ∷ 10 ∷ 0 ∷ 80 ∷ 76 ∷ []

abbrev pub p3_file : List ℕ
p3_file = 0 ∷ 0 ∷ 1 ∷ 0 ∷ 0 ∷ 0 ∷ 1 ∷ 0 ∷ 2 ∷ 0 ∷ 1 ∷ 0 ∷ 5 ∷ 0 ∷ 18 ∷ 0 ∷ 80 ∷ 76 ∷ []

-- a file is read into a list of rows
pub record FileRead : Type 0 where
  pub file : List ℕ
  pub jobs : List (ℕ × ℕ)

abbrev pub read_of : List ℕ → List (ℕ × ℕ) → FileRead
read_of file jobs = record { file = file; jobs = jobs }

-- what is read, with releases and deadlines afterwards
abbrev pub ReadsTo : FileRead → Reading × List ℕ × List ℕ → Type 0
ReadsTo r after = ReadPromise r.file (releases_of r.jobs) (deadlines_of r.jobs) after.0 after.1 after.2

-- n, T, L, and the rows afterwards
abbrev pub says_rows : ℕ → ℕ → ℕ → List (ℕ × ℕ) → Reading × List ℕ × List ℕ
says_rows n slots wake jobs =
    (record { answer = answer_of 0 0 0; count = n; day = day_with slots wake }, releases_of jobs, deadlines_of jobs)

-- a refusal gives n 0, T 0 and L 0, and leaves the rows as they were
abbrev pub unread : List ℕ → List (ℕ × ℕ) → ℕ → FileRead × (Reading × List ℕ × List ℕ)
unread file jobs code =
    read_of file jobs
    gives (record { answer = answer_of code 0 0; count = 0; day = day_with 0 0 }, releases_of jobs, deadlines_of jobs)

unfoldable pub read_examples : List (FileRead × (Reading × List ℕ × List ℕ))
read_examples =
    -- the first n rows are filled, and nothing more; notes come first; without rows; T and L are not judged
    read_of p8_file (replicate 3 (7, 7)) gives says_rows 3 10 3 P8
    ∷ read_of (1 ∷ 2 ∷ p8_file) (replicate 5 (7, 7)) gives says_rows 3 10 3 (P8 ++ ((7, 7) ∷ (7, 7) ∷ []))
    ∷ read_of p1_file [] gives says_rows 0 1 5 []
    ∷ read_of (0 ∷ 0 ∷ 255 ∷ 255 ∷ 255 ∷ 255 ∷ 10 ∷ 0 ∷ 80 ∷ 76 ∷ []) [] gives says_rows 0 65535 65535 []
    -- 9 bytes are too short; 10 are not, and their mark is wrong
    ∷ unread [] [] 8
    ∷ unread (replicate 9 0) [] 8
    ∷ unread (replicate 10 0) [] 9
    -- wrong mark, also with too many rows
    ∷ unread (41 ∷ 0 ∷ 10 ∷ 0 ∷ 3 ∷ 0 ∷ 174 ∷ 0 ∷ 76 ∷ 80 ∷ []) [] 9
    -- 41 rows, also with a wrong distance; 40 are not too many, and the file is cut
    ∷ unread (41 ∷ 0 ∷ 10 ∷ 0 ∷ 3 ∷ 0 ∷ 174 ∷ 0 ∷ 80 ∷ 76 ∷ []) [] 3
    ∷ unread (41 ∷ 0 ∷ 10 ∷ 0 ∷ 3 ∷ 0 ∷ 10 ∷ 0 ∷ 80 ∷ 76 ∷ []) [] 3
    ∷ unread (40 ∷ 0 ∷ 10 ∷ 0 ∷ 3 ∷ 0 ∷ 170 ∷ 0 ∷ 80 ∷ 76 ∷ []) [] 11
    -- distance back 23, which is more than the file has
    ∷ unread (p8_rows ++ (3 ∷ 0 ∷ 10 ∷ 0 ∷ 3 ∷ 0 ∷ 23 ∷ 0 ∷ 80 ∷ 76 ∷ [])) (replicate 3 (7, 7)) 10
    -- a byte of the first row is missing, also where there is no room
    ∷ unread (drop 1 p8_file) (replicate 3 (7, 7)) 11
    ∷ unread (drop 1 p8_file) [] 11
    -- room for 2 rows
    ∷ unread p8_file (replicate 2 (7, 7)) 12
    ∷ []

abbrev pub ReadExamplesHold : Type 0
ReadExamplesHold = Table ReadsTo read_examples

-- rows are written after so many bytes of a buffer
pub record FileWritten : Type 0 where
  pub notes : ℕ
  pub jobs : List (ℕ × ℕ)
  pub day : Day
  pub buffer : List ℕ

-- notes, rows, T, L, and the buffer
abbrev pub written_of : ℕ → List (ℕ × ℕ) → ℕ → ℕ → List ℕ → FileWritten
written_of notes jobs slots wake buffer = record { notes = notes; jobs = jobs; day = day_with slots wake; buffer = buffer }

-- the answer, with the buffer afterwards
abbrev pub WritesTo : FileWritten → Answer × List ℕ → Type 0
WritesTo w after =
    WritePromise w.notes w.day (releases_of w.jobs) (deadlines_of w.jobs) w.buffer after.0 after.1

unfoldable pub written_examples : List (FileWritten × (Answer × List ℕ))
written_examples =
    -- all of the buffer, or a part after two bytes of notes
    written_of 0 P8 10 3 (replicate 22 7) gives (answer_of 0 0 0, p8_file)
    ∷ written_of 2 P8 10 3 (replicate 25 7) gives (answer_of 0 0 0, 7 ∷ 7 ∷ p8_file ++ (7 ∷ []))
    -- T and L are not judged
    ∷ written_of 0 [] 0 65535 (replicate 10 7) gives (answer_of 0 0 0, 0 ∷ 0 ∷ 0 ∷ 0 ∷ 255 ∷ 255 ∷ 10 ∷ 0 ∷ 80 ∷ 76 ∷ [])
    -- a byte too few, by the rows or by the notes
    ∷ written_of 0 P8 10 3 (replicate 21 7) gives (answer_of 13 0 0, replicate 21 7)
    ∷ written_of 1 P8 10 3 (replicate 22 7) gives (answer_of 13 0 0, replicate 22 7)
    -- 41 rows, also where there is no room; 40 are not too many
    ∷ written_of 0 (replicate 41 (0, 1)) 1 5 [] gives (answer_of 3 0 0, [])
    ∷ written_of 0 (replicate 40 (0, 1)) 1 5 [] gives (answer_of 13 0 0, [])
    ∷ []

abbrev pub WrittenExamplesHold : Type 0
WrittenExamplesHold = Table WritesTo written_examples

-- a file is planned, with lent starts and a lent work table
pub record FilePlan : Type 0 where
  pub file : List ℕ
  pub starts : List ℕ
  pub table : List ℕ

abbrev pub file_plan : List ℕ → List ℕ → List ℕ → FilePlan
file_plan file starts table = record { file = file; starts = starts; table = table }

-- what planning the file gives, with starts and table afterwards
abbrev pub ReportsTo : FilePlan → Outcome × List ℕ × List ℕ → Type 0
ReportsTo p after = FilePromise p.file p.starts p.table after.0 after.1 after.2

-- a refusal has no rows and no counts, and leaves both lists as they were
abbrev pub unplanned : List ℕ → List ℕ → List ℕ → ℕ → FilePlan × (Outcome × List ℕ × List ℕ)
unplanned file starts table code =
    file_plan file starts table
    gives (record { answer = answer_of code 0 0; count = 0; counts = counts_of 0 0 0 0 0 }, starts, table)

unfoldable pub reported_examples : List (FilePlan × (Outcome × List ℕ × List ℕ))
reported_examples =
    -- P8 with L 3: cost 4, three rows, the ledger, the starts before what stood after them, and the table set to zero
    file_plan p8_file (9 ∷ 9 ∷ 9 ∷ 9 ∷ []) (replicate 677 9)
    gives (
      record { answer = answer_of 0 4 0; count = 3; counts = counts_of 0 3 1 6 0 },
      0 ∷ 7 ∷ 9 ∷ 9 ∷ [],
      replicate 676 0 ++ (9 ∷ []),
    )
    -- the reader's codes, then the planner's; a file may have any length
    ∷ unplanned [] [] [] 8
    ∷ unplanned (replicate 4097 0) [] [] 9
    ∷ unplanned (0 ∷ 0 ∷ 97 ∷ 0 ∷ 5 ∷ 0 ∷ 10 ∷ 0 ∷ 80 ∷ 76 ∷ []) [] [] 1
    ∷ unplanned p1_file [] (replicate 15 9) 6
    -- P3: no plan, and the table set to zero
    ∷ file_plan p3_file (9 ∷ 9 ∷ []) (replicate 49 9)
    gives (
      record { answer = answer_of 7 0 0; count = 0; counts = counts_of 0 0 0 0 0 },
      9 ∷ 9 ∷ [],
      replicate 48 0 ++ (9 ∷ []),
    )
    ∷ []

abbrev pub ReportedExamplesHold : Type 0
ReportedExamplesHold = Table ReportsTo reported_examples

-- the bytes of a text of plain letters
unfoldable pub bytes_in : String → List ℕ
bytes_in no_text = []
bytes_in (letter and-text text) = code letter ∷ bytes_in text

-- the text, and zeros after it
abbrev pub text_of : String → Text
text_of text = record { bytes = bytes_in text ++ replicate (512 - length (bytes_in text)) 0; len = length (bytes_in text) }

-- the text for a file that is planned in a table of so many places, each 0, and the table afterwards
abbrev pub PrintsAs : List ℕ × ℕ → Text × List ℕ → Type 0
PrintsAs lent after = ReportPromise lent.0 (replicate lent.1 0) after.0 after.1

-- a file, the places of the table, and what is printed; the table is zero again
abbrev pub prints : List ℕ → ℕ → String → (List ℕ × ℕ) × (Text × List ℕ)
prints file places text = (file, places) gives (text_of text, replicate places 0)

unfoldable pub printed_examples : List ((List ℕ × ℕ) × (Text × List ℕ))
printed_examples =
    -- the program's table has 30,625 places
    prints p8_file 30625 "plan 0 4\n1 0\n2 7\n3 9\nslots 0 3 1 6 0\n"
    ∷ prints p1_file 16 "plan 0 0\nslots 1 0 0 0 0\n"
    -- under a refusal only the first line appears
    ∷ prints p1_file 15 "plan 6 0\n"
    ∷ prints p3_file 48 "plan 7 0\n"
    ∷ prints (0 ∷ 0 ∷ 7 ∷ 0 ∷ 1 ∷ 0 ∷ 6 ∷ 0 ∷ 5 ∷ 0 ∷ 14 ∷ 0 ∷ 80 ∷ 76 ∷ []) 162 "plan 4 1\n"
    ∷ prints [] 16 "plan 8 0\n"
    -- 4,097 bytes come before all others; 4,096 are not too many, and their mark is wrong
    ∷ prints (replicate 4097 0) 16 "plan 17 0\n"
    ∷ prints (replicate 4096 0) 16 "plan 9 0\n"
    ∷ []

abbrev pub PrintedExamplesHold : Type 0
PrintedExamplesHold = Table PrintsAs printed_examples
