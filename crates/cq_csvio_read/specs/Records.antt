-- Where the reader of `csv` stands in a file, and which of its records are left.
use Rattle.std.specs.Prelude.{ℕ, ◌+◌, ◌≡◌, Bool, true, false, List, [], ◌∷◌, length, Option, Some, unwrap_or}
use Rattle.std.specs.Borrow.{Bor}
use Rattle.csv.specs.Machine.{ends_at_end}
use Rattle.csv.specs.Reading.{Ready, default_config, is_flexible, reader_config, reader_state, reader_trim, records_from, source_of}
use Rattle.csv.specs.declared.parser.State.{State}
use Rattle.csv.specs.declared.reader.Reader.{Reader}
use Rattle.csv.specs.declared.reader.Trim.TheVariants as trim

-- a reader of bytes in memory
abbrev pub FileReader : Type 0
FileReader = Reader (Bor (List ℕ))

-- the bytes that it has left, unless it failed
abbrev pub source : FileReader → Option (List ℕ)
source reader = source_of (λ bytes. Some bytes.now) reader

abbrev pub bytes_left : FileReader → List ℕ
bytes_left reader = unwrap_or (source reader) []

-- the records of bytes, read on from a state
abbrev pub records_in : State → List ℕ → List (List (List ℕ))
records_in state bytes = records_from default_config (length bytes + 1) state bytes

-- the records that it has left
abbrev pub records_left : FileReader → List (List (List ℕ))
records_left reader = records_in (reader_state reader) (bytes_left reader)

-- bytes are left for it, and records of any width are read
abbrev pub HasBytes : FileReader → Type 0
HasBytes reader = (bytes : List ℕ) × (source reader ≡ Some bytes) × (is_flexible reader ≡ true)

-- it stands between two records, and reads on with commas and double quotes, records of any width
abbrev pub IsReading : FileReader → Type 0
IsReading reader =
    (reader_trim reader ≡ trim.None)
    × Ready reader
    × (reader_config reader ≡ default_config)
    × (ends_at_end (reader_state reader) ≡ false)
    × HasBytes reader

-- it took the first of the records that were left, or none was left
abbrev pub Takes : FileReader → FileReader → Bool → List (List ℕ) → Type 0
Takes old new true fields = IsReading new × (records_left old ≡ fields ∷ records_left new)
Takes old new false fields = records_left old ≡ []
