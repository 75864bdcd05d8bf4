-- No part of what is promised: private contracts cite it. The bytes that a reader of `csv` over a text has yet to
-- read.
use Rattle.std.specs.Prelude.{◌≡◌, ℕ, ◌+◌, List, [], ◌∷◌, length, Option, Some, None}
use Rattle.std.specs.Borrow.{Bor}
use Rattle.csv.specs.Reading.{Ready, default_config, reader_config, reader_state, reader_trim, records_from, source_of}
use Rattle.csv.specs.declared.parser.State.{State}
use Rattle.csv.specs.declared.reader.Reader.{Reader}
use Rattle.csv.specs.declared.reader.Trim.TheVariants as trim
use Rattle.zone_lists.specs.Fields.{Record}

-- a reader of a text that lies in memory as a whole
abbrev pub TextReader : Type 0
TextReader = Reader (Bor (List ℕ))

-- the bytes that it has yet to read, unless it has failed
abbrev pub bytes_left : TextReader → Option (List ℕ)
bytes_left reader = source_of (λ bytes. Some bytes.now) reader

-- the records in these bytes
abbrev pub records_in : State → Option (List ℕ) → List Record
records_in state None = []
records_in state (Some bytes) = records_from default_config (length bytes + 1) state bytes

-- the records that a reader has yet to read
abbrev pub records_left : TextReader → List Record
records_left reader = records_in (reader_state reader) (bytes_left reader)

-- the next read of a reader reads one record, as it stands, in the format of RFC 4180
pub record ReadsRecords (reader : TextReader) : Type 0 where
  pub ready : Ready reader
  pub config : reader_config reader ≡ default_config
  pub untrimmed : reader_trim reader ≡ trim.None
  pub bytes : List ℕ
  pub left : bytes_left reader ≡ Some bytes

-- there is a record among these
abbrev pub IsMore : List Record → Type 0
IsMore records = (fields : Record) × (rest : List Record) × (records ≡ fields ∷ rest)
