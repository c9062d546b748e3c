-- Records, and the lines that hold them (Intel, "Hexadecimal Object File Format Specification",
-- Revision A, 1988: "General Record Format").
use Rattle.std.specs.Prelude.{◌≡◌, ℕ, ◌+◌, ◌-◌, ◌*◌, ◌/◌, ◌%◌, ◌==◌, if◌then◌else◌, List, [], ◌∷◌, ◌++◌, length, sum, slice_index, slice_range, Option, Some, None, option_and_then, Result, Ok, Err, Vec}
use Rattle.std.specs.declared.alloc.Global.{Global}
use Rattle.std.specs.Str.Lines.{strip_carriage_return}
use Rattle.hex.specs.Hex.{decode_of, encode_upper}
use Rattle.hex.specs.declared.error.FromHexError.{FromHexError}
use Rattle.hex_image.specs.declared.records.Record.{Record}

-- what a record says: its type, the address that it loads at, and its data bytes
pub record PlainRecord : Type 0 where
  pub kind : ℕ
  pub address : ℕ
  pub content : List ℕ

abbrev pub plain_record : Record → PlainRecord
plain_record r = record { kind = r.kind; address = r.address; content = r.bytes.now }

-- the bytes of a record but for the last: the number of data bytes (RECLEN), the address, high byte
-- first (LOAD OFFSET), the type (RECTYP) and the data (INFO)
abbrev pub unchecked_bytes : PlainRecord → List ℕ
unchecked_bytes r = length r.content ∷ r.address / 256 ∷ r.address % 256 ∷ r.kind ∷ r.content

-- the check byte (CHKSUM): the two's complement of the sum of the others
abbrev pub check_byte : List ℕ → ℕ
check_byte bytes = (256 - sum bytes % 256) % 256

-- all bytes of a record
abbrev pub record_bytes : PlainRecord → List ℕ
record_bytes r = unchecked_bytes r ++ check_byte (unchecked_bytes r) ∷ []

-- the line of a record as it is written: a colon, each byte as two digits in upper case, a newline
unfoldable pub line_of : PlainRecord → List ℕ
line_of r = 58 ∷ encode_upper (record_bytes r) ++ 10 ∷ []

-- bytes are those of a record if there are five more than the first one counts
abbrev pub HasLength : List ℕ → Type 0
HasLength bytes = length bytes ≡ slice_index bytes 0 + 5

abbrev pub IsWhole : Vec ℕ Global → Type 0
IsWhole bytes = HasLength bytes.items

abbrev pub whole : List ℕ → Option (List ℕ)
whole bytes = if length bytes == slice_index bytes 0 + 5 then Some bytes else None

abbrev pub whole_decoded : Result (List ℕ) FromHexError → Option (List ℕ)
whole_decoded (Ok bytes) = whole bytes
whole_decoded (Err e) = None

-- what stands behind the colon that a line begins with
abbrev pub digits_behind : List ℕ → Option (List ℕ)
digits_behind [] = None
digits_behind (c ∷ digits) = if c == 58 then Some digits else None

-- the bytes of the record in a line that a newline ended, where it has the shape of one: a colon, and the
-- digits of the bytes, in either case. A carriage return may stand before the newline
unfoldable pub bytes_in : List ℕ → Option (List ℕ)
bytes_in line = option_and_then (λ digits. whole_decoded (decode_of digits)) (digits_behind (strip_carriage_return line))

-- what the record of these bytes says
unfoldable pub record_in : List ℕ → PlainRecord
record_in bytes =
    record {
      kind = slice_index bytes 3;
      address = 256 * slice_index bytes 1 + slice_index bytes 2;
      content = slice_range bytes 4 (length bytes - 1);
    }
