-- What a text spells, and the first fault of a text that spells nothing.
use Rattle.std.specs.Prelude.{◌≡◌, ℕ, zero, suc, ◌+◌, ◌*◌, ◌%◌, ◌==◌, nat_le, min, Bool, false, not, ◌&&◌, ◌||◌, if◌then◌else◌, List, [], ◌∷◌, length, sum, slice_index, Option, Some, None, is_some}
use Rattle.std.specs.List.{slice_split}
use Rattle.std.specs.Option.{option_or}
use Rattle.std.specs.BTreeMap.{BTreeMap, get}
use Rattle.std.specs.Ordering.{nat_cmp}
use Rattle.rv32im.specs.Words.{half_of, word_of}
use Rattle.list_checks.specs.First.{◌or_else◌, unless}
use Rattle.hex_image.specs.Runs.{ByteMap, byte_from}
use Rattle.hex_image.specs.Records.{PlainRecord, bytes_in, record_in}
use Rattle.hex_image.specs.declared.fault.HexFault.{HexFault}
use Rattle.hex_image.specs.declared.reading.Reading.{Reading}
use Rattle.hex_image.specs.declared.fault.HexFault.TheVariants.{BadRecord, BadCheck, BadKind, Twice, NoEnd, Trailing}

abbrev pub is_newline : ℕ → Bool
is_newline byte = byte == 10

-- what stands before each newline, and what stands behind the last one
abbrev pub lines_of : List ℕ → List (List ℕ)
lines_of text = slice_split is_newline text

-- the number of the line behind line `line`; numbers stop at 2 ^ 32 - 1
abbrev pub next_line : ℕ → ℕ
next_line line = min (line + 1) 4294967295

-- what the records of a text say so far: the address that data addresses count from, the bytes that
-- were given, and the entry
pub record Contents : Type 0 where
  pub base : ℕ
  pub given : ByteMap
  pub entry : Option ℕ

abbrev pub nothing_read : Contents
nothing_read = record { base = 0; given = λ address. None; entry = None }

-- the address of a record's first data byte
abbrev pub data_start : Contents → PlainRecord → ℕ
data_start c r = c.base + r.address

-- what the records say after one more
abbrev pub after_record : Contents → PlainRecord → Contents
after_record c r =
    if r.kind == 0 then record c { given = λ address. option_or (c.given address) (byte_from (data_start c r) r.content address) }
    else if r.kind == 4 then record c { base = 65536 * half_of (slice_index r.content 1) (slice_index r.content 0) }
    else if r.kind == 5 then
    record c { entry = Some (word_of (slice_index r.content 3) (slice_index r.content 2) (slice_index r.content 1) (slice_index r.content 0)) }
    else c

-- the same of a line's bytes; a line without a record says nothing
unfoldable pub after_line : Contents → Option (List ℕ) → Contents
after_line c None = c
after_line c (Some bytes) = after_record c (record_in bytes)

abbrev pub contents_from : Contents → List (List ℕ) → Contents
contents_from c [] = c
contents_from c (line ∷ lines) = contents_from (after_line c (bytes_in line)) lines

-- all bytes of a record make 0, modulo 256
abbrev pub check_fault : ℕ → List ℕ → Option HexFault
check_fault line bytes = unless (sum bytes % 256 == 0) (BadCheck line)

-- the types are 00 data, 01 end of file, 04 extended linear address and 05 start linear address
abbrev pub kind_fault : ℕ → PlainRecord → Option HexFault
kind_fault line r = unless ((r.kind == 0) || (r.kind == 1) || (r.kind == 4) || (r.kind == 5)) (BadKind line r.kind)

-- how many data bytes a record has that is of another type than 00
abbrev pub data_size : ℕ → ℕ
data_size kind = if kind == 4 then 2 else if kind == 5 then 4 else 0

-- data stays within its 2 ^ 16 bytes; other types have one length, and address 0
abbrev pub has_fields : PlainRecord → Bool
has_fields r =
    if r.kind == 0 then nat_le (r.address + length r.content) 65536
    else (r.address == 0) && (length r.content == data_size r.kind)

abbrev pub fields_fault : ℕ → PlainRecord → Option HexFault
fields_fault line r = unless (has_fields r) (BadRecord line)

-- one of the `count` addresses from `first` on has a byte
abbrev pub any_given : ByteMap → ℕ → ℕ → Bool
any_given given first zero = false
any_given given first (suc count) = any_given given first count || is_some (given (first + count))

-- no record gives an address that an earlier one gave
abbrev pub twice_fault : ℕ → Contents → PlainRecord → Option HexFault
twice_fault line c r =
    unless (not ((r.kind == 0) && any_given c.given (data_start c r) (length r.content))) (Twice line)

abbrev pub record_fault : ℕ → Contents → PlainRecord → Option HexFault
record_fault line c r = kind_fault line r or_else fields_fault line r or_else twice_fault line c r

-- the fault of a line with these bytes
unfoldable pub line_fault : ℕ → Contents → Option (List ℕ) → Option HexFault
line_fault line c None = Some (BadRecord line)
line_fault line c (Some bytes) = check_fault line bytes or_else record_fault line c (record_in bytes)

-- the line is an end of file record
unfoldable pub is_end : Option (List ℕ) → Bool
is_end None = false
is_end (Some bytes) = (record_in bytes).kind == 1

-- nothing stands behind the end record: no further line, and nothing that a newline doesn't end
abbrev pub trailing_fault : ℕ → List (List ℕ) → Option HexFault
trailing_fault line [] = None
trailing_fault line ([] ∷ []) = None
trailing_fault line ([] ∷ next ∷ lines) = Some (Trailing line)
trailing_fault line ((byte ∷ bytes) ∷ lines) = Some (Trailing line)

-- what no newline ends is no line; where there is nothing, the end record is missing
abbrev pub unended_fault : ℕ → List ℕ → Option HexFault
unended_fault line [] = Some (NoEnd line)
unended_fault line (byte ∷ bytes) = Some (BadRecord line)

-- the first fault of the lines from number `line` on, after records that said `c`. The last of them is
-- what no newline ends
abbrev pub fault_from : ℕ → Contents → List (List ℕ) → Option HexFault
fault_from line c [] = Some (NoEnd line)
fault_from line c (rest ∷ []) = unended_fault line rest
fault_from line c (now ∷ next ∷ lines) =
    line_fault line c (bytes_in now)
    or_else (if is_end (bytes_in now) then trailing_fault (next_line line) (next ∷ lines)
    else fault_from (next_line line) (after_line c (bytes_in now)) (next ∷ lines))

-- the first fault of a text
abbrev pub hex_fault : List ℕ → Option HexFault
hex_fault text = fault_from 0 nothing_read (lines_of text)

-- what the records of a text say
abbrev pub hex_contents : List ℕ → Contents
hex_contents text = contents_from nothing_read (lines_of text)

-- a text spells a map and an entry: it has no fault, its type 00 records give just the bytes of the map,
-- and its last type 05 record the entry
pub record Spells (text : List ℕ) (bytes : ByteMap) (start : Option ℕ) : Type 0 where
  pub sound : hex_fault text ≡ None
  pub given : (address : ℕ) → (hex_contents text).given address ≡ bytes address
  pub entry : (hex_contents text).entry ≡ start

-- the bytes that a map has
abbrev pub given_by : BTreeMap ℕ ℕ → ByteMap
given_by bytes = λ address. get nat_cmp bytes address

-- what a reader has read
abbrev pub contents_of : Reading → Contents
contents_of reading = record { base = 65536 * reading.upper; given = given_by reading.bytes; entry = reading.entry }
