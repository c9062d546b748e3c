-- The text that is written for a file's segments and its entry.
use Rattle.std.specs.Prelude.{ℕ, ◌+◌, ◌<◌, ◌-◌, ◌/◌, ◌%◌, ◌==◌, nat_lt, nat_le, Bool, ◌||◌, if◌then◌else◌, List, [], ◌∷◌, ◌++◌, length, map, filter, Option, Some, None}
use Rattle.std.specs.List.{flat_map}
use Rattle.rv32im.specs.Words.{byte_of}
use Rattle.elf_reader.specs.File.{PlainSegment}
use Rattle.hex_image.specs.Runs.{PlainRun, run_at, segment_run}
use Rattle.hex_image.specs.Records.{PlainRecord, line_of}
use Rattle.hex_image.specs.declared.writing.Block.{Block}
use Rattle.hex_image.specs.declared.writing.HexText.{HexText}

-- runs by address: a run goes before those that begin at its address or behind
abbrev pub insert_run : PlainRun → List PlainRun → List PlainRun
insert_run run [] = run ∷ []
insert_run run (other ∷ others) =
    if nat_le run.start other.start then run ∷ other ∷ others else other ∷ insert_run run others

abbrev pub by_address : List PlainRun → List PlainRun
by_address [] = []
by_address (run ∷ runs) = insert_run run (by_address runs)

abbrev pub has_bytes : PlainRun → Bool
has_bytes run = nat_lt 0 (length run.content)

-- the runs of the segments that have file bytes
abbrev pub filled_runs : List PlainSegment → List PlainRun
filled_runs segments = filter has_bytes (map segment_run segments)

-- the same by address
abbrev pub runs_by_address : List PlainSegment → List PlainRun
runs_by_address segments = by_address (filled_runs segments)

-- a run is cut every 16 bytes from its first address, and at multiples of 2 ^ 16
abbrev pub is_cut : ℕ → ℕ → Bool
is_cut first address = ((address - first) % 16 == 0) || (address % 65536 == 0)

-- a byte in front of the first of some pieces
abbrev pub onto_piece : ℕ → ℕ → List PlainRun → List PlainRun
onto_piece address byte [] = run_at address (byte ∷ []) ∷ []
onto_piece address byte (piece ∷ pieces) = run_at address (byte ∷ piece.content) ∷ pieces

-- the pieces of bytes from `address` on, of a run whose first address is `first`
abbrev pub pieces_from : ℕ → ℕ → List ℕ → List PlainRun
pieces_from first address [] = []
pieces_from first address (byte ∷ bytes) =
    if is_cut first (address + 1) then run_at address (byte ∷ []) ∷ pieces_from first (address + 1) bytes
    else onto_piece address byte (pieces_from first (address + 1) bytes)

unfoldable pub pieces_of : PlainRun → List PlainRun
pieces_of run = pieces_from run.start run.start run.content

-- the upper sixteen bits of a piece's addresses, which are the same for all of them
abbrev pub upper_half : ℕ → ℕ
upper_half address = address / 65536

-- Data Record, type 00
abbrev pub data_record : PlainRun → PlainRecord
data_record piece = record { kind = 0; address = piece.start % 65536; content = piece.content }

-- End of File Record, type 01
abbrev pub end_record : PlainRecord
end_record = record { kind = 1; address = 0; content = [] }

-- Extended Linear Address Record, type 04
abbrev pub upper_record : ℕ → PlainRecord
upper_record upper = record { kind = 4; address = 0; content = byte_of upper 1 ∷ byte_of upper 0 ∷ [] }

-- Start Linear Address Record, type 05
abbrev pub entry_record : ℕ → PlainRecord
entry_record entry =
    record { kind = 5; address = 0; content = byte_of entry 3 ∷ byte_of entry 2 ∷ byte_of entry 1 ∷ byte_of entry 0 ∷ [] }

-- the record of an upper half, unless it is the last one that was written
abbrev pub upper_records : Option ℕ → ℕ → List PlainRecord
upper_records None upper = upper_record upper ∷ []
upper_records (Some last) upper = if upper == last then [] else upper_record upper ∷ []

-- the records of pieces, after those of the upper half `last`
abbrev pub piece_records : Option ℕ → List PlainRun → List PlainRecord
piece_records last [] = []
piece_records last (piece ∷ pieces) =
    upper_records last (upper_half piece.start) ++ data_record piece ∷ piece_records (Some (upper_half piece.start)) pieces

-- the last two records
abbrev pub tail_records : ℕ → List PlainRecord
tail_records entry = entry_record entry ∷ end_record ∷ []

-- all records of runs by address and an entry
abbrev pub records_of : List PlainRun → ℕ → List PlainRecord
records_of runs entry = piece_records None (flat_map pieces_of runs) ++ tail_records entry

-- the records of a file
abbrev pub hex_records : List PlainSegment → ℕ → List PlainRecord
hex_records segments entry = records_of (runs_by_address segments) entry

-- the text of a file
abbrev pub hex_text : List PlainSegment → ℕ → List ℕ
hex_text segments entry = flat_map line_of (hex_records segments entry)

-- a block as a run
abbrev pub plain_block : Block → PlainRun
plain_block block = record { start = block.start; content = block.bytes.now }

-- its bytes end below 2 ^ 32
abbrev pub IsPlaced : Block → Type 0
IsPlaced block = block.start + length block.bytes.now < 4294967296

-- a text that goes on with the records of these pieces
abbrev pub text_with : HexText → List PlainRun → List ℕ
text_with text pieces = text.bytes.items ++ flat_map line_of (piece_records text.upper pieces)
