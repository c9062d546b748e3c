-- Bytes at addresses: finite maps, runs of bytes, and the file bytes of segments.
use Rattle.std.specs.Prelude.{ℕ, ◌+◌, ◌<◌, ◌≤◌, ◌==◌, if◌then◌else◌, List, [], ◌∷◌, ◌++◌, map, length, All, Option, Some, None}
use Rattle.std.specs.List.{AllPairs}
use Rattle.std.specs.Option.{option_or}
use Rattle.elf_reader.specs.File.{PlainSegment}
use Rattle.hex_image.specs.declared.image.HexRun.{HexRun}
use Rattle.hex_image.specs.declared.image.HexImage.{HexImage}

-- the byte at each address that has one
abbrev pub ByteMap : Type 0
ByteMap = ℕ → Option ℕ

-- bytes at addresses that follow one another
pub record PlainRun : Type 0 where
  pub start : ℕ
  pub content : List ℕ

abbrev pub run_at : ℕ → List ℕ → PlainRun
run_at first bytes = record { start = first; content = bytes }

-- the byte that bytes from an address on have at an address
abbrev pub byte_from : ℕ → List ℕ → ByteMap
byte_from first [] address = None
byte_from first (byte ∷ bytes) address = if address == first then Some byte else byte_from (first + 1) bytes address

abbrev pub run_byte : PlainRun → ByteMap
run_byte run address = byte_from run.start run.content address

-- the bytes of several runs; where two have an address, the first one counts
abbrev pub map_of : List PlainRun → ByteMap
map_of [] address = None
map_of (run ∷ runs) address = option_or (run_byte run address) (map_of runs address)

-- the address behind a run
abbrev pub run_end : PlainRun → ℕ
run_end run = run.start + length run.content

-- between a run and a later one is an address without a byte
abbrev pub ComesBefore : PlainRun → PlainRun → Type 0
ComesBefore run later = run_end run < later.start

-- a byte behind a run: in the run, where it ends there, and else in one of its own
abbrev pub joined : PlainRun → ℕ → ℕ → List PlainRun
joined run address byte =
    if run_end run == address then run_at run.start (run.content ++ byte ∷ []) ∷ []
    else run ∷ run_at address (byte ∷ []) ∷ []

-- a byte behind runs by address
abbrev pub with_byte : List PlainRun → ℕ → ℕ → List PlainRun
with_byte [] address byte = run_at address (byte ∷ []) ∷ []
with_byte (run ∷ []) address byte = joined run address byte
with_byte (run ∷ next ∷ runs) address byte = run ∷ with_byte (next ∷ runs) address byte

-- runs by address that are as long as can be: none is empty, and no two touch. They end at 2 ^ 32 or below
pub record AreMaximal (runs : List PlainRun) : Type 0 where
  pub placed : All (λ run. run_end run ≤ 4294967296) runs
  pub filled : All (λ run. 0 < length run.content) runs
  pub disjoint : AllPairs ComesBefore runs

-- a run as a list
abbrev pub plain_run : HexRun → PlainRun
plain_run run = run_at run.at run.bytes.items

abbrev pub map_runs : List HexRun → List PlainRun
map_runs runs = map plain_run runs

abbrev pub plain_runs : HexImage → List PlainRun
plain_runs image = map_runs image.runs.items

-- the bytes of an image
abbrev pub image_map : HexImage → ByteMap
image_map image = map_of (plain_runs image)

-- the file bytes of a segment, at its addresses
abbrev pub segment_run : PlainSegment → PlainRun
segment_run s = run_at s.vaddr s.content

-- the file bytes of segments
abbrev pub file_map : List PlainSegment → ByteMap
file_map segments = map_of (map segment_run segments)
