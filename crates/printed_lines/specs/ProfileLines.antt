-- The lines that tell a profile.
use Rattle.std.specs.Prelude.{ℕ, zero, suc, ◌/◌, ◌%◌, ◌==◌, if◌then◌else◌, false, List, [], ◌∷◌, ◌++◌, codes, length, sum, slice_index_or}
use Rattle.std.specs.Fmt.{decimal, digit_glyph}
use Rattle.elf_reader.specs.File.{PlainView}
use Rattle.loaded_file.specs.Records.{symbol_at}
use Rattle.object_graph.specs.Graphs.{object_at}
use Rattle.object_graph.specs.declared.parts.Object.{Object}
use Rattle.object_machine.specs.declared.events.Outcome.{Outcome}
use Rattle.profile_runner.specs.Counts.{plain_rows, row_of}
use Rattle.profile_runner.specs.declared.counts.Profile.{Profile}
use Rattle.printed_lines.specs.Endings.{ending_text}

-- the last `k` hexadecimal digits of a number, in lower case, in front of others
abbrev pub hex_digits : ℕ → ℕ → List ℕ → List ℕ
hex_digits zero n others = others
hex_digits (suc k) n others = hex_digits k (n / 16) (digit_glyph false (n % 16) ∷ others)

-- `0x` and eight digits
abbrev pub address_text : ℕ → List ℕ
address_text a = codes "0x" ++ hex_digits 8 a []

-- a line that ends in a name
abbrev pub named_line : List ℕ → List ℕ → List ℕ
named_line head name = head ++ (name ++ 10 ∷ [])

-- the first of several lines, one after the other
abbrev pub lines_below : (ℕ → List ℕ) → ℕ → List ℕ
lines_below line zero = []
lines_below line (suc k) = lines_below line k ++ line k

-- `steps N`, and the line that tells how the program stands
abbrev pub head_text : ℕ → Outcome → List ℕ
head_text steps outcome =
    codes "steps " ++ (decimal steps ++ (codes "\n" ++ (ending_text outcome ++ 10 ∷ [])))

-- `block 0xADDR N` for a block that began N times; nothing for one that never did
abbrev pub started_text : ℕ → ℕ → List ℕ
started_text start arrivals =
    codes "block " ++ (address_text start ++ (codes " " ++ (decimal arrivals ++ 10 ∷ [])))

abbrev pub line_of_block : ℕ → ℕ → List ℕ
line_of_block start arrivals = if arrivals == 0 then [] else started_text start arrivals

-- the line of block `k`, by the starts of the blocks and how often they began
abbrev pub block_line : List ℕ → List ℕ → ℕ → List ℕ
block_line starts arrivals k = line_of_block (slice_index_or starts k 0) (slice_index_or arrivals k 0)

abbrev pub block_lines : List ℕ → List ℕ → List ℕ
block_lines starts arrivals = lines_below (block_line starts arrivals) (length arrivals)

-- `object READS WRITES NAME`
abbrev pub line_of_object : ℕ → ℕ → List ℕ → List ℕ
line_of_object reads writes name =
    codes "object " ++ (decimal reads ++ (codes " " ++ (decimal writes ++ (codes " " ++ (name ++ 10 ∷ [])))))

-- the line of object `k`: its reads and writes in all regions, and the name of its first symbol
abbrev pub object_line : PlainView → List Object → List (List ℕ) → List (List ℕ) → ℕ → List ℕ
object_line v objects reads writes k =
    line_of_object (sum (row_of reads k)) (sum (row_of writes k)) (symbol_at v (object_at objects k).name).name

abbrev pub object_lines : PlainView → List Object → List (List ℕ) → List (List ℕ) → List ℕ
object_lines v objects reads writes = lines_below (object_line v objects reads writes) (length objects)

-- all lines: the blocks in the order of their starts, and the objects of the file in their order
abbrev pub profile_text : PlainView → List Object → List ℕ → Profile → List ℕ
profile_text v objects starts q =
    head_text q.steps q.outcome
    ++ block_lines starts q.arrivals.items
    ++ object_lines v objects (plain_rows q.reads.items) (plain_rows q.writes.items)
