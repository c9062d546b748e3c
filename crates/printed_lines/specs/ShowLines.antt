-- The lines that show what of a program may move, and in which region its functions are.
use Rattle.std.specs.Prelude.{ℕ, if◌then◌else◌, List, ◌++◌, codes, length, slice_index_or}
use Rattle.std.specs.Fmt.{decimal}
use Rattle.elf_reader.specs.File.{PlainView}
use Rattle.loaded_file.specs.Records.{symbol_at}
use Rattle.object_graph.specs.Graphs.{object_at}
use Rattle.object_graph.specs.declared.parts.Object.{Object}
use Rattle.code_blocks.specs.Early.{has}
use Rattle.code_blocks.specs.Blocks.{no_function}
use Rattle.code_blocks.specs.declared.parts.Function.{Function}
use Rattle.profile_runner.specs.Standing.{number_of, region_of}
use Rattle.printed_lines.specs.ProfileLines.{address_text, named_line, lines_below}

-- `WORD 0xADDRESS NUMBER `
abbrev pub addressed_head : List ℕ → ℕ → ℕ → List ℕ
addressed_head word address number =
    word ++ (codes " " ++ (address_text address ++ (codes " " ++ (decimal number ++ codes " "))))

-- `object 0xHOME SIZE NAME`
abbrev pub movable_text : ℕ → ℕ → List ℕ → List ℕ
movable_text home size name = named_line (addressed_head (codes "object") home size) name

-- the line of object `k`, with the name of its first symbol
abbrev pub movable_line : PlainView → List Object → ℕ → List ℕ
movable_line v objects k =
    movable_text (object_at objects k).home (object_at objects k).size (symbol_at v (object_at objects k).name).name

-- `function 0xADDR REGION NAME`
abbrev pub function_text : ℕ → ℕ → List ℕ → List ℕ
function_text start region name = named_line (addressed_head (codes "function") start region) name

-- the region of the block that begins at an address, and 0 where none does
abbrev pub region_at : List ℕ → List ℕ → ℕ → ℕ
region_at starts regions a = if has starts a then region_of regions (number_of starts a) else 0

abbrev pub function_at : List Function → ℕ → Function
function_at functions k = slice_index_or functions k no_function

-- the line of function `k`, with the name of its symbol
abbrev pub function_line : PlainView → List Function → List ℕ → List ℕ → ℕ → List ℕ
function_line v functions starts regions k =
    function_text (function_at functions k).start (region_at starts regions (function_at functions k).start)
    (symbol_at v (function_at functions k).name).name

abbrev pub movable_lines : PlainView → List Object → List ℕ
movable_lines v objects = lines_below (movable_line v objects) (length objects)

abbrev pub function_lines : PlainView → List Function → List ℕ → List ℕ → List ℕ
function_lines v functions starts regions = lines_below (function_line v functions starts regions) (length functions)

-- all lines: the objects by home, and the functions by address
abbrev pub show_text : PlainView → List Object → List Function → List ℕ → List ℕ → List ℕ
show_text v objects functions starts regions =
    movable_lines v objects ++ function_lines v functions starts regions
