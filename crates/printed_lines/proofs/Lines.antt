-- Lines, one after the other, and each from what it tells.
use Rattle.std.proofs.Common.{◌≡◌, ℕ, ◌+◌, ◌==◌, ◌<◌, List, [], ◌++◌, length, get_or, sum, false, Vec, ap, sym, refl, ◌∙◌, add-one, arith}
use Rattle.std.specs.Global.{Global}
use Rattle.std.proofs.lemmas.Bool.Decides.{nat_tests}
use Rattle.std.proofs.lemmas.List.{append_assoc, get_or-map, get_or_read}
use Rattle.elf_reader.specs.File.{PlainView}
use Rattle.loaded_file.specs.Records.{symbol_at}
use Rattle.object_graph.specs.Graphs.{no_object}
use Rattle.object_graph.specs.declared.parts.Object.{Object}
use Rattle.code_blocks.specs.Blocks.{start_of}
use Rattle.code_blocks.specs.Numbers.{starts_of}
use Rattle.code_blocks.specs.declared.parts.Block.{Block}
use Rattle.code_blocks.specs.declared.parts.Code.{Code}
use Rattle.profile_runner.specs.Counts.{plain_rows, row_of}
use Rattle.printed_lines.specs.ProfileLines.{lines_below, started_text, line_of_block, block_line, line_of_object, object_line}

-- one more line
pub lines_more : (line : ℕ → List ℕ) (old now next : List ℕ) (k : ℕ) → now ≡ old ++ lines_below line k → next ≡ now ++ line k
    → next ≡ old ++ lines_below line (k + 1)
lines_more line old now next k so_far more =
    rw (add-one k) (more ∙ ap (λ xs. xs ++ line k) so_far ∙ append_assoc old (lines_below line k) (line k))

-- a block that began has a line
pub line_started : (start arrivals : ℕ) → (arrivals ≡ 0 → ⊥) → line_of_block start arrivals ≡ started_text start arrivals
line_started start arrivals some = let test : (arrivals == 0) ≡ false = grind (arith, nat_tests) in rw test refl

pub block_line_is : (c : Code) (arrivals : List ℕ) (k : ℕ) (b : Block) (n : ℕ) → k < length c.blocks.items → k < length arrivals
    → b ≡ get_or c.blocks.items k b → n ≡ get_or arrivals k n → line_of_block b.start n ≡ block_line (starts_of c) arrivals k
block_line_is c arrivals k b n within counted is_block is_count =
    let start : get_or (starts_of c) k 0 ≡ b.start = get_or-map start_of c.blocks.items k b 0 within ∙ ap start_of (sym is_block) in
    let count : get_or arrivals k 0 ≡ n = sym (get_or_read arrivals k n counted is_count 0) in
    rw (start, count) refl

-- the sum of a row
row_sum : (rows : List (Vec ℕ Global)) (k : ℕ) (row : Vec ℕ Global) (n : ℕ) → k < length rows → row ≡ get_or rows k row → n ≡ sum row.items
    → n ≡ sum (row_of (plain_rows rows) k)
row_sum rows k row n within is is_sum =
    let found : row_of (plain_rows rows) k ≡ row.items = get_or-map (λ (r : Vec ℕ Global). r.items) rows k row [] within ∙ ap (λ (r : Vec ℕ Global). r.items) (sym is) in
    is_sum ∙ ap sum (sym found)

pub object_line_is : (v : PlainView) (objects : List Object) (reads writes : List (Vec ℕ Global)) (k : ℕ) (o : Object) (name : List ℕ) (r w : Vec ℕ Global) (n m : ℕ)
    → k < length objects → length reads ≡ length objects → length writes ≡ length objects
    → o ≡ get_or objects k o → name ≡ (symbol_at v o.name).name → r ≡ get_or reads k r → w ≡ get_or writes k w → n ≡ sum r.items → m ≡ sum w.items
    → line_of_object n m name ≡ object_line v objects (plain_rows reads) (plain_rows writes) k
object_line_is v objects reads writes k o name r w n m within same_reads same_writes is is_name is_reads is_writes is_read_sum is_write_sum =
    let object : get_or objects k no_object ≡ o = sym (get_or_read objects k o within is no_object) in
    let of_reads = row_sum reads k r n (omega (arith, within, same_reads)) is_reads is_read_sum in
    let of_writes = row_sum writes k w m (omega (arith, within, same_writes)) is_writes is_write_sum in
    rw (object, sym of_reads, sym of_writes, is_name) refl
