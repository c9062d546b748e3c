-- The lines of objects that may move and of functions, each from what it tells.
use Rattle.std.proofs.Common.{◌≡◌, ◌∙◌, ℕ, ◌<◌, List, length, get_or, slice_index_or, refl, sym}
use Rattle.std.specs.List.Sorted.{IsStrictlyIncreasing}
use Rattle.std.proofs.lemmas.List.{get_or_read, get_or_default}
use Rattle.elf_reader.specs.File.{PlainView}
use Rattle.loaded_file.specs.Records.{symbol_at}
use Rattle.object_graph.specs.Graphs.{no_object}
use Rattle.object_graph.specs.declared.parts.Object.{Object}
use Rattle.code_blocks.specs.Blocks.{no_function}
use Rattle.code_blocks.specs.Numbers.{starts_of, start_at}
use Rattle.code_blocks.specs.declared.parts.Code.{Code}
use Rattle.code_blocks.specs.declared.parts.Function.{Function}
use Rattle.profile_runner.proofs.FindLemmas.{block_found}
use Rattle.printed_lines.specs.ShowLines.{movable_text, movable_line, region_at, function_text, function_line}

pub movable_line_is : (v : PlainView) (objects : List Object) (k : ℕ) (o : Object) (name : List ℕ) → k < length objects
    → o ≡ get_or objects k o → name ≡ (symbol_at v o.name).name → movable_text o.home o.size name ≡ movable_line v objects k
movable_line_is v objects k o name within is is_name =
    let object : get_or objects k no_object ≡ o = sym (get_or_read objects k o within is no_object) in
    rw (object, is_name) refl

pub function_line_is : (v : PlainView) (functions : List Function) (starts regions : List ℕ) (k : ℕ) (f : Function) (name : List ℕ) (region : ℕ)
    → k < length functions → f ≡ get_or functions k f → name ≡ (symbol_at v f.name).name → region ≡ region_at starts regions f.start
    → function_text f.start region name ≡ function_line v functions starts regions k
function_line_is v functions starts regions k f name region within is is_name is_region =
    let function : get_or functions k no_function ≡ f = sym (get_or_read functions k f within is no_function) in
    rw (function, is_name, is_region) refl

-- the region of a block that begins there
pub region_found : (c : Code) (regions : List ℕ) (a k r : ℕ) → IsStrictlyIncreasing (starts_of c) → k < length c.blocks.items → start_at c k ≡ a
    → k < length regions → r ≡ slice_index_or regions k r → r ≡ region_at (starts_of c) regions a
region_found c regions a k r ascending below is inside read =
    let found = block_found c a k ascending below is in
    rw (found.0, found.1) (read ∙ get_or_default regions k r 0 inside)
