-- The functions of a program in a map by the names for which they stand.
use Rattle.std.specs.Prelude.{◌≡◌, ℕ, ◌==◌, List, Option, None, if◌then◌else◌}
use Rattle.std.specs.Borrow.{Bor}
use Rattle.std.specs.BTreeMap.{BTreeMap, get_by}
use Rattle.std.specs.Cmp.Lexicographic.{slice_cmp}
use Rattle.std.specs.Ordering.{nat_cmp}
use Rattle.elf_reader.specs.File.{PlainView, plain_view}
use Rattle.code_blocks.specs.declared.parts.Function.{Function}
use Rattle.loaded_file.specs.Records.{symbol_at}
use Rattle.region_former.specs.Naming.{function_at, function_named}
use Rattle.region_former.specs.declared.names.FunctionNames.{FunctionNames}

-- the place that a map has for a name
abbrev pub place_named : BTreeMap (Bor (List ℕ)) ℕ → List ℕ → Option ℕ
place_named places name = get_by (λ key. slice_cmp nat_cmp name key.now) places

-- the function that starts at the value of symbol `k`, if that is of a function (STT_FUNC, 2)
abbrev pub function_of_symbol : PlainView → List Function → ℕ → Option ℕ
function_of_symbol v functions k =
    if (symbol_at v k).kind == 2 then function_at functions (symbol_at v k).value else None

-- the functions of a program are known by all names
abbrev pub AreNames : FunctionNames → Type 0
AreNames names =
    (name : List ℕ) → place_named names.places name ≡ function_named (plain_view names.view.now) names.code.now.functions.items name
