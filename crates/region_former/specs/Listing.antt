-- The regions that a board lists by the names of their functions.
use Rattle.std.specs.Prelude.{ℕ, zero, suc, ◌==◌, Bool, List, [], length, slice_index_or, Option, Some, None, if◌then◌else◌}
use Rattle.list_checks.specs.Tests.{any_below}
use Rattle.list_checks.specs.First.{unless, first_below}
use Rattle.elf_reader.specs.File.{PlainView}
use Rattle.code_blocks.specs.declared.parts.Function.{Function}
use Rattle.region_former.specs.Naming.{function_named}
use Rattle.code_blocks.specs.Leads.{is_some_of}
use Rattle.region_former.specs.Faults.{Fault, unknown_function, two_regions}

-- list `i`, and name `j` of it
abbrev pub list_at : List (List (List ℕ)) → ℕ → List (List ℕ)
list_at lists i = slice_index_or lists i []

abbrev pub name_at : List (List (List ℕ)) → ℕ → ℕ → List ℕ
name_at lists i j = slice_index_or (list_at lists i) j []

-- name `j` of list `i` stands for function `f`
abbrev pub stands_for : PlainView → List Function → List (List (List ℕ)) → ℕ → ℕ → ℕ → Bool
stands_for v functions lists i f j = is_some_of (function_named v functions (name_at lists i j)) f

-- the region of function `f` by the first n lists: list 0 is region 1, and so on; 0 where none has a name of it
abbrev pub listed_region : PlainView → List Function → List (List (List ℕ)) → ℕ → ℕ → ℕ
listed_region v functions lists f zero = 0
listed_region v functions lists f (suc i) =
    if any_below (stands_for v functions lists i f) (length (list_at lists i)) then suc i
    else listed_region v functions lists f i

-- the same by the first `i` lists and the first n names of the next
abbrev pub region_before : PlainView → List Function → List (List (List ℕ)) → ℕ → ℕ → ℕ → ℕ
region_before v functions lists i n f =
    if any_below (stands_for v functions lists i f) n then suc i else listed_region v functions lists f i

-- the check of a name that stands for this function, if for one: there is one, and it was not listed before
abbrev pub fault_of : (ℕ → ℕ) → List ℕ → Option ℕ → Option Fault
fault_of before name None = Some (unknown_function name)
fault_of before name (Some f) = unless (before f == 0) (two_regions name)

abbrev pub name_fault : PlainView → List Function → List (List (List ℕ)) → ℕ → ℕ → Option Fault
name_fault v functions lists i j =
    fault_of
    (region_before v functions lists i j)
    (name_at lists i j)
    (function_named v functions (name_at lists i j))

-- the first name of list `i` that fails
abbrev pub list_fault : PlainView → List Function → List (List (List ℕ)) → ℕ → Option Fault
list_fault v functions lists i = first_below (name_fault v functions lists i) (length (list_at lists i))

-- the first listed name that fails
abbrev pub listing_fault : PlainView → List Function → List (List (List ℕ)) → Option Fault
listing_fault v functions lists = first_below (list_fault v functions lists) (length lists)
