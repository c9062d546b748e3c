-- The list of a programme's nodes that a search with a start would visit.
use Rattle.std.specs.Prelude.{ℕ, ◌+◌, ◌^◌, ◌≤◌, List, length}
use Rattle.placement_programme.specs.Plain.{PlainProgramme}
use Rattle.certificate_checker.specs.declared.fixings.Fixing.{Fixing}
use Rattle.branch_bound.specs.Entries.{all_vars, IsStated}

-- each programme has its stated lists, and they have no more entries than twice the choices of all variables
abbrev pub StatedListsExist : Type 0
StatedListsExist =
    (p : PlainProgramme) (start : ℕ)
    → (off : List (List Fixing))
    × ((on : List (List Fixing)) × (IsStated p start off on × (length off + length on ≤ 2 ^ (all_vars p + 1))))
