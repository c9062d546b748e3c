-- The board's list of names as a set, and the rule of the list for any set of names.
use Rattle.std.specs.Prelude.{◌≡◌, ℕ, Bool, ◌&&◌, ◌||◌, List, length}
use Rattle.std.specs.Borrow.{Bor}
use Rattle.std.specs.BTreeSet.{BTreeSet, contains_by}
use Rattle.std.specs.Cmp.Lexicographic.{slice_cmp}
use Rattle.std.specs.Ordering.{nat_cmp}
use Rattle.list_checks.specs.Tests.{any_below}
use Rattle.elf_reader.specs.File.{PlainView}
use Rattle.board_config.specs.declared.board.Board.{Board}
use Rattle.loaded_file.specs.Records.{symbol_at}
use Rattle.loaded_file.specs.Ranges.{owner_of, is_symbol_of}
use Rattle.object_graph.specs.Fixed.{is_listed_name}

-- a name is one of a set
abbrev pub has_name : BTreeSet (Bor (List ℕ)) → List ℕ → Bool
has_name names name = contains_by (λ listed. slice_cmp nat_cmp name listed.now) names

-- a set has the names of the board's list
abbrev pub AreListedNames : Board → BTreeSet (Bor (List ℕ)) → Type 0
AreListedNames board names = (name : List ℕ) → has_name names name ≡ is_listed_name board name

-- symbol `k` of it has a name that passes a test, or its section has
abbrev pub is_named_by : PlainView → (List ℕ → Bool) → ℕ → ℕ → ℕ → Bool
is_named_by v test home n k =
    is_symbol_of v home n k && (test (symbol_at v k).name || test (owner_of v (symbol_at v k)).name)

-- one of its names, or its section's, passes a test
abbrev pub is_named : PlainView → (List ℕ → Bool) → ℕ → ℕ → Bool
is_named v test home n = any_below (is_named_by v test home n) (length v.symbols)
