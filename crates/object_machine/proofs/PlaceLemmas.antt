-- Where accesses go, and where no memory is.
use Rattle.std.proofs.Common.{◌≡◌, ℕ, ◌+◌, ◌<◌, ◌≤◌, nat_le, nat_lt, Bool, true, false, ◌&&◌, List, slice_index_or, Some, None, refl, arith, if◌then◌else◌}
use Rattle.std.specs.List.{list_any}
use Rattle.std.proofs.lemmas.Bool.Decides.{nat_tests}
use Rattle.std.proofs.lemmas.List.Folds.{list_any_none}
use Rattle.std.proofs.lemmas.List.{get_or_default}
use Rattle.board_config.specs.declared.board.Range.{Range}
use Rattle.object_graph.specs.declared.parts.Object.{Object}
use Rattle.cell_values.specs.Objects.{absent_object, object_of}
use Rattle.object_machine.specs.declared.tables.Tables.{Tables}
use Rattle.object_machine.specs.declared.units.Prepared.{Prepared}
use Rattle.object_machine.specs.Program.{Program, holds}
use Rattle.object_machine.specs.Layout.{is_in_some}
use Rattle.object_machine.specs.Machine.{seen_program}
use Rattle.object_machine.specs.Places.{byte_fault}

-- no memory lies at 2 ^ 32 or above
not_fixed : (ranges : List Range) (a : ℕ) → 4294967296 ≤ a → is_in_some ranges a ≡ false
not_fixed ranges a above =
    let behind : nat_lt a 4294967296 ≡ false = grind (arith, nat_tests, above) in rw behind

missed : (home size a : ℕ) → home + size < 4294967296 → 4294967296 ≤ a → nat_le home a && nat_lt a (home + size) ≡ false
missed home size a below above = grind (arith, nat_tests, below, above)

not_held : (t : Tables) (a : ℕ) → 4294967296 ≤ a → list_any (holds a) t.graph.objects.items ≡ false
not_held t a above =
    list_any_none (holds a) t.graph.objects.items
    (λ k d within.
    let o : Object = slice_index_or t.graph.objects.items k d in
    let same : object_of t.graph k ≡ o = get_or_default t.graph.objects.items k absent_object d within in
    let below = rw same at (t.below k) in
    missed o.home o.size a below above)

-- a byte that is neither fixed memory nor an object's
none_there : (p : Program) (a : ℕ) → p.is_fixed a ≡ false → p.is_held a ≡ false → byte_fault p a ≡ Some 3
none_there p a free bare = rw (free, bare)

pub nothing_above : (t : Tables) (u : Prepared) (a : ℕ) → 4294967296 ≤ a → byte_fault (seen_program t u) a ≡ Some 3
nothing_above t u a above = none_there (seen_program t u) a (not_fixed t.fixed.items a above) (not_held t a above)

-- a byte with no fault is fixed memory
byte_of : (fixed : Bool) (why : ℕ) → (if fixed then None else Some why) ≡ None → fixed ≡ true
byte_of true why none = refl
byte_of false why none = cc

pub byte_is_fixed : (p : Program) (a : ℕ) → byte_fault p a ≡ None → p.is_fixed a ≡ true
byte_is_fixed p a none = byte_of (p.is_fixed a) (if p.is_held a then 4 else 3) none
