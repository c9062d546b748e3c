use Rattle.std.proofs.Common.{◌≡◌, ℕ, List, ◌+◌, ◌-◌, ◌<◌, ◌≤◌, true, take, length, refl, arith}
use Rattle.std.proofs.lemmas.List.Elements.{All-take}
use Rattle.cell_values.specs.Cells.{IsCellOfGraph, split}
use Rattle.cell_values.specs.declared.values.Cell.{Cell}
use Rattle.cell_values.specs.Stored.{cells_of}
use Rattle.object_machine.specs.Layout.{is_in_some}
use Rattle.object_machine.specs.Machine.{seen_state}
use Rattle.object_machine.proofs.CellLemmas.{split_of, taken_few}
use Rattle.object_machine.proofs.StoreLemmas.{fixed_with, cells_with, fixed_put, objects_stay, store_of_graph}
use Rattle.object_machine.proofs.machine.Source.put_value_fixed.Goals as goal

pub invariant_of-self-clause-cells : goal.invariant_of-self-clause-cells
invariant_of-self-clause-cells c =
    let m = c.args.self.now in
    let g = m.tables.graph in
    let cs : List Cell = take c.args.width (split c.args.value.now) in
    store_of_graph g c.set_value.result (cells_of m.memory) (cells_of c.set_value.new.self) c.args.at cs c.set_value.ensures.set c.set_value.ensures.err m.cells
    (All-take (IsCellOfGraph g) _ (split c.args.value.now) (split_of g c.args.value.now c.requires.of))

pub returns-in-Ok-clause-state : goal.returns-in-Ok-clause-state
returns-in-Ok-clause-state c =
    let m = c.args.self.now in
    let old = cells_of m.memory in
    let new = cells_of c.set_value.new.self in
    let cs : List Cell = take c.args.width (split c.args.value.now) in
    let few : length cs ≤ c.args.width = taken_few c.args.width (split c.args.value.now) in
    let all : (i : ℕ) → i < length cs → is_in_some m.tables.fixed.items (c.args.at + i) ≡ true = λ i below. (c.requires.spans i (omega (arith, below, few))).1 in
    let fixed = fixed_put m.tables old new c.args.at cs c.in-Ok.ensures.set all in
    let cells = objects_stay m.tables old new c.args.at cs c.in-Ok.ensures.set all in
    (refl, λ t. record (seen_state m) { fixed = fixed t; cells = cells t })

pub returns-in-Err-clause-err : goal.returns-in-Err-clause-err
returns-in-Err-clause-err c =
    let m = c.args.self.now in
    let same = c.in-Err.ensures.err in
    (refl, λ t. record (seen_state m) { fixed = fixed_with m.tables (same t); cells = cells_with m.tables (same t) })

-- its last byte is below the end
pub set_value-requires-clause-within : goal.set_value-requires-clause-within
set_value-requires-clause-within c =
    let some : 0 < c.args.width = grind (arith, c.requires.width) in
    let last = (c.requires.spans (c.args.width - 1) (omega (arith, some))).0 in
    omega (arith, some, last)
