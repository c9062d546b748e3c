use Rattle.std.proofs.Common.{◌≡◌, ℕ, List, ◌+◌, ◌<◌, ◌≤◌, take, length, refl, ◌∙◌, ap, arith}
use Rattle.std.proofs.lemmas.List.Elements.{All-take}
use Rattle.cell_values.specs.Cells.{IsCellOfGraph, put_cells, split}
use Rattle.cell_values.specs.declared.values.Cell.{Cell}
use Rattle.cell_values.specs.Stored.{cells_of}
use Rattle.object_machine.specs.Machine.{seen_state}
use Rattle.object_machine.proofs.CellLemmas.{split_of, taken_few}
use Rattle.object_machine.proofs.StoreLemmas.{home, size, fixed_with, cells_with, fixed_stays, object_put, spans_object, store_of_graph}
use Rattle.object_machine.proofs.machine.Source.put_value_inside.Goals as goal

pub invariant_of-self-clause-cells : goal.invariant_of-self-clause-cells
invariant_of-self-clause-cells c =
    let m = c.args.self.now in
    let g = m.tables.graph in
    let cs : List Cell = take c.args.width (split c.args.value.now) in
    store_of_graph g c.set_value.result (cells_of m.memory) (cells_of c.set_value.new.self) (c.home_of.result + c.args.offset) cs c.set_value.ensures.set c.set_value.ensures.err m.cells
    (All-take (IsCellOfGraph g) _ (split c.args.value.now) (split_of g c.args.value.now c.requires.of))

pub returns-in-Ok-clause-state : goal.returns-in-Ok-clause-state
returns-in-Ok-clause-state c =
    let m = c.args.self.now in
    let old = cells_of m.memory in
    let new = cells_of c.set_value.new.self in
    let o = c.args.object in
    let d = c.args.offset in
    let cs : List Cell = take c.args.width (split c.args.value.now) in
    let few : length cs ≤ c.args.width = taken_few c.args.width (split c.args.value.now) in
    let is : new ≡ put_cells old (home m.tables o + d) cs = c.in-Ok.ensures.set ∙ ap (λ (h : ℕ). put_cells old (h + d) cs) c.home_of.ensures in
    let some : 0 < c.args.width = grind (arith, c.requires.width) in
    let whole : d + c.args.width ≤ size m.tables o = (spans_object m.tables o d _ some c.requires.spans).1 in
    let fits : d + length cs ≤ size m.tables o = omega (arith, whole, few) in
    let fixed = fixed_stays m.tables old new o d cs is fits in
    let cells = object_put m.tables old new o d cs is fits in
    (refl, λ t. record (seen_state m) { fixed = fixed t; cells = cells t })

pub returns-in-Err-clause-err : goal.returns-in-Err-clause-err
returns-in-Err-clause-err c =
    let m = c.args.self.now in
    let same = c.in-Err.ensures.err in
    (refl, λ t. record (seen_state m) { fixed = fixed_with m.tables (same t); cells = cells_with m.tables (same t) })
