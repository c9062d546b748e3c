use Rattle.std.proofs.Common.{◌≡◌, ℕ, ◌+◌, ◌<◌, true, length, refl}
use Rattle.cell_values.specs.Stored.{cells_of}
use Rattle.object_machine.specs.Layout.{is_in_some}
use Rattle.object_machine.specs.Machine.{seen_state}
use Rattle.object_machine.proofs.StoreLemmas.{fixed_with, cells_with, fixed_put, objects_stay, store_of_graph}
use Rattle.object_machine.proofs.machine.Source.put_fixed.Goals as goal

pub invariant_of-self-clause-cells : goal.invariant_of-self-clause-cells
invariant_of-self-clause-cells c =
    let m = c.args.self.now in
    store_of_graph m.tables.graph c.set_all.result (cells_of m.memory) (cells_of c.set_all.new.self) c.args.at c.args.cells.now c.set_all.ensures.set c.set_all.ensures.err m.cells c.requires.of

pub returns-in-Ok-clause-state : goal.returns-in-Ok-clause-state
returns-in-Ok-clause-state c =
    let m = c.args.self.now in
    let old = cells_of m.memory in
    let new = cells_of c.set_all.new.self in
    let all : (i : ℕ) → i < length c.args.cells.now → is_in_some m.tables.fixed.items (c.args.at + i) ≡ true = λ i below. (c.requires.spans i below).1 in
    let fixed = fixed_put m.tables old new c.args.at c.args.cells.now c.in-Ok.ensures.set all in
    let cells = objects_stay m.tables old new c.args.at c.args.cells.now c.in-Ok.ensures.set all in
    (refl, λ t. record (seen_state m) { fixed = fixed t; cells = cells t })

pub returns-in-Err-clause-err : goal.returns-in-Err-clause-err
returns-in-Err-clause-err c =
    let m = c.args.self.now in
    let same = c.in-Err.ensures.err in
    (refl, λ t. record (seen_state m) { fixed = fixed_with m.tables (same t); cells = cells_with m.tables (same t) })
