use Rattle.std.proofs.Common.{◌≡◌, ℕ, ◌+◌, refl, ◌∙◌, ap}
use Rattle.cell_values.specs.Cells.{put_cells}
use Rattle.cell_values.specs.Stored.{cells_of}
use Rattle.object_machine.specs.Machine.{seen_state}
use Rattle.object_machine.proofs.StoreLemmas.{home, fixed_with, cells_with, fixed_stays, object_put, spans_object, store_of_graph}
use Rattle.object_machine.proofs.machine.Source.put_inside.Goals as goal

pub invariant_of-self-clause-cells : goal.invariant_of-self-clause-cells
invariant_of-self-clause-cells c =
    let m = c.args.self.now in
    store_of_graph m.tables.graph c.set_all.result (cells_of m.memory) (cells_of c.set_all.new.self) (c.home_of.result + c.args.offset) c.args.cells.now c.set_all.ensures.set c.set_all.ensures.err m.cells c.requires.of

pub returns-in-Ok-clause-state : goal.returns-in-Ok-clause-state
returns-in-Ok-clause-state c =
    let m = c.args.self.now in
    let old = cells_of m.memory in
    let new = cells_of c.set_all.new.self in
    let o = c.args.object in
    let d = c.args.offset in
    let cs = c.args.cells.now in
    let is : new ≡ put_cells old (home m.tables o + d) cs = c.in-Ok.ensures.set ∙ ap (λ (h : ℕ). put_cells old (h + d) cs) c.home_of.ensures in
    let fits = (spans_object m.tables o d _ c.requires.some c.requires.spans).1 in
    let fixed = fixed_stays m.tables old new o d cs is fits in
    let cells = object_put m.tables old new o d cs is fits in
    (refl, λ t. record (seen_state m) { fixed = fixed t; cells = cells t })

pub returns-in-Err-clause-err : goal.returns-in-Err-clause-err
returns-in-Err-clause-err c =
    let m = c.args.self.now in
    let same = c.in-Err.ensures.err in
    (refl, λ t. record (seen_state m) { fixed = fixed_with m.tables (same t); cells = cells_with m.tables (same t) })
