use Rattle.std.proofs.Common.{arith, refl, ◌∙◌}
use Rattle.cell_values.specs.Stored.{cells_of}
use Rattle.object_machine.proofs.CellLemmas.{fixed_half, object_half, fixed_fits, object_below, object_fits}
use Rattle.object_machine.proofs.machine.Source.half_at.Goals as goal

pub returns-in-Fixed : goal.returns-in-Fixed
returns-in-Fixed c =
    let m = c.args.self.now in
    let spans = rw c.in-Fixed.is at c.requires in
    rw c.in-Fixed.is (c.half.ensures ∙ fixed_half m.tables (cells_of m.memory) c.in-Fixed.at spans)

pub returns-in-Object : goal.returns-in-Object
returns-in-Object c =
    let m = c.args.self.now in
    let spans = rw c.in-Object.is at c.requires in
    rw c.in-Object.is (c.half-in-Object.ensures ∙ object_half m.tables (cells_of m.memory) c.in-Object.object c.in-Object.offset c.home_of.result c.home_of.ensures spans)

pub half-requires : goal.half-requires
half-requires c = let m = c.args.self.now in fixed_fits m.tables c.in-Fixed.at 1 (rw c.in-Fixed.is at c.requires)

pub home_of-requires : goal.home_of-requires
home_of-requires c =
    let m = c.args.self.now in
    object_below m.tables c.in-Object.object c.in-Object.offset 1 (rw c.in-Object.is at c.requires)

pub overflow_add-home_of : goal.overflow_add-home_of
overflow_add-home_of c =
    let m = c.args.self.now in
    let fits = object_fits m.tables c.in-Object.object c.in-Object.offset c.home_of.result 1 c.home_of.ensures (rw c.in-Object.is at c.requires) in
    omega (arith, fits)

pub half-requires-in-Object : goal.half-requires-in-Object
half-requires-in-Object c =
    let m = c.args.self.now in
    object_fits m.tables c.in-Object.object c.in-Object.offset c.home_of.result 1 c.home_of.ensures (rw c.in-Object.is at c.requires)

pub returns-in-Nowhere : goal.returns-in-Nowhere
returns-in-Nowhere c = rw c.in-Nowhere.is refl
