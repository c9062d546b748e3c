use Rattle.std.proofs.Common.{◌+◌, arith, refl, ◌∙◌}
use Rattle.cell_values.specs.Stored.{cells_of}
use Rattle.object_machine.proofs.CellLemmas.{fixed_word, object_word, join_of, fixed_fits, object_below, object_fits}
use Rattle.object_machine.proofs.machine.Source.word_at.Goals as goal

pub returns-in-Fixed-clause-value : goal.returns-in-Fixed-clause-value
returns-in-Fixed-clause-value c =
    let m = c.args.self.now in
    let spans = rw c.in-Fixed.is at c.requires in
    rw c.in-Fixed.is (c.word.ensures ∙ fixed_word m.tables (cells_of m.memory) c.in-Fixed.at spans)

pub returns-in-Object-clause-value : goal.returns-in-Object-clause-value
returns-in-Object-clause-value c =
    let m = c.args.self.now in
    let spans = rw c.in-Object.is at c.requires in
    rw c.in-Object.is (c.word-in-Object.ensures ∙ object_word m.tables (cells_of m.memory) c.in-Object.object c.in-Object.offset c.home_of.result c.home_of.ensures spans)

pub returns-in-Fixed-clause-of : goal.returns-in-Fixed-clause-of
returns-in-Fixed-clause-of c =
    let m = c.args.self.now in rw c.word.ensures (join_of m.tables.graph _ _ _ _ (m.cells c.in-Fixed.at))

pub returns-in-Object-clause-of : goal.returns-in-Object-clause-of
returns-in-Object-clause-of c =
    let m = c.args.self.now in
    rw c.word-in-Object.ensures (join_of m.tables.graph _ _ _ _ (m.cells (c.home_of.result + c.in-Object.offset)))

pub word-requires : goal.word-requires
word-requires c = let m = c.args.self.now in fixed_fits m.tables c.in-Fixed.at 3 (rw c.in-Fixed.is at c.requires)

pub home_of-requires : goal.home_of-requires
home_of-requires c =
    let m = c.args.self.now in
    object_below m.tables c.in-Object.object c.in-Object.offset 3 (rw c.in-Object.is at c.requires)

pub overflow_add-home_of : goal.overflow_add-home_of
overflow_add-home_of c =
    let m = c.args.self.now in
    let fits = object_fits m.tables c.in-Object.object c.in-Object.offset c.home_of.result 3 c.home_of.ensures (rw c.in-Object.is at c.requires) in
    omega (arith, fits)

pub word-requires-in-Object : goal.word-requires-in-Object
word-requires-in-Object c =
    let m = c.args.self.now in
    object_fits m.tables c.in-Object.object c.in-Object.offset c.home_of.result 3 c.home_of.ensures (rw c.in-Object.is at c.requires)

pub returns-in-Nowhere-clause-value : goal.returns-in-Nowhere-clause-value
returns-in-Nowhere-clause-value c = rw c.in-Nowhere.is refl
