use Rattle.std.proofs.Common.{◌≡◌, ◌∙◌, ◌/◌, Some, None, sym, arith}
use Rattle.paged_store.specs.Pages.{paged_bytes}
use Rattle.cell_values.specs.Cells.{split}
use Rattle.cell_values.specs.Rows.{rows_of, row_in, cells_in}
use Rattle.cell_values.proofs.CellLemmas.{plain_word}
use Rattle.cell_values.proofs.RowLemmas.{value_joined, none_in}
use Rattle.cell_values.proofs.store.CellStore.whole_word.Goals as goal

pub returns-in-Some-get : goal.returns-in-Some-get
returns-in-Some-get c =
    let s = c.args.self.now in
    let is : rows_of s.values s.cells (c.args.at / 4) ≡ Some (split c.in-Some-get.value) = λ i. row_in (sym c.in-None.ensures i) (sym c.in-Some-get.ensures i) in
    c.reloaded.ensures
    ∙ value_joined (rows_of s.values s.cells) (paged_bytes s.bytes.directory.items s.bytes.bytes.items) c.args.at c.in-Some-get.value c.requires.aligned is

pub returns-in-None-get : goal.returns-in-None-get
returns-in-None-get c =
    let s = c.args.self.now in
    let none : rows_of s.values s.cells (c.args.at / 4) ≡ None = λ i. row_in (sym c.in-None.ensures i) (sym c.in-None-get.ensures i) in
    rw c.get_word.ensures
    (plain_word (cells_in (rows_of s.values s.cells)) (paged_bytes s.bytes.directory.items s.bytes.bytes.items) c.args.at c.requires.within
    (none_in (rows_of s.values s.cells) c.args.at 4 (omega (arith, c.requires.aligned)) none))
