use Rattle.std.proofs.Common.{◌%◌, ap}
use Rattle.paged_store.specs.Pages.{paged_bytes, has_page}
use Rattle.cell_values.specs.Rows.{entry_at, rows_of, cells_in, cell_in}
use Rattle.cell_values.proofs.CellLemmas.{plain_put, places_stay}
use Rattle.cell_values.proofs.store.CellStore.set_byte.Goals as goal

pub returns-in-Ok-clause-set : goal.returns-in-Ok-clause-set
returns-in-Ok-clause-set c =
    let s = c.args.self.now in
    plain_put (cells_in (rows_of s.values s.cells)) (paged_bytes s.bytes.directory.items s.bytes.bytes.items) _ c.args.at c.args.byte (ap (λ r. cell_in r (c.args.at % 4)) c.requires) c.in-Ok.ensures.ok

pub returns-in-Ok-clause-stays : goal.returns-in-Ok-clause-stays
returns-in-Ok-clause-stays c a other has =
    let s = c.args.self.now in
    places_stay (entry_at s.values) (entry_at s.values) (entry_at s.cells) (entry_at s.cells) (has_page s.bytes.directory.items) (has_page c.set.new.self.directory.items) (λ w none. none) (λ w some. some) c.set.ensures.grows a other has

pub returns-in-Err-clause-stays : goal.returns-in-Err-clause-stays
returns-in-Err-clause-stays c a other has =
    let s = c.args.self.now in
    places_stay (entry_at s.values) (entry_at s.values) (entry_at s.cells) (entry_at s.cells) (has_page s.bytes.directory.items) (has_page c.set.new.self.directory.items) (λ w none. none) (λ w some. some) c.set.ensures.grows a other has
