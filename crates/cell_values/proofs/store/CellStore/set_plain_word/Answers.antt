use Rattle.paged_store.specs.Pages.{paged_bytes}
use Rattle.cell_values.specs.Rows.{rows_of, cells_in}
use Rattle.cell_values.proofs.CellLemmas.{plain_word_put}
use Rattle.cell_values.proofs.store.CellStore.set_plain_word.Goals as goal

pub returns-in-Ok-clause-set : goal.returns-in-Ok-clause-set
returns-in-Ok-clause-set c =
    let s = c.args.self.now in
    plain_word_put (cells_in (rows_of s.values s.cells)) (paged_bytes s.bytes.directory.items s.bytes.bytes.items) _ c.args.at c.args.n c.requires.within c.requires.plain c.in-Ok.ensures.ok
