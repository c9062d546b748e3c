use Rattle.std.proofs.Common.{◌≡◌, ◌∙◌, suc, ◌-◌, ◌/◌, arith}
use Rattle.std.proofs.lemmas.Grind.{common_steps}
use Rattle.paged_store.specs.Pages.{paged_bytes}
use Rattle.cell_values.specs.Rows.{entry_at}
use Rattle.cell_values.specs.Entries.{place_of}
use Rattle.cell_values.proofs.EntryLemmas.{place_at, entry_changed}
use Rattle.cell_values.proofs.word_table.WordTable.set.Goals as goal

pub returns-in_default-clause-ok : goal.returns-in_default-clause-ok
unfolding entry_at
returns-in_default-clause-ok g c v =
    let s = c.args.self.now in
    let mem = paged_bytes s.index.directory.items s.index.bytes.items in
    let is : c.get_word.result ≡ place_of mem (c.args.at / 4) = c.get_word.ensures ∙ place_at mem (c.args.at / 4) (omega arith) in
    let place : place_of mem (c.args.at / 4) ≡ suc (c.get_word.result - 1) = grind (arith, common_steps, is) in
    entry_changed s.entries.items mem (c.args.at / 4) (c.get_word.result - 1) c.args.entry s.inside s.apart place v
