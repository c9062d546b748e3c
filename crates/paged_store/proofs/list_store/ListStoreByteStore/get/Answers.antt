use Rattle.std.proofs.Common.{sym, ◌∙◌, ap}
use Rattle.paged_store.specs.declared.list_store.Entry.{Entry}
use Rattle.paged_store.proofs.Places.{byte_at_place, absent_byte}
use Rattle.paged_store.proofs.list_store.ListStoreByteStore.get.Goals as goal

pub returns-in-Some : goal.returns-in-Some
returns-in-Some c =
    ap (λ (e : Entry). e.byte) c.index.ensures
    ∙ byte_at_place c.args.self.now.entries.items c.args.at c.in-Some.i c.index.result.now (sym c.in-Some.ensures)

pub returns-in-None : goal.returns-in-None
returns-in-None c = sym (absent_byte c.args.self.now.entries.items c.args.at (sym c.in-None.ensures))
