use Rattle.std.proofs.Common.{sym, subst}
use Rattle.elf_reader.specs.File.{plain_view}
use Rattle.code_blocks.proofs.EntryLemmas.{entry_leads}
use Rattle.cell_values.specs.Objects.{IsGrain}
use Rattle.listings.proofs.machines.started.Goals as goal

pub new-requires-clause-grain : goal.new-requires-clause-grain
new-requires-clause-grain c = subst IsGrain (sym c.in_ok-graph.ensures.graph.grain) c.requires.grain

pub new-requires-clause-entry : goal.new-requires-clause-entry
new-requires-clause-entry c = entry_leads (plain_view c.in_ok-view.view) c.in_ok-code.ensures.fault
