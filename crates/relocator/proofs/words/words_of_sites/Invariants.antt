use Rattle.elf_reader.specs.File.{plain_view}
use Rattle.relocator.specs.Gathering.{AreOfSites}
use Rattle.relocator.proofs.words.words_of_sites.Given as goal

abbrev pub invariant-loop-k : goal.invariant-loop-k
invariant-loop-k l = AreOfSites (plain_view l.file.view.now) l.graph l.places l.region_at l.k l.words.items
