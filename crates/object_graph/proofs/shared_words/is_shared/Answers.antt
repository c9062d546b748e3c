use Rattle.std.proofs.Common.{◌∙◌, sym}
use Rattle.std.proofs.lemmas.List.{get_or_default}
use Rattle.elf_reader.specs.File.{plain_view}
use Rattle.loaded_file.specs.Records.{no_reloc}
use Rattle.object_graph.proofs.SharedLemmas.{twice_at}
use Rattle.object_graph.proofs.shared_words.is_shared.Goals as goal

pub returns : goal.returns
returns c =
    let r = c.index-reloc.result.now in
    let here = get_or_default c.args.view.now.relocs.items c.args.j no_reloc r c.requires.below in
    twice_at (plain_view c.args.view.now) c.args.sites.now c.args.j r _ _ c.requires.sites (here ∙ sym c.index-reloc.ensures) c.from.ensures c.repeats.ensures
