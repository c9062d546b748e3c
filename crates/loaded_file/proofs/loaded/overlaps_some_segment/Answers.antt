use Rattle.std.proofs.Common.{◌∙◌, sym, arith}
use Rattle.elf_reader.specs.File.{plain_segment, plain_view}
use Rattle.elf_reader.specs.Loaded.{overlaps_segment}
use Rattle.loaded_file.proofs.LoadedSections.{found_in}
use Rattle.loaded_file.proofs.loaded.overlaps_some_segment.Goals as goal

pub returns-then-overlaps_segment : goal.returns-then-overlaps_segment
returns-then-overlaps_segment c =
    let view = c.args.view.now in
    let test = overlaps_segment (plain_view view) c.args.g c.args.section.now.offset c.args.section.now.size in
    sym (found_in test plain_segment view.segments.items c.loop-h.h (omega arith) (sym c.overlaps_segment.ensures ∙ c.if-overlaps_segment.true))
