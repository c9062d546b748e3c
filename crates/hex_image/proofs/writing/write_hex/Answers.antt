use Rattle.std.proofs.Common.{[], ◌∙◌}
use Rattle.std.specs.List.{flat_map}
use Rattle.elf_reader.specs.File.{segments_of}
use Rattle.hex_image.specs.Text.{pieces_of, runs_by_address}
use Rattle.hex_image.proofs.TextLemmas.{whole_text}
use Rattle.hex_image.proofs.SpellLemmas.{newlines_counted}
use Rattle.hex_image.proofs.writing.write_hex.Goals as goal

pub returns-clause-text : goal.returns-clause-text
returns-clause-text c =
    let pieces = flat_map pieces_of (runs_by_address (segments_of c.args.view.now)) in
    let taken = rw (c.new.ensures.items, c.deref.ensures.value, c.in_ok-blocks.ensures.runs) at c.in_ok-push_blocks.ensures [] in
    c.in_ok-push_tail.ensures ∙ whole_text c.push_blocks.new.text.bytes.items pieces c.args.view.now.entry taken

pub returns-clause-records : goal.returns-clause-records
returns-clause-records c = rw (returns-clause-text c) (newlines_counted (segments_of c.args.view.now) c.args.view.now.entry c.requires.loadable c.requires.disjoint)
