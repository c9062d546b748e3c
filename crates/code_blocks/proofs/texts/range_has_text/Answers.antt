use Rattle.std.proofs.Common.{◌≡◌, ◌∙◌, sym, ap}
use Rattle.std.proofs.lemmas.List.{get_or-map}
use Rattle.elf_reader.specs.File.{plain_section, plain_view}
use Rattle.elf_reader.specs.Loaded.{no_section, section_at}
use Rattle.code_blocks.proofs.TextLemmas.{range_passes}
use Rattle.code_blocks.proofs.texts.range_has_text.Goals as goal

pub returns-then-is_code_range : goal.returns-then-is_code_range
returns-then-is_code_range c =
    let v = plain_view c.args.file.now.view.now in
    let here : section_at v c.args.k ≡ plain_section c.index.result.now =
    get_or-map plain_section c.args.file.now.view.now.sections.items c.args.k c.index.result.now no_section c.requires.below ∙ ap plain_section (sym c.index.ensures) in
    range_passes v c.args.k (plain_section c.index.result.now) _ (sym c.if-is_code_range.ensures) here c.has_word.ensures
