use Rattle.std.proofs.Common.{◌∙◌, sym, arith}
use Rattle.elf_reader.specs.File.{plain_section, plain_view}
use Rattle.loaded_file.proofs.LoadedSections.{found_in, none_after}
use Rattle.code_blocks.specs.Words.{passes_in}
use Rattle.code_blocks.specs.Blocks.{is_any}
use Rattle.code_blocks.proofs.texts.has_text.Goals as goal

pub returns-then-range_has_text : goal.returns-then-range_has_text
returns-then-range_has_text c =
    let view = c.args.file.now.view.now in
    sym (found_in (passes_in (plain_view view) is_any) plain_section view.sections.items c.loop-k.k (omega arith) (sym c.range_has_text.ensures ∙ c.if-range_has_text.true))

pub loop-k-preserved : goal.loop-k-preserved
loop-k-preserved c =
    none_after (passes_in (plain_view c.args.file.now.view.now) is_any) c.loop-k.k c.loop-k.invariant (sym c.range_has_text.ensures ∙ c.if-range_has_text.false)
