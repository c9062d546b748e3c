use Rattle.std.proofs.Common.{◌≡◌, ◌∙◌, sym, ap}
use Rattle.elf_reader.specs.File.{plain_view}
use Rattle.elf_reader.specs.declared.view.Reloc.{Reloc}
use Rattle.loaded_file.specs.Records.{reloc_at}
use Rattle.object_graph.proofs.GivenLemmas.{word_found, word_missing, word_of_kind, word_of_rewritable, word_nowhere}
use Rattle.object_graph.proofs.RangeLemmas.{reloc_is}
use Rattle.object_graph.proofs.data_words.word_of.Goals as goal

pub returns-then-reloc-ne-R_RISCV_32 : goal.returns-then-reloc-ne-R_RISCV_32
returns-then-reloc-ne-R_RISCV_32 c =
    let v = plain_view c.args.file.now.view.now in
    let here = reloc_is c.args.file.now.view.now c.args.i c.index-reloc.result.now c.requires.below c.index-reloc.ensures in
    word_missing v c.args.ranges.now c.args.i (word_of_kind v c.args.i (λ is. c.if-reloc-ne-R_RISCV_32.true (sym (ap (λ (r : Reloc). r.kind) here) ∙ is)))

pub returns-then-not-is_rewritable : goal.returns-then-not-is_rewritable
returns-then-not-is_rewritable c =
    let v = plain_view c.args.file.now.view.now in
    word_missing v c.args.ranges.now c.args.i (word_of_rewritable v c.args.i (sym c.is_rewritable.ensures ∙ c.if-not-is_rewritable.true))

pub returns-in-None : goal.returns-in-None
returns-in-None c = word_nowhere (plain_view c.args.file.now.view.now) c.args.ranges.now c.args.i c.in-None.ensures

pub returns-in-Some : goal.returns-in-Some
returns-in-Some c =
    let v = plain_view c.args.file.now.view.now in
    let here = reloc_is c.args.file.now.view.now c.args.i c.index-reloc.result.now c.requires.below c.index-reloc.ensures in
    word_found v c.args.ranges.now c.index-reloc.result.now.at c.in-Some.lead c.args.i (ap (λ (r : Reloc). r.at) (sym here)) (ap (λ (r : Reloc). r.kind) here ∙ c.if-reloc-ne-R_RISCV_32.false) (sym c.is_rewritable.ensures ∙ c.if-not-is_rewritable.false) c.in-Some.ensures
