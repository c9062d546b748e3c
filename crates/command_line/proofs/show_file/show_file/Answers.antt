use Rattle.std.proofs.Common.{◌≡◌, subst}
use Rattle.elf_reader.specs.File.{PlainView}
use Rattle.code_blocks.specs.Numbers.{starts_of}
use Rattle.printed_lines.specs.ShowLines.{show_text}
use Rattle.relinking.proofs.Analysed.{findings}
use Rattle.command_line.proofs.Analysing.{opened_view}
use Rattle.printed_lines.specs.Texts.{text_of}
use Rattle.command_line.proofs.show_file.show_file.Goals as goal

pub show_lines-requires-clause-ascending : goal.show_lines-requires-clause-ascending
show_lines-requires-clause-ascending c = c.in_ok-opened.ensures.ok.analysed.code.ascending

pub show_lines-requires-clause-regions : goal.show_lines-requires-clause-regions
show_lines-requires-clause-regions c = c.in_ok-opened.ensures.ok.analysed.regions.is_formed.one_each

pub returns-clause-ok : goal.returns-clause-ok
returns-clause-ok c =
    let opened = c.in_ok-opened.opened in
    let is = c.in_ok-opened.ensures.ok in
    let a = opened.analysis in
    let text = text_of c.in_ok-text.text in
    record {
      board = opened.board;
      accepts = is.accepts;
      found = findings c.args.file.now opened.board a is.analysed;
      text_is = subst (λ (v : PlainView). text ≡ show_text v a.graph.objects.items a.code.functions.items (starts_of a.code) a.regions.of_block.items) (opened_view c.args.board.now c.args.file.now opened is) c.in_ok-text.ensures;
    }
