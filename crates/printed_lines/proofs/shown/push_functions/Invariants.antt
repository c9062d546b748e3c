use Rattle.std.proofs.Common.{◌≡◌, ◌++◌}
use Rattle.elf_reader.specs.File.{plain_view}
use Rattle.code_blocks.specs.Numbers.{starts_of}
use Rattle.printed_lines.specs.ProfileLines.{lines_below}
use Rattle.printed_lines.specs.ShowLines.{function_line}
use Rattle.printed_lines.specs.Texts.{text_of}
use Rattle.printed_lines.proofs.shown.push_functions.Given as goal

abbrev pub invariant-loop-k : goal.invariant-loop-k
invariant-loop-k l =
    text_of l.text ≡ text_of l.initial.text ++ lines_below (function_line (plain_view l.view) l.code.functions.items (starts_of l.code) l.regions.of_block.items) l.k
