use Rattle.std.proofs.Common.{◌≡◌, ◌++◌}
use Rattle.elf_reader.specs.File.{plain_view}
use Rattle.printed_lines.specs.ProfileLines.{lines_below}
use Rattle.printed_lines.specs.ShowLines.{movable_line}
use Rattle.printed_lines.specs.Texts.{text_of}
use Rattle.printed_lines.proofs.shown.push_movables.Given as goal

abbrev pub invariant-loop-k : goal.invariant-loop-k
invariant-loop-k l =
    text_of l.text ≡ text_of l.initial.text ++ lines_below (movable_line (plain_view l.view) l.graph.objects.items) l.k
