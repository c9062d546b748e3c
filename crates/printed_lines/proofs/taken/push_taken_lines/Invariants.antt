use Rattle.std.proofs.Common.{◌≡◌, ◌++◌}
use Rattle.elf_reader.specs.File.{plain_view}
use Rattle.printed_lines.specs.ProfileLines.{lines_below}
use Rattle.printed_lines.specs.TakenLines.{taken_at}
use Rattle.printed_lines.specs.Texts.{text_of}
use Rattle.printed_lines.proofs.taken.push_taken_lines.Given as goal

abbrev pub invariant-loop-k : goal.invariant-loop-k
invariant-loop-k l = text_of l.text ≡ text_of l.initial.text ++ lines_below (taken_at (plain_view l.view) l.graph.objects.items l.items) l.k
