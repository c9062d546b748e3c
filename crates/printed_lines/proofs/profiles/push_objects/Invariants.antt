use Rattle.std.proofs.Common.{◌≡◌, ◌++◌}
use Rattle.elf_reader.specs.File.{plain_view}
use Rattle.profile_runner.specs.Counts.{plain_rows}
use Rattle.printed_lines.specs.ProfileLines.{lines_below, object_line}
use Rattle.printed_lines.specs.Texts.{text_of}
use Rattle.printed_lines.proofs.profiles.push_objects.Given as goal

abbrev pub invariant-loop-k : goal.invariant-loop-k
invariant-loop-k l =
    text_of l.text ≡ text_of l.initial.text ++ lines_below (object_line (plain_view l.view) l.graph.objects.items (plain_rows l.profile.reads.items) (plain_rows l.profile.writes.items)) l.k
