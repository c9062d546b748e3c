use Rattle.std.proofs.Common.{◌≡◌, ◌++◌}
use Rattle.elf_reader.specs.File.{plain_view}
use Rattle.printed_lines.specs.ProfileLines.{lines_below}
use Rattle.result_map.specs.MapText.{row_in, places_by}
use Rattle.result_map.proofs.lines.push_object_rows.Given as goal

abbrev pub invariant-loop-region : goal.invariant-loop-region
invariant-loop-region l =
    l.text.items ≡ l.initial.text.items ++ lines_below (row_in (plain_view l.parts.view.now) l.object (places_by l.parts.made.now.places) l.k) l.region
