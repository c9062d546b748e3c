use Rattle.std.proofs.Common.{◌≡◌, ◌++◌}
use Rattle.elf_reader.specs.File.{plain_view}
use Rattle.printed_lines.specs.ProfileLines.{lines_below}
use Rattle.result_map.specs.MapText.{object_rows_at, places_by}
use Rattle.result_map.proofs.lines.push_objects.Given as goal

abbrev pub invariant-loop-k : goal.invariant-loop-k
invariant-loop-k l =
    l.text.items ≡ l.initial.text.items
    ++ lines_below (object_rows_at (plain_view l.parts.view.now) l.parts.graph.now.objects.items (places_by l.parts.made.now.places) l.parts.regions) l.k
