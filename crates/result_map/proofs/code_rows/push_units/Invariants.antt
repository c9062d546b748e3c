use Rattle.std.proofs.Common.{◌≡◌, ◌++◌}
use Rattle.elf_reader.specs.File.{plain_view}
use Rattle.printed_lines.specs.ProfileLines.{lines_below}
use Rattle.result_map.specs.MapText.{unit_row_at}
use Rattle.result_map.proofs.code_rows.push_units.Given as goal

abbrev pub invariant-loop-k : goal.invariant-loop-k
invariant-loop-k l =
    l.text.items ≡ l.initial.text.items ++ lines_below (unit_row_at (plain_view l.view) l.patch l.functions l.units) l.k
