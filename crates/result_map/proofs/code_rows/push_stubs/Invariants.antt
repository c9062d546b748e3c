use Rattle.std.proofs.Common.{◌≡◌, ◌++◌}
use Rattle.elf_reader.specs.File.{plain_view}
use Rattle.printed_lines.specs.ProfileLines.{lines_below}
use Rattle.result_map.specs.MapText.{stub_row}
use Rattle.result_map.proofs.code_rows.push_stubs.Given as goal

abbrev pub invariant-loop-k : goal.invariant-loop-k
invariant-loop-k l =
    l.text.items ≡ l.initial.text.items ++ lines_below (stub_row (plain_view l.view) l.functions l.stubs l.places) l.k
