use Rattle.std.proofs.Common.{◌≡◌, ◌++◌, map, drop}
use Rattle.elf_writer.specs.Pieces.{ended_names, string_table}
use Rattle.workload_gen.specs.Built.{planned_name}
use Rattle.workload_gen.specs.Planned.{plain_planned}
use Rattle.workload_gen.proofs.planned.section_names.Given as goal

abbrev pub invariant-loop-section : goal.invariant-loop-section
invariant-loop-section l =
    l.content.items ++ ended_names (map planned_name (map plain_planned (drop l.section-index l.sections)))
    ≡ string_table (map planned_name (map plain_planned l.sections))
