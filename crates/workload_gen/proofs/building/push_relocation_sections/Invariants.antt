use Rattle.std.proofs.Common.{◌≡◌, ◌+◌, ◌++◌, length, map, drop}
use Rattle.workload_gen.specs.Plan.{section_plan}
use Rattle.workload_gen.specs.Built.{relocation_sections}
use Rattle.workload_gen.specs.Planned.{plain_planned}
use Rattle.workload_gen.proofs.building.push_relocation_sections.Given as goal

abbrev pub invariant-loop-index : goal.invariant-loop-index
invariant-loop-index l =
    map plain_planned l.planned.items
    ++ relocation_sections (length l.sections + 1) (l.index + 1) (map section_plan (drop l.index l.sections))
    ≡ map plain_planned l.fn.planned.items
    ++ relocation_sections (length l.sections + 1) 1 (map section_plan l.sections)
