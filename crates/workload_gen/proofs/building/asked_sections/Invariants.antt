use Rattle.std.proofs.Common.{◌≡◌, map, take}
use Rattle.workload_gen.specs.Plan.{section_plan}
use Rattle.workload_gen.specs.Built.{asked}
use Rattle.workload_gen.specs.Planned.{plain_planned}
use Rattle.workload_gen.proofs.building.asked_sections.Given as goal

abbrev pub invariant-loop-section : goal.invariant-loop-section
invariant-loop-section l =
    map plain_planned l.planned.items ≡ map asked (map section_plan (take l.section-index l.sections))
