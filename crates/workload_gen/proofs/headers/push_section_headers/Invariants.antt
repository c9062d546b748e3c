use Rattle.std.proofs.Common.{◌≡◌, ◌++◌, map, drop}
use Rattle.workload_gen.specs.Built.{section_headers}
use Rattle.workload_gen.specs.Planned.{plain_planned}
use Rattle.workload_gen.proofs.headers.push_section_headers.Given as goal

abbrev pub invariant-loop-section : goal.invariant-loop-section
invariant-loop-section l =
    l.out.items ++ section_headers l.place l.name_at (map plain_planned (drop l.section-index l.sections))
    ≡ l.fn.out.items ++ section_headers l.fn.first 1 (map plain_planned l.sections)
