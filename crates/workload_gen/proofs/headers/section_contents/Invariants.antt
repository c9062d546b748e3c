use Rattle.std.proofs.Common.{◌≡◌, ◌++◌, map, drop}
use Rattle.workload_gen.specs.Built.{contents}
use Rattle.workload_gen.specs.Planned.{plain_planned}
use Rattle.workload_gen.proofs.headers.section_contents.Given as goal

abbrev pub invariant-loop-section : goal.invariant-loop-section
invariant-loop-section l =
    l.out.items ++ contents (map plain_planned (drop l.section-index l.sections)) ≡ contents (map plain_planned l.sections)
