use Rattle.std.proofs.Common.{◌≡◌, ◌++◌, map, drop}
use Rattle.workload_gen.specs.Plan.{section_plan}
use Rattle.workload_gen.specs.Built.{program_headers}
use Rattle.workload_gen.proofs.headers.push_program_headers.Given as goal

abbrev pub invariant-loop-section : goal.invariant-loop-section
invariant-loop-section l =
    l.out.items ++ program_headers l.place (map section_plan (drop l.section-index l.sections))
    ≡ l.fn.out.items ++ program_headers l.fn.first (map section_plan l.sections)
