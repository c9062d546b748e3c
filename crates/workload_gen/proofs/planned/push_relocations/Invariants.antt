use Rattle.std.proofs.Common.{◌≡◌, ◌++◌, drop}
use Rattle.workload_gen.specs.Built.{relocations_bytes}
use Rattle.workload_gen.proofs.planned.push_relocations.Given as goal

abbrev pub invariant-loop-reloc : goal.invariant-loop-reloc
invariant-loop-reloc l =
    l.out.items ++ relocations_bytes (drop l.reloc-index l.relocs) ≡ l.fn.out.items ++ relocations_bytes l.relocs
