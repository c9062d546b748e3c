use Rattle.std.proofs.Common.{arith}
use Rattle.elf_reader.specs.Layout.{section_count}
use Rattle.elf_reader.proofs.CheckLemmas.{below_count}
use Rattle.elf_reader.proofs.RelocationLemmas.{counted}
use Rattle.elf_reader.proofs.relocation_checks.check_entries.Goals as goal

pub check_section_entries-requires-clause-limit : goal.check_section_entries-requires-clause-limit
check_section_entries-requires-clause-limit c =
    let file = c.args.bytes.now in
    let more = counted file c.loop-k.k (section_count file) (below_count file c.args.header.now c.loop-k.k c.requires.headers.0 c.loop-k-test.true) in
    omega arith

pub overflow_add-first : goal.overflow_add-first
overflow_add-first c =
    let file = c.args.bytes.now in
    let more = counted file c.loop-k.k (section_count file) (below_count file c.args.header.now c.loop-k.k c.requires.headers.0 c.loop-k-test.true) in
    omega arith
