use Rattle.elf_reader.proofs.SegmentLemmas.{program_headers_held}
use Rattle.elf_reader.proofs.program_headers.check_table.Goals as goal

pub returns-clause-headers : goal.returns-clause-headers
returns-clause-headers c = program_headers_held c.args.bytes.now c.in_ok-check_headers.ensures
