use Rattle.elf_reader.proofs.SectionLemmas.{headers_held}
use Rattle.elf_reader.proofs.section_checks.check_table.Goals as goal

pub returns-clause-headers : goal.returns-clause-headers
returns-clause-headers c = headers_held c.args.bytes.now c.in_ok-check_headers.ensures
