use Rattle.elf_reader.proofs.SectionLemmas.{contents_held}
use Rattle.elf_reader.proofs.section_checks.check_places.Goals as goal

pub returns-clause-contents : goal.returns-clause-contents
returns-clause-contents c = contents_held c.args.bytes.now c.in_ok-check_each.ensures
