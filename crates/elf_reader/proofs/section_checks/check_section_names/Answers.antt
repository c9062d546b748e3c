use Rattle.std.proofs.Common.{rules}
use Rattle.elf_reader.proofs.SectionLemmas.{names_held}
use Rattle.elf_reader.proofs.section_checks.check_section_names.Goals as goal

pub returns-clause-names : goal.returns-clause-names
returns-clause-names c = names_held c.args.bytes.now (search rules)
