use Rattle.std.proofs.Common.{◌≡◌, ◌∙◌, ◌==◌, true, sym, subst, arith, eq-eqb}
use Rattle.elf_reader.specs.Sections.{is_table_at}
use Rattle.elf_reader.specs.declared.records.SectionHeader.{SectionHeader}
use Rattle.elf_reader.proofs.SymbolLemmas.{second_is, only_is}
use Rattle.elf_reader.proofs.symbol_checks.table_after.Goals as goal

pub returns-in-Some-clause-fault : goal.returns-in-Some-clause-fault
returns-in-Some-clause-fault c =
    let kind : c.section_header.result.sh_type ≡ 2 = omega arith in
    let is_table : is_table_at c.args.bytes.now c.args.k ≡ true = subst (λ (s : SectionHeader). (s.sh_type == 2) ≡ true) c.section_header.ensures (eq-eqb c.section_header.result.sh_type 2 kind) in
    rw c.from.ensures (second_is c.args.bytes.now c.args.k c.in-Some.field-0 is_table (sym c.requires.earlier ∙ c.in-Some.is))

pub returns-in-None-clause-fault : goal.returns-in-None-clause-fault
returns-in-None-clause-fault c = only_is c.args.bytes.now c.args.k (sym c.requires.earlier ∙ c.in-None.is)
