use Rattle.std.proofs.Common.{◌≡◌, ◌<◌, ◌+◌, ◌∙◌, ℕ, List, Option, sym, subst}
use Rattle.std.proofs.lemmas.Result.{err_from_is_err_and}
use Rattle.list_checks.proofs.FirstLemmas.{first_found}
use Rattle.elf_reader.specs.Layout.{relocation_record}
use Rattle.elf_reader.specs.Sections.{symbol_count, relocation_count_at, relocation_count_below}
use Rattle.elf_reader.specs.RelocationChecks.{relocation_fault_of, relocation_fault}
use Rattle.elf_reader.specs.declared.fault.ElfFault.{ElfFault}
use Rattle.elf_reader.specs.declared.records.RelocationRecord.{RelocationRecord}
use Rattle.elf_reader.proofs.CheckLemmas.{none_more}
use Rattle.elf_reader.proofs.relocation_checks.check_section_entries.Goals as goal

same_fault : (file : List ℕ) (k i symbols first : ℕ) (r : RelocationRecord) (fault : Option ElfFault) → symbols ≡ symbol_count file → first ≡ relocation_count_below file k → r ≡ relocation_record file k i → relocation_fault_of symbols (first + i) r ≡ fault → relocation_fault file k i ≡ fault
same_fault file k i symbols first r fault symbols_are first_is r_is tells =
    let same : relocation_fault_of symbols (first + i) r ≡ relocation_fault file k i = λ j. relocation_fault_of (symbols_are j) (first_is j + i) (r_is j) in
    sym same ∙ tells

pub returns-in_err-check_relocation : goal.returns-in_err-check_relocation
returns-in_err-check_relocation c =
    let file = c.args.bytes.now in
    let k = c.args.k in
    let i = c.loop-i.i in
    let below : i < relocation_count_at file k = subst (λ (count : ℕ). i < count) c.relocation_count_at-count.ensures c.loop-i-test.true in
    let found = same_fault file k i _ _ _ _ c.requires.symbols c.requires.first c.relocation_record-record.ensures c.in_err-check_relocation.ensures in
    let p = err_from_is_err_and c.from_residual.result c.from_residual.ensures.1 in
    rw (p.1, p.2) (first_found (relocation_fault file k) (relocation_count_at file k) i _ below c.loop-i.invariant found)

pub loop-i-preserved : goal.loop-i-preserved
loop-i-preserved c =
    let holds = same_fault c.args.bytes.now c.args.k c.loop-i.i _ _ _ _ c.requires.symbols c.requires.first c.relocation_record-record.ensures c.in_ok-check_relocation.ensures in
    none_more (relocation_fault c.args.bytes.now c.args.k) c.loop-i.i c.loop-i.invariant holds
