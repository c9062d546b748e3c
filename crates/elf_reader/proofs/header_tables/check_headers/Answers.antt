use Rattle.std.proofs.Common.{ℕ, ◌<◌, subst}
use Rattle.std.proofs.lemmas.Result.{err_from_is_err_and}
use Rattle.list_checks.proofs.FirstLemmas.{first_found}
use Rattle.elf_reader.specs.HeaderTables.{outside_fault, header_count}
use Rattle.elf_reader.proofs.header_tables.check_headers.Goals as goal

pub returns-in_err-check_place : goal.returns-in_err-check_place
returns-in_err-check_place c =
    let file = c.args.bytes.now in
    let below = subst (λ (n : ℕ). c.loop-k.k < n) c.requires.count c.loop-k-test.true in
    let p = err_from_is_err_and c.from_residual.result c.from_residual.ensures.1 in
    rw (p.1, p.2)
    (first_found (outside_fault c.args.kind file) (header_count c.args.kind file) c.loop-k.k _ below c.loop-k.invariant c.in_err-check_place.ensures)
