use Rattle.std.proofs.Common.{sym}
use Rattle.list_checks.proofs.TestLemmas.{any_at}
use Rattle.elf_reader.specs.Layout.{section_count}
use Rattle.elf_reader.specs.SymbolChecks.{shares_bytes}
use Rattle.elf_reader.proofs.CheckLemmas.{below_count}
use Rattle.elf_reader.proofs.symbol_checks.shares_some.Goals as goal

pub returns-then-shares_bytes : goal.returns-then-shares_bytes
returns-then-shares_bytes c =
    let file = c.args.bytes.now in
    let below = below_count file c.args.header.now c.loop-k.k c.requires.headers.0 c.loop-k-test.true in
    sym (any_at (shares_bytes file c.args.table) (section_count file) c.loop-k.k below (rw (← c.shares_bytes.ensures) c.if-shares_bytes.true))
