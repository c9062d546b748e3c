use Rattle.std.proofs.Common.{◌<◌, length, sym, arith}
use Rattle.std.proofs.lemmas.List.{length-map}
use Rattle.list_checks.proofs.FirstLemmas.{first_found}
use Rattle.elf_reader.specs.File.{plain_view, plain_symbol}
use Rattle.region_former.specs.Naming.{named_by}
use Rattle.region_former.proofs.naming.function_named.Goals as goal

pub returns-in-Some-clause-named : goal.returns-in-Some-clause-named
returns-in-Some-clause-named c =
    let view = plain_view c.args.view.now in
    let count = length-map c.args.view.now.symbols.items plain_symbol in
    let below : c.loop-k.k < length view.symbols = omega (arith, count, c.loop-k-test.true, c.len-k-end.ensures) in
    sym (first_found (named_by view c.args.code.now.functions.items c.args.name.now) (length view.symbols) c.loop-k.k c.in-Some.place below c.loop-k.invariant (sym c.in-Some.ensures.place))
