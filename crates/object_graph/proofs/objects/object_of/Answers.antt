use Rattle.std.proofs.Common.{◌∙◌, length, sym, arith}
use Rattle.std.proofs.lemmas.Bool.{both_ways}
use Rattle.std.proofs.lemmas.List.{length-map}
use Rattle.elf_reader.specs.File.{plain_symbol, plain_view}
use Rattle.loaded_file.proofs.SymbolCount.{few_symbols}
use Rattle.object_graph.proofs.ObjectLemmas.{first_is, first_passes, none_first}
use Rattle.object_graph.proofs.objects.object_of.Goals as goal

pub overflow_cast-result : goal.overflow_cast-result
overflow_cast-result c =
    let v = plain_view c.args.view.now in
    let range = c.args.range.now in
    let first = first_is v range.home range.size (length v.symbols) c.in-Some.symbol (sym c.requires.first ∙ c.in-Some.is) in
    let few = few_symbols c.args.view.now c.requires.read in
    let below = first.below in
    omega (arith, few, below)

pub is_writable-requires : goal.is_writable-requires
is_writable-requires c =
    let v = plain_view c.args.view.now in
    let range = c.args.range.now in
    let below = (first_is v range.home range.size (length v.symbols) c.in-Some.symbol (sym c.requires.first ∙ c.in-Some.is)).below in
    let count = length-map c.args.view.now.symbols.items plain_symbol in
    omega (arith, below, count)

pub returns-in-Some-clause-named : goal.returns-in-Some-clause-named
returns-in-Some-clause-named c =
    let v = plain_view c.args.view.now in
    let range = c.args.range.now in
    let first = first_is v range.home range.size (length v.symbols) c.in-Some.symbol (sym c.requires.first ∙ c.in-Some.is) in
    record { first = first_passes v range.home range.size (length v.symbols) c.in-Some.symbol first; writable = c.is_writable.ensures }

pub returns-in-None-clause-named : goal.returns-in-None-clause-named
returns-in-None-clause-named c =
    let v = plain_view c.args.view.now in
    let range = c.args.range.now in
    absurd (both_ways _ (none_first v range.home range.size (length v.symbols) (sym c.requires.first ∙ c.in-None.is)) c.requires.range)
