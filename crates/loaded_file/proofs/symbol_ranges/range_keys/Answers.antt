use Rattle.std.proofs.Common.{◌∙◌, sym, ap, arith}
use Rattle.std.proofs.lemmas.List.{get_or-map}
use Rattle.elf_reader.specs.File.{plain_symbol, plain_view}
use Rattle.loaded_file.specs.Records.{no_symbol}
use Rattle.loaded_file.specs.ByteRanges.{is_key_of}
use Rattle.loaded_file.proofs.ByteRangeLemmas.{one_more}
use Rattle.loaded_file.proofs.symbol_ranges.range_keys.Goals as goal

pub loop-k-preserved : goal.loop-k-preserved
loop-k-preserved c home n =
    let symbols = c.args.file.now.view.now.symbols.items in
    let symbol = c.index.result.now in
    let here = get_or-map plain_symbol symbols c.loop-k.k symbol no_symbol (omega arith) ∙ ap plain_symbol (sym c.index.ensures) in
    one_more (plain_view c.args.file.now.view.now) home n c.loop-k.k (plain_symbol symbol) _ _ (c.loop-k.invariant home n) (c.in_ok-push_range.ensures (is_key_of home n)) here
