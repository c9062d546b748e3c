use Rattle.std.proofs.Common.{List, ℕ, ◌++◌, ◌<◌, length, ap, arith, ◌∙◌}
use Rattle.elf_reader.specs.File.{plain_view}
use Rattle.printed_lines.proofs.Lines.{lines_more}
use Rattle.result_map.specs.MapText.{stub_row}
use Rattle.result_map.proofs.RowLemmas.{stub_row_is}
use Rattle.result_map.proofs.code_rows.push_stubs.Goals as goal

pub loop-k-preserved : goal.loop-k-preserved
loop-k-preserved c =
    let v = plain_view c.args.view.now in
    let functions = c.args.functions.now in
    let stubs = c.args.stubs.now in
    let places = c.args.places.now in
    let k = c.loop-k.k in
    let within : k < length stubs = omega (arith, c.loop-k-test.true) in
    let row = stub_row_is v functions stubs places k c.place_of.result c.index-stubs-k.result within c.index-stubs-k.is c.place_of.ensures in
    lines_more (stub_row v functions stubs places) c.args.text.now.items c.loop-k.text.items c.push_stub.new.text.items k c.loop-k.invariant
    (c.in_ok-push_stub.ensures ∙ ap (λ (piece : List ℕ). c.loop-k.text.items ++ piece) row)
