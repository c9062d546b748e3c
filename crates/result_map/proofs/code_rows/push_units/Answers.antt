use Rattle.std.proofs.Common.{◌++◌, ◌<◌, length, ap, arith, ◌∙◌}
use Rattle.std.proofs.lemmas.List.{get_or_default}
use Rattle.elf_reader.specs.File.{plain_view}
use Rattle.relink_core.specs.declared.unit_forms.UnitAt.{UnitAt}
use Rattle.printed_lines.proofs.Lines.{lines_more}
use Rattle.result_map.specs.MapText.{unit_row, unit_row_at, no_form}
use Rattle.result_map.proofs.code_rows.push_units.Goals as goal

pub loop-k-preserved : goal.loop-k-preserved
loop-k-preserved c =
    let v = plain_view c.args.view.now in
    let patch = c.args.patch in
    let functions = c.args.functions.now in
    let units = c.args.units.now in
    let k = c.loop-k.k in
    let within : k < length units = omega (arith, c.loop-k-test.true) in
    lines_more (unit_row_at v patch functions units) c.args.text.now.items c.loop-k.text.items c.push_unit.new.text.items k c.loop-k.invariant
    (c.in_ok-push_unit.ensures ∙ ap (λ (x : UnitAt). c.loop-k.text.items ++ unit_row v patch functions x) (get_or_default units k _ no_form within))
