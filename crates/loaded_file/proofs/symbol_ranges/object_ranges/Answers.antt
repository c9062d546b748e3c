use Rattle.std.proofs.Common.{◌∙◌, map, ap}
use Rattle.elf_reader.specs.File.{plain_view}
use Rattle.loaded_file.specs.ByteRanges.{is_key_of, byte_range_of}
use Rattle.loaded_file.proofs.ByteRangeLemmas.{keys_ascend, ranges_filled, keys_exact, ok_then}
use Rattle.loaded_file.proofs.symbol_ranges.object_ranges.Goals as goal

pub returns-clause-ascending : goal.returns-clause-ascending
returns-clause-ascending c =
    let keys = c.arrange_once.new.numbers.items in
    let read = ap (map byte_range_of) c.deref.ensures.value in
    ok_then c.byte_ranges_of.result _ _ (λ ranges made. keys_ascend keys ranges.items (made ∙ read) c.arrange_once.ensures.increasing) c.byte_ranges_of.ensures

pub returns-clause-exact : goal.returns-clause-exact
returns-clause-exact c =
    let view = plain_view c.args.file.now.view.now in
    let keys = c.arrange_once.new.numbers.items in
    let read = ap (map byte_range_of) c.deref.ensures.value in
    ok_then c.byte_ranges_of.result _ _ (λ ranges made. keys_exact view keys ranges.items (made ∙ read) (λ home n. c.arrange_once.ensures.same (is_key_of home n) ∙ c.in_ok-keys.ensures home n)) c.byte_ranges_of.ensures

pub returns-clause-filled : goal.returns-clause-filled
returns-clause-filled c =
    let view = plain_view c.args.file.now.view.now in
    let keys = c.arrange_once.new.numbers.items in
    let read = ap (map byte_range_of) c.deref.ensures.value in
    ok_then c.byte_ranges_of.result _ _ (λ ranges made. ranges_filled view ranges.items (keys_exact view keys ranges.items (made ∙ read) (λ home n. c.arrange_once.ensures.same (is_key_of home n) ∙ c.in_ok-keys.ensures home n))) c.byte_ranges_of.ensures
