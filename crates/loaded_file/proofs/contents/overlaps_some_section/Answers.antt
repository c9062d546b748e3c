use Rattle.std.proofs.Common.{rules, ◌≡◌, ◌+◌, ◌<◌, true, false, map, length, sym}
use Rattle.std.specs.List.{count_by}
use Rattle.std.proofs.lemmas.List.{length-map}
use Rattle.list_checks.specs.Sorted.{is_under}
use Rattle.elf_reader.specs.File.{plain_section, plain_view}
use Rattle.loaded_file.specs.Contents.{has_content, content_start, content_end}
use Rattle.loaded_file.proofs.ContentLemmas.{overlaps_by, overlaps_none}
use Rattle.loaded_file.proofs.contents.overlaps_some_section.Goals as goal

pub returns-then-not-has_content : goal.returns-then-not-has_content
returns-then-not-has_content c =
    let none : has_content (plain_view c.args.view.now) c.args.k ≡ false = search rules in
    sym (overlaps_none (plain_view c.args.view.now) c.args.k c.requires.stands none)

pub returns : goal.returns
returns c =
    let v = plain_view c.args.view.now in
    let k = c.args.k in
    let bounds = c.args.bounds.now in
    let below : k < length (map plain_section c.args.view.now.sections.items) = rw length-map c.requires.below in
    let has : has_content v k ≡ true = search rules in
    let ended : c.count_under-ended.result ≡ count_by (is_under (content_start v k + 1)) bounds.ends.items = search rules in
    let begun : c.count_under-begun.result ≡ count_by (is_under (content_end v k)) bounds.starts.items = search rules in
    overlaps_by v bounds k c.count_under-ended.result c.count_under-begun.result c.requires.bounds below has ended begun
