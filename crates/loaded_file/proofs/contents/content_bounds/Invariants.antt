use Rattle.std.proofs.Common.{◌≡◌}
use Rattle.list_checks.specs.Sorted.{collected}
use Rattle.elf_reader.specs.File.{plain_view}
use Rattle.loaded_file.specs.Contents.{has_content, content_start, content_end}
use Rattle.loaded_file.proofs.contents.content_bounds.Given as goal

abbrev pub invariant-loop-k : goal.invariant-loop-k
invariant-loop-k l =
    let v = plain_view l.view in
    (l.starts.items ≡ collected (has_content v) (content_start v) l.k) × (l.ends.items ≡ collected (has_content v) (content_end v) l.k)
