-- The words of data stand in the content of their sections.
use Rattle.std.proofs.Common.{◌≡◌, ℕ, ◌==◌, true, not, ◌&&◌}
use Rattle.list_checks.specs.Tests.{lies_in}
use Rattle.list_checks.proofs.TestLemmas.{both}
use Rattle.elf_reader.specs.File.{PlainView}
use Rattle.elf_reader.specs.Loaded.{section_at, is_loaded}
use Rattle.loaded_file.specs.Code.{has_content}
use Rattle.loaded_file.specs.Ranges.{is_executable}
use Rattle.loaded_file.proofs.ByteRangeLemmas.{both_made}
use Rattle.object_graph.specs.Rewritable.{holds_data}

pub data_content : (v : PlainView) (a k : ℕ) → holds_data v a k ≡ true → has_content v a k ≡ true
data_content v a k holds =
    let s = section_at v k in
    let parts = both (is_loaded v k && (s.kind == 1) && not (is_executable s)) (lies_in s.addr s.size a 4) holds in
    let plain = both (is_loaded v k && (s.kind == 1)) (not (is_executable s)) parts.0 in
    both_made _ _ plain.0 parts.1
