use Rattle.std.proofs.Common.{map, rules}
use Rattle.std.proofs.lemmas.List.Sorted.{IsNonDecreasingBy-from_sort_by_key, All-permutation}
use Rattle.elf_reader.specs.File.{segments_of}
use Rattle.hex_image.specs.Runs.{segment_run}
use Rattle.hex_image.specs.Text.{filled_runs, IsPlaced}
use Rattle.hex_image.specs.declared.writing.Block.{Block}
use Rattle.hex_image.proofs.OrderLemmas.{filled_disjoint, filled_filled}
use Rattle.hex_image.proofs.SortLemmas.{sorted_blocks}
use Rattle.hex_image.proofs.writing.blocks_by_address.Goals as goal

pub returns-clause-runs : goal.returns-clause-runs
returns-clause-runs c =
    let segments = segments_of c.args.view.now in
    let sort = c.in_ok-sort_by_key.ensures in
    let order = IsNonDecreasingBy-from_sort_by_key (λ (b : Block). b.start) _ sort.sorted (λ a r q k. search rules) in
    sorted_blocks _ _ (filled_runs segments) c.in_ok-blocks.ensures.runs (filled_filled (map segment_run segments)) (filled_disjoint segments c.requires.loadable c.requires.disjoint) sort.permutation order

pub returns-clause-placed : goal.returns-clause-placed
returns-clause-placed c = All-permutation IsPlaced _ _ c.in_ok-sort_by_key.ensures.permutation c.in_ok-blocks.ensures.placed
