use Rattle.std.proofs.Common.{◌≡◌, ℕ, ◌<◌, ◌≤◌}
use Rattle.object_graph.specs.declared.parts.Graph.{Graph}
use Rattle.block_splitter.specs.Forms.{is_site, size_below}
use Rattle.block_splitter.specs.Pieces.{most_words}
use Rattle.block_splitter.specs.Facts.{IsTable, MayStand}
use Rattle.block_splitter.proofs.measuring.measure.Given as goal

abbrev pub invariant-loop-b : goal.invariant-loop-b
invariant-loop-b l = record {
  words : (g : Graph) → IsTable l.code g l.table → l.words ≡ size_below (is_site g) l.code.blocks.items l.range l.b;
  few : l.words ≤ most_words;
  stand : (k : ℕ) → l.range.first ≤ k → k < l.b → MayStand l.code l.range k;
}
