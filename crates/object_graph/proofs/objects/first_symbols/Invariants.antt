use Rattle.std.proofs.Common.{◌≡◌, ℕ, ◌<◌, length, slice_index_or, None}
use Rattle.elf_reader.specs.File.{plain_view}
use Rattle.loaded_file.specs.ByteRanges.{byte_range_at}
use Rattle.object_graph.specs.Gathered.{first_symbol}
use Rattle.object_graph.proofs.objects.first_symbols.Given as goal

abbrev pub invariant-loop-i : goal.invariant-loop-i
invariant-loop-i l = record {
  long : length l.names.items ≡ length l.ranges;
  first : (k : ℕ) → k < length l.ranges → slice_index_or l.names.items k None ≡ first_symbol (plain_view l.file.view.now) (byte_range_at l.ranges k).home (byte_range_at l.ranges k).size l.i;
}
