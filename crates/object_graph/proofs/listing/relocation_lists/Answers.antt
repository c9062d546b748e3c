use Rattle.object_graph.proofs.listing.relocation_lists.Goals as goal

pub returns : goal.returns
returns c = record {
  range_starts = c.in_ok-range_starts.ensures;
  range_ends = c.in_ok-range_ends.ensures;
  starts = c.in_ok-starts.ensures;
  ends = c.in_ok-ends.ensures;
  calls = c.in_ok-calls.ensures;
  low_keys = c.in_ok-low_keys.ensures;
}
