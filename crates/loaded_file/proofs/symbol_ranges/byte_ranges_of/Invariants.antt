use Rattle.std.proofs.Common.{◌≡◌, map, take}
use Rattle.loaded_file.specs.ByteRanges.{byte_range_of}
use Rattle.loaded_file.proofs.symbol_ranges.byte_ranges_of.Given as goal

abbrev pub invariant-loop-key : goal.invariant-loop-key
invariant-loop-key l = l.ranges.items ≡ map byte_range_of (take l.key-index l.keys)
