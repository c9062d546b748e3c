use Rattle.std.proofs.Common.{◌≡◌}
use Rattle.energy_model.specs.Copied.{block_words, values}
use Rattle.energy_model.proofs.blocks.all_words.Given as goal

abbrev pub invariant-loop-b : goal.invariant-loop-b
invariant-loop-b l = l.words.items ≡ values (block_words l.code l.graph l.profile l.copied) l.b
