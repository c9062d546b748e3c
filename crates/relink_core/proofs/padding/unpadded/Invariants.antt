use Rattle.std.proofs.Common.{◌≡◌, take}
use Rattle.std.specs.List.{filter}
use Rattle.relink_core.specs.Padding.{is_unpadded}
use Rattle.relink_core.proofs.padding.unpadded.Given as goal

abbrev pub invariant-loop-word : goal.invariant-loop-word
invariant-loop-word l = l.kept.items ≡ filter (is_unpadded l.homes) (take l.word-index l.words)
