use Rattle.std.proofs.Common.{◌≡◌, ◌&&◌}
use Rattle.list_checks.specs.Sorted.{collected}
use Rattle.block_splitter.specs.Forms.{holds_block}
use Rattle.block_splitter.specs.Pieces.{is_entry}
use Rattle.block_splitter.proofs.finding.entries.Given as goal

abbrev pub invariant-loop-b : goal.invariant-loop-b
invariant-loop-b l = l.entries.items ≡ collected (λ b. holds_block b l.range && is_entry l.code l.range b) (λ b. b) l.b
