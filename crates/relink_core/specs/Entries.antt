-- The entries of copies: blocks to which control may come from outside.
use Rattle.std.specs.Prelude.{ℕ, ◌&&◌, List, length}
use Rattle.list_checks.specs.Sorted.{collected}
use Rattle.block_splitter.specs.Forms.{holds_block}
use Rattle.block_splitter.specs.Pieces.{is_entry}
use Rattle.block_splitter.specs.Copies.{Copy}

-- those of a copy, by block
abbrev pub entry_blocks : Copy → List ℕ
entry_blocks x =
    collected (λ b. holds_block b x.range && is_entry x.code x.range b) (λ b. b) (length x.code.blocks.items)
