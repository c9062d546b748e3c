use Rattle.std.proofs.Common.{ℕ, ◌&&◌, length, List, ◌∙◌, ap, sym, subst}
use Rattle.std.specs.List.Sorted.{IsStrictlyIncreasing}
use Rattle.code_blocks.specs.Early.{has}
use Rattle.block_splitter.specs.Forms.{holds_block}
use Rattle.block_splitter.specs.Pieces.{is_entry, range_of}
use Rattle.paid_energy.proofs.Listed.{entries_ascend, tells_entry}
use Rattle.paid_energy.proofs.inward_calls.piece_enters.Goals as goal

pub has_address-requires : goal.has_address-requires
has_address-requires c =
    let (code, (g, (piece, more))) = c.requires in
    subst IsStrictlyIncreasing (sym (c.deref.ensures.value ∙ piece.entries))
    (entries_ascend (λ b. holds_block b (range_of c.args.piece.now) && is_entry code (range_of c.args.piece.now) b) (length code.blocks.items))

pub returns : goal.returns
returns c code g piece below held =
    c.has_address.ensures ∙ (ap (λ (xs : List ℕ). has xs c.args.b) c.deref.ensures.value ∙ tells_entry code g c.args.piece.now c.args.b piece below held)
