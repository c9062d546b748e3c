use Rattle.std.proofs.Common.{◌∙◌, ℕ, ◌<◌, ◌||◌, Bool, false, get_or, slice_index_or, sym, ap, subst}
use Rattle.relink_core.proofs.StubsMade.{piece_entries}
use Rattle.relink_core.proofs.TablesMade.{entry_within, entries_marked}
use Rattle.relink_core.proofs.served.enter_copy.Goals as goal

pub mark_blocks-requires : goal.mark_blocks-requires
mark_blocks-requires c = λ k d below.
    let s = c.args.source.now in
    let x = c.args.copy.now in
    let are = piece_entries s x c.piece_of-piece.result.now c.requires.source c.piece_of-piece.ensures.range (c.piece_of-piece.ensures.piece s.code.now s.graph.now c.requires.source.pieces) in
    subst (λ (n : ℕ). get_or c.deref.result.now k d < n) (sym c.requires.len)
    (entry_within s x c.deref.result.now k d c.requires.copy (c.deref.ensures.value ∙ are) below)

pub returns-clause-marked : goal.returns-clause-marked
returns-clause-marked c = λ b.
    let s = c.args.source.now in
    let x = c.args.copy.now in
    let are = piece_entries s x c.piece_of-piece.result.now c.requires.source c.piece_of-piece.ensures.range (c.piece_of-piece.ensures.piece s.code.now s.graph.now c.requires.source.pieces) in
    c.mark_blocks.ensures.marked b
    ∙ ap (λ (t : Bool). slice_index_or c.args.entered.now b false || t) (entries_marked s x c.deref.result.now b c.requires.copy (c.deref.ensures.value ∙ are))
