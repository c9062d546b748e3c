use Rattle.std.proofs.Common.{◌∙◌, List, IfSome, slice_index_or, None, refl, sym, subst}
use Rattle.block_splitter.specs.declared.piece.Piece.{Piece}
use Rattle.block_splitter.specs.Pieces.{ArePieces}
use Rattle.paid_energy.specs.Inward.{IsListed}
use Rattle.paid_energy.proofs.Listed.{some_listed, within_taken}
use Rattle.paid_energy.proofs.inward_calls.is_unpadded.Goals as goal

pub is_within-requires-clause-listed : goal.is_within-requires-clause-listed
is_within-requires-clause-listed c =
    let (names, (table, pieces)) = c.requires.table in
    let here = slice_index_or c.args.table.now c.args.edge.now.from None in
    subst (λ (ps : List Piece). IfSome here (IsListed ps)) (sym c.deref.ensures.value)
    (some_listed c.args.a.now.pieces.items names c.args.edge.now.from here pieces (table.are c.args.edge.now.from c.requires.from))

pub is_within-requires-clause-are : goal.is_within-requires-clause-are
is_within-requires-clause-are c =
    let a = c.args.a.now in
    let (file, (board, analysis)) = c.requires.analysis in
    (a.code, (a.graph, (subst (ArePieces a.code a.graph) (sym c.deref.ensures.value) analysis.pieces, c.requires.to)))

pub returns-then-is_within : goal.returns-then-is_within
returns-then-is_within c names table =
    let (file, (board, analysis)) = c.requires.analysis in
    let within = within_taken c.args.a.now.code c.args.a.now.graph _ _ _ _ _ _ c.is_within.ensures c.deref.ensures.value analysis.pieces c.requires.to (table.are c.args.edge.now.from c.requires.from) in
    let yes = sym within ∙ c.if-is_within.true in
    rw (yes, c.is_checked.ensures) refl

pub returns-else-is_within : goal.returns-else-is_within
returns-else-is_within c names table =
    let (file, (board, analysis)) = c.requires.analysis in
    let within = within_taken c.args.a.now.code c.args.a.now.graph _ _ _ _ _ _ c.is_within.ensures c.deref.ensures.value analysis.pieces c.requires.to (table.are c.args.edge.now.from c.requires.from) in
    let no = sym within ∙ c.if-is_within.false in
    rw (no, c.if-is_within.false) refl
