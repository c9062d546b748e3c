-- What is counted of one piece more.
use Rattle.std.proofs.Common.{◌≡◌, ℕ, ◌+◌, ◌<◌, List, [], ◌∷◌, ◌++◌, length, slice_index_or, inl, inr, sym, ap, ◌∙◌, subst, arith}
use Rattle.std.proofs.lemmas.Bool.{cases_eq}
use Rattle.std.proofs.lemmas.List.{get_or_append_left, get_or_default, get_or_push, length_push}
use Rattle.block_splitter.specs.declared.piece.Piece.{Piece}
use Rattle.placement_candidates.specs.declared.measured.Measured.{Measured}
use Rattle.placement_candidates.specs.declared.tallies.PieceTally.{PieceTally}
use Rattle.placement_candidates.specs.Tallies.{IsTally, AreTallies}

pub one_tally : (m : Measured) (n : ℕ) (old new : List PieceTally) (d : Piece) (tally : PieceTally) → n < length m.pieces.now → new ≡ old ++ tally ∷ [] → AreTallies m n old → IsTally m (slice_index_or m.pieces.now n d) tally → AreTallies m (n + 1) new
one_tally m n old new d tally inside grown before here =
    let size = before.size in
    let longer = ap (λ (ts : List PieceTally). length ts) grown ∙ length_push old tally in
    record {
      size = omega (arith, size, longer);
      each = λ k p t below. elim (cases_eq k n) [
        | inl same ↦
            let at = ap (λ (ts : List PieceTally). slice_index_or ts k t) grown ∙ get_or_push old tally t k (omega (arith, same, size)) in
            let piece = get_or_default m.pieces.now n d p inside in
            subst (IsTally m (slice_index_or m.pieces.now k p)) (sym at)
            (subst (λ (j : ℕ). IsTally m (slice_index_or m.pieces.now j p) tally) (sym same) (subst (λ (q : Piece). IsTally m q tally) piece here))
        | inr other ↦
            let earlier : k < length old = omega (arith, below, other, size) in
            let at = ap (λ (ts : List PieceTally). slice_index_or ts k t) grown ∙ get_or_append_left old (tally ∷ []) t k earlier in
            subst (IsTally m (slice_index_or m.pieces.now k p)) (sym at) (before.each k p t (omega (arith, below, other)))
      ];
    }
