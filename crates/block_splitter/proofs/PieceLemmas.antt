-- The pieces among the ranges that have the shape of one.
use Rattle.std.proofs.Common.{◌≡◌, ◌∙◌, ◌⊎◌, inl, inr, ℕ, ◌+◌, ◌*◌, ◌<◌, ◌≤◌, Bool, true, false, ◌&&◌, ◌||◌, List, [], ◌∷◌, ◌++◌, length, slice_index_or, Result, Ok, Err, IfOk, Vec, Global, refl, sym, ap, subst, arith}
use Rattle.std.specs.declared.alloc.AllocError.{AllocError}
use Rattle.std.specs.List.{All, AllPairs, list_any}
use Rattle.std.proofs.lemmas.Bool.{eq-eqb}
use Rattle.std.proofs.lemmas.List.{get_or_default}
use Rattle.std.proofs.lemmas.List.Elements.{All-push}
use Rattle.std.proofs.lemmas.List.Folds.{Any-from_list_any, list_any-append}
use Rattle.std.proofs.lemmas.List.Quantifiers.{all_pairs_push}
use Rattle.list_checks.specs.Sorted.{collected}
use Rattle.code_blocks.specs.declared.parts.Code.{Code}
use Rattle.object_graph.specs.declared.parts.Graph.{Graph}
use Rattle.block_splitter.specs.declared.block_range.BlockRange.{BlockRange}
use Rattle.block_splitter.specs.declared.piece.Piece.{Piece}
use Rattle.block_splitter.specs.declared.table.Table.{Table}
use Rattle.block_splitter.specs.Forms.{is_site, holds_block, copy_words}
use Rattle.block_splitter.specs.Pieces.{HasShape, is_entry, IsCopied, range_of, IsPiece, ComesBefore, is_range_of, ArePieces}
use Rattle.block_splitter.specs.Facts.{block_count, IsFit, is_range, IsTable, AreCandidates, AddsPiece, ArePiecesOf}
use Rattle.block_splitter.proofs.OrderLemmas.{same_is}

-- ---- one range

pub copied : (c : Code) (g : Graph) (range : BlockRange) → HasShape c range → IsFit c g range → IsCopied c g range
copied c g range shape fit = record {
  shape = shape;
  blocks = λ b inside. (fit.stand b inside).copyable;
  entries = λ b inside enters. (fit.stand b inside).entry enters;
  exits = λ b a inside leads out. (fit.stand b inside).exits a leads out;
  small = fit.small;
}

pub fit_from : (c : Code) (g : Graph) (range : BlockRange) → IsCopied c g range → IsFit c g range
fit_from c g range copied = record {
  stand = λ b inside. record {
    copyable = copied.blocks b inside;
    entry = copied.entries b inside;
    exits = λ a leads out. copied.exits b a inside leads out;
  };
  small = copied.small;
}

pub leaves_out : (c : Code) (g : Graph) (range : BlockRange) (pieces : List Piece) → (IsFit c g range → ⊥) → AddsPiece c g range pieces pieces
leaves_out c g range pieces never = inl (λ copied. never (fit_from c g range copied), refl)

pub adds_piece : (c : Code) (g : Graph) (range : BlockRange) (old new : List Piece) (p : Piece) (words : ℕ) → HasShape c range → IsFit c g range × (words ≡ copy_words (is_site g) c.blocks.items range) → p.first ≡ range.first → p.last ≡ range.last
    → p.entries.items ≡ collected (λ b. holds_block b range && is_entry c range b) (λ b. b) (block_count c) → p.bytes ≡ 4 * words → new ≡ old ++ p ∷ [] → AddsPiece c g range old new
adds_piece c g range old new p words shape (fit, size) first last entries bytes pushed =
    let same : range_of p ≡ range = λ i. record { first = first i; last = last i } in
    inr (
      p,
      same,
      record {
        copied = subst (IsCopied c g) (sym same) (copied c g range shape fit);
        entries = subst (λ (r : BlockRange). p.entries.items ≡ collected (λ b. holds_block b r && is_entry c r b) (λ b. b) (block_count c)) (sym same) entries;
        bytes = subst (λ (r : BlockRange). p.bytes ≡ 4 * copy_words (is_site g) c.blocks.items r) (sym same) (bytes ∙ ap (λ (n : ℕ). 4 * n) size);
      },
      pushed,
    )

-- ---- one range more

or_left : (a b : Bool) → a ≡ true → a || b ≡ true
or_left a b is = rw is refl

or_right : (a b : Bool) → b ≡ true → a || b ≡ true
or_right true b is = refl
or_right false b is = is

found_old : (test : Piece → Bool) (old new : List Piece) (p : Piece) → new ≡ old ++ p ∷ [] → list_any test old ≡ true → list_any test new ≡ true
found_old test old new p pushed found =
    ap (list_any test) pushed ∙ list_any-append test old (p ∷ []) ∙ or_left (list_any test old) (list_any test (p ∷ [])) found

found_new : (test : Piece → Bool) (old new : List Piece) (p : Piece) → new ≡ old ++ p ∷ [] → test p ≡ true → list_any test new ≡ true
found_new test old new p pushed passes =
    ap (list_any test) pushed ∙ list_any-append test old (p ∷ []) ∙ or_right (list_any test old) (list_any test (p ∷ [])) (or_left (test p) false passes)

tells : (r : BlockRange) (p : Piece) → range_of p ≡ r → is_range_of r p ≡ true
tells r p same =
    let first : p.first ≡ r.first = ap (λ (x : BlockRange). x.first) same in
    let last : p.last ≡ r.last = ap (λ (x : BlockRange). x.last) same in
    rw (eq-eqb p.first r.first first, eq-eqb p.last r.last last) refl

place : (j k n : ℕ) → n ≡ k + 1 → j < n → (j ≡ k) ⊎ (j < k)
place j k n next below = grind (arith, next, below)

pub pieces_more : (c : Code) (g : Graph) (ranges : List BlockRange) (k n : ℕ) (range : BlockRange) (old new : List Piece) → AreCandidates c ranges → k < length ranges → n ≡ k + 1 → range ≡ slice_index_or ranges k range → ArePiecesOf c g ranges k old → AddsPiece c g range old new
    → ArePiecesOf c g ranges n new
pieces_more c g ranges k n range old new candidates below next is of (inl (never, same)) =
    subst (ArePiecesOf c g ranges n) (sym same)
    (record {
      ordered = of.ordered;
      before = λ j d from within. of.before j d (omega (arith, from, next)) within;
      each = of.each;
      whole = λ j d lower copied.
          elim (place j k n next lower) [
            | inl here ↦ absurd (never (subst (IsCopied c g) (ap (λ (i : ℕ). slice_index_or ranges i d) here ∙ get_or_default ranges k d range below ∙ sym is) copied))
            | inr earlier ↦ of.whole j d earlier copied
          ];
    })
pieces_more c g ranges k n range old new candidates below next is of (inr (p, same, piece, pushed)) =
    let there : (d : BlockRange) → slice_index_or ranges k d ≡ range_of p = λ d. get_or_default ranges k d range below ∙ sym is ∙ sym same in
    record {
      ordered =
          subst (AllPairs (λ q r. ComesBefore (range_of q) (range_of r))) (sym pushed)
          (all_pairs_push (λ q r. ComesBefore (range_of q) (range_of r)) old p of.ordered
          (λ j d within. subst (ComesBefore (range_of (slice_index_or old j d))) (there range) (of.before k range (omega arith) below j d within)));
      before = λ j d from within.
          subst (All (λ q. ComesBefore (range_of q) (slice_index_or ranges j d))) (sym pushed)
          (All-push (λ q. ComesBefore (range_of q) (slice_index_or ranges j d)) old p
          (of.before j d (omega (arith, from, next)) within)
          (subst (λ (r : BlockRange). ComesBefore r (slice_index_or ranges j d)) (there d) (candidates.ordered k j d (omega (arith, from, next)) within)));
      each = subst (All (IsPiece c g)) (sym pushed) (All-push (IsPiece c g) old p of.each piece);
      whole = λ j d lower copied.
          elim (place j k n next lower) [
            | inl here ↦ found_new (is_range_of (slice_index_or ranges j d)) old new p pushed (tells (slice_index_or ranges j d) p (sym (ap (λ (i : ℕ). slice_index_or ranges i d) here ∙ there d)))
            | inr earlier ↦ found_old (is_range_of (slice_index_or ranges j d)) old new p pushed (of.whole j d earlier copied)
          ];
    }

-- ---- all of them

pub are_pieces : (c : Code) (g : Graph) (ranges : List BlockRange) (n : ℕ) (pieces : List Piece) → AreCandidates c ranges → length ranges ≤ n → ArePiecesOf c g ranges n pieces → ArePieces c g pieces
are_pieces c g ranges n pieces candidates all of = record {
  ordered = of.ordered;
  each = of.each;
  whole = λ range copied.
      let (k, r, below, here, is) = Any-from_list_any (is_range range) ranges (candidates.whole range copied.shape) in
      let same : range ≡ slice_index_or ranges k r = same_is range r is ∙ sym here in
      subst (λ (x : BlockRange). list_any (is_range_of x) pieces ≡ true) (sym same)
      (of.whole k r (omega (arith, below, all)) (subst (IsCopied c g) same copied));
}

-- the pieces of the graph whose table it is
pub of_graph : (c : Code) (g : Graph) (t : Table) (r : Result (Vec Piece Global) AllocError) → IsTable c g t → IfOk r (λ pieces. (h : Graph) → IsTable c h t → ArePieces c h pieces.items) → IfOk r (λ pieces. ArePieces c g pieces.items)
of_graph c g t (Ok pieces) table is = is g table
of_graph c g t (Err error) table is = is
