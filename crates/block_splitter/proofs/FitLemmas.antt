-- The blocks of a range from its first on, and how many words they take together.
use Rattle.std.proofs.Common.{◌≡◌, ◌∙◌, ◌⊎◌, inl, inr, ℕ, suc, ◌+◌, ◌<◌, ◌≤◌, sym, ap, arith}
use Rattle.code_blocks.specs.declared.parts.Code.{Code}
use Rattle.object_graph.specs.declared.parts.Graph.{Graph}
use Rattle.block_splitter.specs.declared.block_range.BlockRange.{BlockRange}
use Rattle.block_splitter.specs.Forms.{is_site, size_below, copy_words}
use Rattle.block_splitter.specs.Pieces.{IsRange, most_words}
use Rattle.block_splitter.specs.Facts.{MayStand, size_in, IsFit}
use Rattle.block_splitter.proofs.CandidateLemmas.{holds, held}
use Rattle.block_splitter.proofs.SumLemmas.{one_more, none_behind, part_below}

-- one block more may stand
pub stand_more : (c : Code) (range : BlockRange) (b n : ℕ) → n ≡ b + 1 → ((k : ℕ) → range.first ≤ k → k < b → MayStand c range k) → MayStand c range b → (k : ℕ) → range.first ≤ k → k < n → MayStand c range k
stand_more c range b n next stand here k from below =
    let place : (k ≡ b) ⊎ (k < b) = grind (arith, below, next) in
    elim place [ inl same ↦ rw same here | inr earlier ↦ stand k from earlier ]

-- the words of one block more
pub words_more : (c : Code) (g : Graph) (range : BlockRange) (b n words more : ℕ) → n ≡ b + 1 → range.first ≤ b → b ≤ range.last → words ≡ size_below (is_site g) c.blocks.items range b → more ≡ words + size_in c g range b → more ≡ size_below (is_site g) c.blocks.items range n
words_more c g range b n words more next from to before added =
    let step = one_more c g range b (holds range b from to) in
    let same : n ≡ suc b = omega (arith, next) in
    rw same (omega (arith, step, before, added))

-- a range isn't fit where one block more doesn't fit
pub never_fits : (c : Code) (g : Graph) (range : BlockRange) (b words : ℕ) → IsRange c range → range.first ≤ b → b ≤ range.last → words ≡ size_below (is_site g) c.blocks.items range b → (MayStand c range b → words + size_in c g range b ≤ most_words → ⊥) → IsFit c g range → ⊥
never_fits c g range b words is from to before never fit =
    let inside = holds range b from to in
    let step = one_more c g range b inside in
    let last = is.below in
    let part = part_below c g range (suc b) (omega (arith, to, last)) in
    let small = fit.small in
    never (fit.stand b inside) (omega (arith, step, before, part, small))

-- it is where all do
pub fits : (c : Code) (g : Graph) (range : BlockRange) (n words : ℕ) → IsRange c range → n ≡ range.last + 1 → words ≡ size_below (is_site g) c.blocks.items range n → words ≤ most_words → ((k : ℕ) → range.first ≤ k → k < n → MayStand c range k) → IsFit c g range × (words ≡ copy_words (is_site g) c.blocks.items range)
fits c g range n words is end all few stand =
    let next : n ≡ suc range.last = omega (arith, end) in
    let whole : words ≡ copy_words (is_site g) c.blocks.items range = all ∙ ap (size_below (is_site g) c.blocks.items range) next ∙ sym (none_behind c g range is.below) in (
      record {
        stand = λ b inside. let place = held range b inside in let high = place.1 in stand b place.0 (omega (arith, high, end));
        small = omega (arith, whole, few);
      },
      whole,
    )
