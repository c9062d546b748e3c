-- Sums and lists over the blocks of a range.
use Rattle.std.proofs.Common.{◌≡◌, ◌∙◌, inl, inr, ℕ, zero, suc, ◌+◌, ◌<◌, ◌≤◌, nat_lt, Bool, true, false, not, ◌&&◌, ◌||◌, if◌then◌else◌, List, [], ◌∷◌, ◌++◌, refl, sym, ap, arith, append-nil}
use Rattle.std.proofs.lemmas.Bool.{cases_lt}
use Rattle.std.proofs.lemmas.Bool.Decides.{nat_tests}
use Rattle.list_checks.specs.Tests.{any_below}
use Rattle.list_checks.proofs.SumLemmas.{sum_rises, sum_stays}
use Rattle.list_checks.specs.Sorted.{collected}
use Rattle.code_blocks.specs.declared.parts.Code.{Code}
use Rattle.object_graph.specs.declared.parts.Graph.{Graph}
use Rattle.block_splitter.specs.declared.block_range.BlockRange.{BlockRange}
use Rattle.block_splitter.specs.Forms.{is_site, holds_block, size_below, copy_words}
use Rattle.block_splitter.specs.Facts.{block_count, size_in}

pick_none : (t : Bool) (x : ℕ) → t ≡ false → (if t then x else 0) ≡ 0
pick_none true x is = cc
pick_none false x is = refl

pick_some : (t : Bool) (x : ℕ) → t ≡ true → (if t then x else 0) ≡ x
pick_some true x is = refl
pick_some false x is = cc

not_before : (range : BlockRange) (k : ℕ) → k < range.first → holds_block k range ≡ false
not_before range k below = grind (arith, nat_tests, below)

not_behind : (range : BlockRange) (k : ℕ) → range.last < k → holds_block k range ≡ false
not_behind range k above = grind (arith, nat_tests, above)

-- no block stands before the first
pub none_before : (c : Code) (g : Graph) (range : BlockRange) → size_below (is_site g) c.blocks.items range range.first ≡ 0
none_before c g range =
    sum_stays _ 0 range.first (omega arith) (λ k low high. pick_none (holds_block k range) (size_in c g range k) (not_before range k high))

-- one block more
pub one_more : (c : Code) (g : Graph) (range : BlockRange) (b : ℕ) → holds_block b range ≡ true → size_below (is_site g) c.blocks.items range (suc b) ≡ size_below (is_site g) c.blocks.items range b + size_in c g range b
one_more c g range b holds = ap (λ (x : ℕ). size_below (is_site g) c.blocks.items range b + x) (pick_some (holds_block b range) (size_in c g range b) holds)

-- none stands behind the last
pub none_behind : (c : Code) (g : Graph) (range : BlockRange) → range.last < block_count c → copy_words (is_site g) c.blocks.items range ≡ size_below (is_site g) c.blocks.items range (suc range.last)
none_behind c g range below =
    sum_stays _ (suc range.last) (block_count c) (omega (arith, below))
    (λ k low high. pick_none (holds_block k range) (size_in c g range k) (not_behind range k (omega (arith, low))))

-- a part is at most the whole
pub part_below : (c : Code) (g : Graph) (range : BlockRange) (b : ℕ) → b ≤ block_count c → size_below (is_site g) c.blocks.items range b ≤ copy_words (is_site g) c.blocks.items range
part_below c g range b le = sum_rises _ b (block_count c) le

-- ---- what is collected

none_collected : (test : ℕ → Bool) (value : ℕ → ℕ) (m n : ℕ) → m ≤ n → ((k : ℕ) → m ≤ k → k < n → test k ≡ false) → collected test value n ≡ collected test value m
none_collected test value m zero le none = let here : m ≡ 0 = omega (arith, le) in rw here refl
none_collected test value m (suc n) le none =
    elim (cases_lt n m) [
      | inl here ↦ let same : m ≡ suc n = omega (arith, le, here) in rw same refl
      | inr below ↦
          let rest = none_collected test value m n below (λ k low high. none k low (omega (arith, high))) in
          let last = none n below (omega arith) in
          ap (λ (t : Bool). collected test value n ++ (if t then value n ∷ [] else [])) last
          ∙ append-nil (collected test value n)
          ∙ rest
    ]

not_first : (t u : Bool) → t ≡ false → t && u ≡ false
not_first t u is = rw is refl

-- of the blocks of a range those that pass a test, from the first to the last
pub collected_before : (range : BlockRange) (test : ℕ → Bool) → collected (λ b. holds_block b range && test b) (λ b. b) range.first ≡ []
collected_before range test =
    none_collected (λ b. holds_block b range && test b) (λ b. b) 0 range.first (omega arith) (λ k low high. not_first (holds_block k range) (test k) (not_before range k high))

pub collected_behind : (range : BlockRange) (test : ℕ → Bool) (n : ℕ) → range.last < n → collected (λ b. holds_block b range && test b) (λ b. b) n ≡ collected (λ b. holds_block b range && test b) (λ b. b) (suc range.last)
collected_behind range test n below =
    none_collected (λ b. holds_block b range && test b) (λ b. b) (suc range.last) n (omega (arith, below)) (λ k low high. not_first (holds_block k range) (test k) (not_behind range k (omega (arith, low))))

-- ---- edges from outside

either_side : (first last a : ℕ) (range : BlockRange) (l : Bool) → range.first ≡ first → range.last ≡ last → not (holds_block a range) && l ≡ (nat_lt a first && l) || (nat_lt last a && l)
either_side first last a range true begins ends = grind (arith, nat_tests, begins, ends)
either_side first last a range false begins ends = grind (arith, nat_tests, begins, ends)

or_four : (a b c d : Bool) → (a || b) || (c || d) ≡ (a || c) || (b || d)
or_four a b c d = grind arith

-- a block outside leads to a block just where one below the range or one above it does
pub from_outside : (range : BlockRange) (leads : ℕ → Bool) (n : ℕ) → any_below (λ a. not (holds_block a range) && leads a) n ≡ any_below (λ a. nat_lt a range.first && leads a) n || any_below (λ a. nat_lt range.last a && leads a) n
from_outside range leads zero = refl
from_outside range leads (suc n) =
    (λ i. from_outside range leads n i || either_side range.first range.last n range (leads n) refl refl i)
    ∙ or_four (any_below (λ a. nat_lt a range.first && leads a) n) (any_below (λ a. nat_lt range.last a && leads a) n) (nat_lt n range.first && leads n) (nat_lt range.last n && leads n)

pub collected_all : (range : BlockRange) (test : ℕ → Bool) (n m : ℕ) (xs : List ℕ) → range.last < n → m ≡ range.last + 1 → xs ≡ collected (λ b. holds_block b range && test b) (λ b. b) m → xs ≡ collected (λ b. holds_block b range && test b) (λ b. b) n
collected_all range test n m xs below end is =
    let next : m ≡ suc range.last = omega (arith, end) in
    is ∙ ap (collected (λ b. holds_block b range && test b) (λ b. b)) next ∙ sym (collected_behind range test n below)

-- one entry more, and none
pub entry_added : (old new : List ℕ) (b number : ℕ) (holds enters : Bool) → holds ≡ true → enters ≡ true → number ≡ b → new ≡ old ++ number ∷ [] → new ≡ old ++ (if holds && enters then b ∷ [] else [])
entry_added old new b number true true here is same pushed = pushed ∙ ap (λ (n : ℕ). old ++ n ∷ []) same
entry_added old new b number true false here is same pushed = cc
entry_added old new b number false enters here is same pushed = cc

pub entry_left : (old : List ℕ) (b : ℕ) (holds enters : Bool) → enters ≡ false → old ≡ old ++ (if holds && enters then b ∷ [] else [])
entry_left old b true true is = cc
entry_left old b true false is = sym (append-nil old)
entry_left old b false enters is = sym (append-nil old)
