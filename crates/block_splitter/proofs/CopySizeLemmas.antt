-- How many words copies have.
use Rattle.std.proofs.Common.{◌≡◌, ◌∙◌, ◌⊎◌, inl, inr, ℕ, zero, suc, ◌+◌, ◌-◌, ◌<◌, ◌≤◌, Bool, true, false, if◌then◌else◌, List, [], ◌∷◌, ◌++◌, length, slice_index_or, refl, sym, ap, subst, arith, append-nil, length-append}
use Rattle.std.specs.Bool.{MatchBool}
use Rattle.std.proofs.Math.ListN.{get_or-append}
use Rattle.std.proofs.Math.Seq.{get_or-append_seam}
use Rattle.std.proofs.lemmas.Bool.{cond_both}
use Rattle.std.proofs.lemmas.Bool.Decides.{nat_tests}
use Rattle.list_checks.proofs.SumLemmas.{sum_zero, sum_rises, sum_stays}
use Rattle.list_checks.specs.Sorted.{collected}
use Rattle.rv32im.proofs.SequenceLemmas.{mean_count}
use Rattle.code_blocks.specs.declared.parts.Unit.{Unit}
use Rattle.code_blocks.specs.declared.parts.Code.{Code}
use Rattle.code_blocks.specs.declared.ends.End.{End}
use Rattle.code_blocks.specs.declared.ends.End.TheVariants as end
use Rattle.block_splitter.specs.declared.block_range.BlockRange.{BlockRange}
use Rattle.block_splitter.specs.declared.copy_plan.CopyPlan.{CopyPlan}
use Rattle.block_splitter.specs.declared.unit_kind.UnitKind.{UnitKind}
use Rattle.block_splitter.specs.declared.unit_kind.UnitKind.TheVariants.{Plain, Upper, Branch, Jump, Call, Tail, Indirect, Linking, Halt}
use Rattle.block_splitter.specs.Forms.{is_site, body_at, holds_block, copy_size, fall_out_size, block_size}
use Rattle.block_splitter.specs.Pieces.{HasShape, IsRange}
use Rattle.block_splitter.specs.Copies.{Copy, is_inside, kind_in, words_before, place_of, JumpsOut, IsUnitCopy, IsFallOut, FallsTo}
use Rattle.block_splitter.specs.Copying.{copy_in, IsPlan}
use Rattle.block_splitter.proofs.FieldLemmas.{has_unit}

-- ---- ranges

pub holds : (b : ℕ) (range : BlockRange) → range.first ≤ b → b ≤ range.last → holds_block b range ≡ true
holds b range from to = grind (arith, nat_tests, from, to)

pub held : (b : ℕ) (range : BlockRange) → holds_block b range ≡ true → (range.first ≤ b) × (b ≤ range.last)
held b range inside = grind (arith, nat_tests, inside)

pub before_range : (b : ℕ) (range : BlockRange) → b < range.first → holds_block b range ≡ false
before_range b range below = grind (arith, nat_tests, below)

pub behind_range : (b : ℕ) (range : BlockRange) → range.last < b → holds_block b range ≡ false
behind_range b range above = grind (arith, nat_tests, above)

pub range_is : (c : Code) (range : BlockRange) → HasShape c range → IsRange c range
range_is c range (f, inl whole) = whole.is_range
range_is c range (f, inr (inl loop)) = loop.is_range
range_is c range (f, inr (inr single)) = single.is_range

-- ---- lists by place

pub collected_none : (test : ℕ → Bool) (value : ℕ → ℕ) (n : ℕ) → ((k : ℕ) → k < n → test k ≡ false) → collected test value n ≡ []
collected_none test value zero none = refl
collected_none test value (suc n) none =
    rw (collected_none test value n (λ k below. none k (omega (arith, below))), none n (omega arith)) refl

pub collected_same : (test : ℕ → Bool) (value : ℕ → ℕ) (n m : ℕ) → m ≤ n → ((k : ℕ) → m ≤ k → k < n → test k ≡ false) → collected test value n ≡ collected test value m
collected_same test value zero m le none = let no : m ≡ 0 = omega (arith, le) in rw no refl
collected_same test value (suc n) m le none =
    let place : (m ≡ suc n) ⊎ (m ≤ n) = grind arith in
    elim place [
      | inl same ↦ rw same refl
      | inr lower ↦
          rw (none n lower (omega arith))
          (append-nil (collected test value n) ∙ collected_same test value n m lower (λ k from below. none k from (omega (arith, below))))
    ]

pub collected_push : (test : ℕ → Bool) (value : ℕ → ℕ) (n : ℕ) → test n ≡ true → collected test value (suc n) ≡ collected test value n ++ value n ∷ []
collected_push test value n passes = rw passes refl

-- what place `b` gives stands behind what the places before it give
pub record StandsAt (xs : List ℕ) (place x : ℕ) : Type 0 where
  pub below : place < length xs
  pub is : (d : ℕ) → slice_index_or xs place d ≡ x

stands_append : (xs ys : List ℕ) (place x : ℕ) → StandsAt xs place x → StandsAt (xs ++ ys) place x
stands_append xs ys place x at =
    let size = length-append xs ys in
    let below = at.below in
    record { below = omega (arith, size, below); is = λ d. get_or-append xs ys d place below ∙ at.is d }

pub collected_at : (test : ℕ → Bool) (value : ℕ → ℕ) (n b : ℕ) → test b ≡ true → b < n → StandsAt (collected test value n) (length (collected test value b)) (value b)
collected_at test value zero b passes below = absurd (omega arith)
collected_at test value (suc n) b passes below =
    let place : (b ≡ n) ⊎ (b < n) = grind arith in
    elim place [
      | inl here ↦
          let grown = collected_push test value b passes in
          let size = length-append (collected test value b) (value b ∷ []) in
          let at : StandsAt (collected test value b ++ value b ∷ []) (length (collected test value b)) (value b) =
          record { below = omega (arith, size); is = λ d. get_or-append_seam (collected test value b) (value b) [] d } in
          subst (λ (m : ℕ). StandsAt (collected test value (suc m)) (length (collected test value b)) (value b)) here
          (subst (λ (xs : List ℕ). StandsAt xs (length (collected test value b)) (value b)) (sym grown) at)
      | inr earlier ↦
          stands_append (collected test value n) (if test n then value n ∷ [] else []) (length (collected test value b)) (value b) (collected_at test value n b passes earlier)
    ]

-- of a range all places from its first on are collected
pub collected_length : (range : BlockRange) (value : ℕ → ℕ) (b : ℕ) → range.first ≤ b → b ≤ suc range.last → length (collected (λ k. holds_block k range) value b) ≡ b - range.first
collected_length range value zero from to = omega (arith, from)
collected_length range value (suc b) from to =
    let test : ℕ → Bool = λ k. holds_block k range in
    let place : (range.first ≡ suc b) ⊎ (range.first ≤ b) = grind (arith, from) in
    elim place [
      | inl first ↦
          let none = collected_none test value (suc b) (λ k below. before_range k range (omega (arith, first, below))) in
          let size = ap (λ (xs : List ℕ). length xs) none in
          omega (arith, size, first)
      | inr lower ↦
          let grown = collected_push test value b (holds b range lower (omega (arith, to))) in
          let size = ap (λ (xs : List ℕ). length xs) grown ∙ length-append (collected test value b) (value b ∷ []) in
          let rest = collected_length range value b lower (omega (arith, to)) in
          omega (arith, size, rest, lower)
    ]

-- ---- sizes of copies

one_or : (inside : Bool) (many : ℕ) (P Q : Type 0) (ws : List ℕ) → MatchBool inside P Q → (P → length ws ≡ 1) → (Q → length ws ≡ many) → length ws ≡ (if inside then 1 else many)
one_or true many P Q ws are one other = one are
one_or false many P Q ws are one other = other are

pub unit_size : (x : Copy) (at : ℕ) (u : Unit) (kind : UnitKind) (ws : List ℕ) → IsUnitCopy x at u kind ws → length ws ≡ copy_size (is_inside x) kind
unit_size x at u Plain ws are = ap (λ (xs : List ℕ). length xs) are
unit_size x at u (Upper rd value) ws are = mean_count ws _ are
unit_size x at u (Branch kind rs1 rs2 target) ws are =
    one_or (is_inside x target) 3 _ _ ws are (λ inside. mean_count ws _ inside.words) (λ out. mean_count ws _ out.words)
unit_size x at u (Jump target) ws are =
    one_or (is_inside x target) 2 _ _ ws are (λ inside. mean_count ws _ inside.words) (λ out. mean_count ws _ out.words)
unit_size x at u (Call target back link) ws are = mean_count ws _ are.words
unit_size x at u (Tail target register) ws are = mean_count ws _ are
unit_size x at u Indirect ws are = ap (λ (xs : List ℕ). length xs) are
unit_size x at u (Linking back link base imm) ws are = mean_count ws _ are
unit_size x at u Halt ws are = ap (λ (xs : List ℕ). length xs) are

none_or : (inside : Bool) (Q : Type 0) (ws : List ℕ) → MatchBool inside (ws ≡ []) Q → (Q → length ws ≡ 2) → length ws ≡ (if inside then 0 else 2)
none_or true Q ws are other = ap (λ (xs : List ℕ). length xs) are
none_or false Q ws are other = other are

falls_size : (x : Copy) (next : ℕ) (ws : List ℕ) → FallsTo x next ws → length ws ≡ (if is_inside x next then 0 else 2)
falls_size x next ws are = none_or (is_inside x next) (JumpsOut x.code [] next 0 ws) ws are (λ out. mean_count ws _ out.words)

pub fall_size : (x : Copy) (e : End) (ws : List ℕ) → IsFallOut x e ws → length ws ≡ fall_out_size (is_inside x) e
fall_size x (end.Fall next) ws are = falls_size x next ws are
fall_size x (end.Branch target next) ws are = falls_size x next ws are
fall_size x (end.Jump target) ws are = ap (λ (xs : List ℕ). length xs) are
fall_size x (end.Call target back link) ws are = ap (λ (xs : List ℕ). length xs) are
fall_size x (end.Tail target) ws are = ap (λ (xs : List ℕ). length xs) are
fall_size x (end.Indirect back) ws are = ap (λ (xs : List ℕ). length xs) are
fall_size x end.Stop ws are = ap (λ (xs : List ℕ). length xs) are

pub some_word : (inside : ℕ → Bool) (kind : UnitKind) → 0 < copy_size inside kind
some_word inside Plain = omega arith
some_word inside (Upper rd value) = omega arith
some_word inside (Branch kind rs1 rs2 target) = cond_both (inside target) 1 3 (λ n. 0 < n) (λ yes. omega arith) (λ no. omega arith)
some_word inside (Jump target) = cond_both (inside target) 1 2 (λ n. 0 < n) (λ yes. omega arith) (λ no. omega arith)
some_word inside (Call target back link) = omega arith
some_word inside (Tail target register) = omega arith
some_word inside Indirect = omega arith
some_word inside (Linking back link base imm) = omega arith
some_word inside Halt = omega arith

-- ---- places in a copy

abbrev pub block_words : Copy → ℕ → ℕ
block_words x b = block_size (is_site x.graph) (is_inside x) (body_at x.code.blocks.items b)

-- what a block adds to a copy
abbrev pub held_words : Copy → ℕ → ℕ
held_words x b = if holds_block b x.range then block_words x b else 0

-- one more block of the range
pub words_more : (x : Copy) (b : ℕ) → holds_block b x.range ≡ true → words_before x (suc b) ≡ words_before x b + block_words x b
words_more x b inside = ap (λ (t : Bool). words_before x b + (if t then block_words x b else 0)) inside

pub before_first : (x : Copy) → words_before x x.range.first ≡ 0
before_first x =
    sum_zero (held_words x) x.range.first (λ k below. ap (λ (t : Bool). if t then block_words x k else 0) (before_range k x.range below))

pub words_whole : (x : Copy) → x.range.last < length x.code.blocks.items → words_before x (length x.code.blocks.items) ≡ words_before x (suc x.range.last)
words_whole x below =
    sum_stays (held_words x) (suc x.range.last) (length x.code.blocks.items) (omega (arith, below))
    (λ k from to. ap (λ (t : Bool). if t then block_words x k else 0) (behind_range k x.range (omega (arith, from))))

pub below_code : (p : CopyPlan) (b : ℕ) → IsPlan p → holds_block b p.range ≡ true → b < length p.code.now.blocks.items
below_code p b plan inside =
    let range = range_is p.code.now p.range plan.copied.shape in
    let bounds = held b p.range inside in
    let below = range.below in
    let to = bounds.1 in
    omega (arith, below, to)

-- a block ends at most 1,024 words behind the beginning of its copy
pub block_ends : (p : CopyPlan) (b : ℕ) → IsPlan p → holds_block b p.range ≡ true → words_before (copy_in p) b + block_words (copy_in p) b ≤ 1024
block_ends p b plan inside =
    let x = copy_in p in
    let more = words_more x b inside in
    let below = below_code p b plan inside in
    let grows = sum_rises (held_words x) (suc b) (length p.code.now.blocks.items) (omega (arith, below)) in
    let small = plan.copied.small in
    omega (arith, more, grows, small)

-- and so does a unit of it
pub unit_ends : (p : CopyPlan) (b k : ℕ) → IsPlan p → holds_block b p.range ≡ true → k < length (body_at p.code.now.blocks.items b).units → place_of (copy_in p) b k + copy_size (is_inside (copy_in p)) (kind_in (copy_in p) b k) ≤ 1024
unit_ends p b k plan inside within =
    let x = copy_in p in
    let body = body_at p.code.now.blocks.items b in
    let ends = block_ends p b plan inside in
    let grows = sum_rises (λ j. copy_size (is_inside x) (kind_in x b j)) (suc k) (length body.units) (omega (arith, within)) in
    omega (arith, ends, grows)

pub has_room : (p : CopyPlan) (b k : ℕ) → IsPlan p → holds_block b p.range ≡ true → k < length (body_at p.code.now.blocks.items b).units → place_of (copy_in p) b k < 1024
has_room p b k plan inside within =
    let ends = unit_ends p b k plan inside within in
    let some = some_word (is_inside (copy_in p)) (kind_in (copy_in p) b k) in
    omega (arith, ends, some)

pub begins_within : (p : CopyPlan) (b : ℕ) → IsPlan p → holds_block b p.range ≡ true → words_before (copy_in p) b < 1024
begins_within p b plan inside =
    let some = has_unit plan.view p.code.now b plan.code (below_code p b plan inside) in
    let room = has_room p b 0 plan inside some in
    omega (arith, room)
