-- At which places of a copy no unit begins: behind the first word of a unit, and behind a block from which control falls out.
use Rattle.std.proofs.Common.{◌≡◌, inl, inr, ℕ, suc, ◌+◌, ◌<◌, ◌≤◌, Bool, true, false, not, ◌&&◌, if◌then◌else◌, length, ap, subst, arith}
use Rattle.std.proofs.lemmas.Bool.{cases_order}
use Rattle.list_checks.proofs.SumLemmas.{sum_rises}
use Rattle.block_splitter.specs.declared.unit_kind.UnitKind.{UnitKind}
use Rattle.block_splitter.specs.declared.unit_kind.UnitKind.TheVariants.{Plain, Upper, Branch, Jump, Call, Tail, Indirect, Linking, Halt}
use Rattle.block_splitter.specs.Forms.{body_at, holds_block, copy_size, fall_out_size}
use Rattle.block_splitter.specs.Copies.{Copy, is_inside, kind_in, words_before, place_of}
use Rattle.result_laws.specs.Copied.{unit_words}
use Rattle.result_laws.specs.CopyLaws.{place_behind}
use Rattle.result_laws.proofs.Places.{sum_holds, size_at, next_place}
use Rattle.result_laws.proofs.PlacedUnits.{copy_some}

-- no more words of a unit's copy run than stand there
run_or_stand : (taken inside : Bool) → (if taken && not inside then 3 else 1) ≤ (if inside then 1 else 3)
run_or_stand true true = omega arith
run_or_stand true false = omega arith
run_or_stand false true = omega arith
run_or_stand false false = omega arith

pub words_stand : (inside : ℕ → Bool) (taken : Bool) (kind : UnitKind) → unit_words inside taken kind ≤ copy_size inside kind
words_stand inside taken Plain = omega arith
words_stand inside taken (Upper rd value) = omega arith
words_stand inside taken (Branch kind rs1 rs2 target) = run_or_stand taken (inside target)
words_stand inside taken (Jump target) = omega arith
words_stand inside taken (Call target back link) = omega arith
words_stand inside taken (Tail target link) = omega arith
words_stand inside taken Indirect = omega arith
words_stand inside taken (Linking back link base imm) = omega arith
words_stand inside taken Halt = omega arith

module _ (x : Copy) where
  abbrev pub unit_count : ℕ → ℕ
  unit_count b = length (body_at x.code.blocks.items b).units

  -- no unit of the copy begins at a place
  abbrev pub BeginsNone : ℕ → Type 0
  BeginsNone place = (b k : ℕ) → holds_block b x.range ≡ true → k < unit_count b → place_of x b k ≡ place → ⊥

  abbrev size : ℕ → ℕ → ℕ
  size b k = copy_size (is_inside x) (kind_in x b k)

  abbrev fall : ℕ → ℕ
  fall b = fall_out_size (is_inside x) (body_at x.code.blocks.items b).end

  some_size : (b k : ℕ) → 1 ≤ size b k
  some_size b k = copy_some (is_inside x) (kind_in x b k)

  -- ---- units and blocks ascend

  unit_ends : (b k : ℕ) → k < unit_count b → place_of x b k + size b k ≤ place_behind x b
  unit_ends b k inside = let unit = sum_holds (λ j. size b j) k (unit_count b) inside in omega (arith, unit)

  units_ascend : (b j k : ℕ) → j < k → place_of x b j + size b j ≤ place_of x b k
  units_ascend b j k before = let unit = sum_holds (λ i. size b i) j k before in omega (arith, unit)

  blocks_ascend : (b d : ℕ) → holds_block b x.range ≡ true → b < d → place_behind x b + fall b ≤ words_before x d
  blocks_ascend b d held before =
      let next = next_place x b held in
      let rest = sum_rises (λ j. if holds_block j x.range then size_at x j else 0) (suc b) d before in
      omega (arith, next, rest)

  -- a unit of an earlier block stands before the next, and one of a later block behind
  earlier : (b e j : ℕ) → holds_block e x.range ≡ true → j < unit_count e → e < b → place_of x e j < words_before x b
  earlier b e j held inside less =
      let unit = unit_ends e j inside in
      let some = some_size e j in
      let block = blocks_ascend e b held less in
      omega (arith, unit, some, block)

  later : (b e j : ℕ) → holds_block b x.range ≡ true → b < e → place_behind x b + fall b ≤ place_of x e j
  later b e j held more = let block = blocks_ascend b e held more in omega (arith, block)

  -- ---- behind the first word of a unit

  module _ (b k i : ℕ) (held : holds_block b x.range ≡ true) (inside : k < unit_count b) (some : 0 < i) (small : i < size b k) where
    not_in_block : (j : ℕ) → place_of x b j ≡ place_of x b k + i → ⊥
    not_in_block j same =
        elim (cases_order j k) [
          | inl is ↦ let here : place_of x b j ≡ place_of x b k = ap (λ m. place_of x b m) is in omega (arith, here, same, some)
          | inr other ↦
              elim other [
                | inl less ↦ let before = units_ascend b j k less in omega (arith, before, same)
                | inr more ↦ let behind = units_ascend b k j more in omega (arith, behind, same, small)
              ]
        ]

    pub none_behind_first : BeginsNone (place_of x b k + i)
    none_behind_first e j held_too inside_too same =
        elim (cases_order e b) [
          | inl is ↦ not_in_block j (subst (λ d. place_of x d j ≡ place_of x b k + i) is same)
          | inr other ↦
              elim other [
                | inl less ↦ let before = earlier b e j held_too inside_too less in omega (arith, before, same)
                | inr more ↦
                    let behind = later b e j held more in
                    let ends = unit_ends b k inside in
                    omega (arith, behind, ends, same, small)
              ]
        ]

  -- ---- behind a block

  pub none_behind_block : (b i : ℕ) → holds_block b x.range ≡ true → i < fall b → BeginsNone (place_behind x b + i)
  none_behind_block b i held small e j held_too inside_too same =
      elim (cases_order e b) [
        | inl is ↦
            let here : place_of x b j ≡ place_behind x b + i = subst (λ d. place_of x d j ≡ place_behind x b + i) is same in
            let ends = unit_ends b j (subst (λ d. j < unit_count d) is inside_too) in
            let some = some_size b j in
            omega (arith, here, ends, some)
        | inr other ↦
            elim other [
              | inl less ↦ let before = earlier b e j held_too inside_too less in omega (arith, before, same)
              | inr more ↦ let behind = later b e j held more in omega (arith, behind, same, small)
            ]
      ]
