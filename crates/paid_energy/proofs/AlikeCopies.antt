-- Two copies of the same blocks at the same place have the same words.
use Rattle.std.proofs.Common.{◌≡◌, ◌∙◌, inl, inr, ℕ, zero, suc, ◌+◌, ◌<◌, ◌≤◌, Bool, true, false, List, [], ◌∷◌, ◌++◌, take, drop, length, refl, sym, ap, subst, arith}
use Rattle.std.specs.Bool.{MatchBool}
use Rattle.std.proofs.lemmas.Bool.{cases_order, cases_Bool}
use Rattle.std.proofs.lemmas.List.{take_all}
use Rattle.std.proofs.lemmas.List.Elements.{All-take, All-drop}
use Rattle.rv32im.specs.declared.instructions.Instr.{Instr}
use Rattle.rv32im.specs.declared.instructions.Instr.TheVariants as instr
use Rattle.rv32im.specs.declared.instructions.RegSet.{RegSet}
use Rattle.rv32im.specs.Sequences.{load_immediate, jump_absolute, distance, MeanAll}
use Rattle.rv32im.proofs.Meaning.{same_word}
use Rattle.rv32im.proofs.SequenceLemmas.{mean_count}
use Rattle.object_graph.specs.declared.parts.Graph.{Graph}
use Rattle.code_blocks.specs.Numbers.{start_at, end_at}
use Rattle.code_blocks.specs.declared.parts.Unit.{Unit}
use Rattle.code_blocks.specs.declared.parts.Code.{Code}
use Rattle.code_blocks.specs.declared.ends.End.{End}
use Rattle.code_blocks.specs.declared.ends.End.TheVariants as end
use Rattle.dataflow.specs.Tables.{IsLeastFree}
use Rattle.block_splitter.specs.declared.block_range.BlockRange.{BlockRange}
use Rattle.block_splitter.specs.declared.unit_kind.UnitKind.{UnitKind}
use Rattle.block_splitter.specs.declared.unit_kind.UnitKind.TheVariants.{Plain, Upper, Branch, Jump, Call, Tail, Indirect, Linking, Halt}
use Rattle.block_splitter.specs.Forms.{body_at, holds_block, copy_size, fall_out_size, displaced_size}
use Rattle.block_splitter.specs.Copies.{Patch, word_of_unit, Copy, is_inside, unit_of, kind_in, words_before, place_of, address_of, words_at, JumpsOut, BranchesInside, IsUnitCopy, FallsTo, IsFallOut, IsBlockCopy, IsCopy, RunsThenJumps, IsDisplaced}
use Rattle.block_splitter.proofs.FieldLemmas.{same_end}
use Rattle.block_splitter.proofs.CopySizeLemmas.{block_words, words_more}
use Rattle.paid_energy.proofs.AlikeWords.{IsSmall, AreSmall, same_words, take_more}

-- ---- registers

pub one_free : (c : Code) (leader : ℕ) (avoid : RegSet) (r s : ℕ) → IsLeastFree c leader avoid r → IsLeastFree c leader avoid s → r ≡ s
one_free c leader avoid r s one other =
    elim (cases_order r s) [
      | inl is ↦ is
      | inr differ ↦ elim differ [
        | inl less ↦ absurd (other.least r one.from less one.free)
        | inr more ↦ absurd (one.least s other.from more other.free)
      ]
    ]

pub jumps_same : (c : Code) (before : List Instr) (target link : ℕ) (ws vs : List ℕ) → AreSmall ws → AreSmall vs → JumpsOut c before target link ws → JumpsOut c before target link vs → ws ≡ vs
jumps_same c before target link ws vs small more out other =
    let register = one_free c target _ out.temporary other.temporary out.free other.free in
    same_words (before ++ jump_absolute other.temporary target) ws vs small more
    (subst (λ (t : ℕ). MeanAll ws (before ++ jump_absolute t target)) register out.words) other.words

-- ---- two forms, by one test

both_forms : (b : Bool) (P Q R S : Type 0) (ws vs : List ℕ) → MatchBool b P Q → MatchBool b R S → (P → R → ws ≡ vs) → (Q → S → ws ≡ vs) → ws ≡ vs
both_forms true P Q R S ws vs one other inside out = inside one other
both_forms false P Q R S ws vs one other inside out = out one other

small_part : (place n : ℕ) (ws : List ℕ) → AreSmall ws → AreSmall (words_at ws place n)
small_part place n ws small = All-take IsSmall n (drop place ws) (All-drop IsSmall place ws small)

-- no two blocks of a range begin at one address
abbrev pub HaveOneStart : Code → BlockRange → Type 0
HaveOneStart c range = (b d : ℕ) → holds_block b range ≡ true → holds_block d range ≡ true → start_at c b ≡ start_at c d → b ≡ d

module _ (c : Code) (g : Graph) (range : BlockRange) (at : ℕ) (one other : List Patch) (apart : HaveOneStart c range) where
  abbrev pub x : Copy
  x = record { code = c; graph = g; range = range; at = at; sites = one }

  abbrev pub y : Copy
  y = record { code = c; graph = g; range = range; at = at; sites = other }

  inside_same : (from : ℕ) (i : ℕ → Instr) (target : ℕ) (ws vs : List ℕ) → AreSmall ws → AreSmall vs → BranchesInside x from i target ws → BranchesInside y from i target vs → ws ≡ vs
  inside_same from i target ws vs small more into too =
      let block : into.leads.block ≡ too.leads.block =
      apart into.leads.block too.leads.block into.leads.inside too.leads.inside (into.leads.begins ∙ sym too.leads.begins) in
      let there : into.to ≡ too.to = into.leads.there ∙ (ap (λ (b : ℕ). address_of x (words_before x b)) block ∙ sym too.leads.there) in
      same_words (i too.to ∷ []) ws vs small more (subst (λ (to : ℕ). MeanAll ws (i to ∷ [])) there into.words) too.words

  pub unit_same : (a : ℕ) (u : Unit) (kind : UnitKind) (ws vs : List ℕ) → word_of_unit one u ≡ word_of_unit other u → AreSmall ws → AreSmall vs → IsUnitCopy x a u kind ws → IsUnitCopy y a u kind vs → ws ≡ vs
  unit_same a u Plain ws vs same small more are too = are ∙ (ap (λ (w : ℕ). w ∷ []) same ∙ sym too)
  unit_same a u (Upper rd value) ws vs same small more are too = same_words (load_immediate rd value) ws vs small more are too
  unit_same a u (Branch kind rs1 rs2 target) ws vs same small more are too =
      both_forms (is_inside x target) _ _ _ _ ws vs are too
      (λ into also. inside_same a (λ to. instr.Branch kind rs1 rs2 (distance a to)) target ws vs small more into also)
      (λ out also. jumps_same c _ target 0 ws vs small more out also)
  unit_same a u (Jump target) ws vs same small more are too =
      both_forms (is_inside x target) _ _ _ _ ws vs are too
      (λ into also. inside_same a (λ to. instr.Jal 0 (distance a to)) target ws vs small more into also)
      (λ out also. jumps_same c [] target 0 ws vs small more out also)
  unit_same a u (Call target back link) ws vs same small more are too = jumps_same c (load_immediate link back) target link ws vs small more are too
  unit_same a u (Tail target register) ws vs same small more are too = same_words (jump_absolute register target) ws vs small more are too
  unit_same a u Indirect ws vs same small more are too = are ∙ sym too
  unit_same a u (Linking back link base imm) ws vs same small more are too = same_words _ ws vs small more are too
  unit_same a u Halt ws vs same small more are too = are ∙ sym too

  falls_same : (next : ℕ) (ws vs : List ℕ) → AreSmall ws → AreSmall vs → FallsTo x next ws → FallsTo y next vs → ws ≡ vs
  falls_same next ws vs small more are too =
      both_forms (is_inside x next) _ _ _ _ ws vs are too (λ none also. none ∙ sym also) (λ out also. jumps_same c [] next 0 ws vs small more out also)

  fall_same : (e : End) (ws vs : List ℕ) → AreSmall ws → AreSmall vs → IsFallOut x e ws → IsFallOut y e vs → ws ≡ vs
  fall_same (end.Fall next) ws vs small more are too = falls_same next ws vs small more are too
  fall_same (end.Branch target next) ws vs small more are too = falls_same next ws vs small more are too
  fall_same (end.Jump target) ws vs small more are too = are ∙ sym too
  fall_same (end.Call target back link) ws vs small more are too = are ∙ sym too
  fall_same (end.Tail target) ws vs small more are too = are ∙ sym too
  fall_same (end.Indirect back) ws vs small more are too = are ∙ sym too
  fall_same end.Stop ws vs small more are too = are ∙ sym too

  -- ---- blocks

  -- units of the code that have the same words by both lists
  abbrev pub HaveSameWords : Type 0
  HaveSameWords = (b k : ℕ) → b < length c.blocks.items → k < length (body_at c.blocks.items b).units → word_of_unit one (unit_of x b k) ≡ word_of_unit other (unit_of x b k)

  module _ (ws vs : List ℕ) (small : AreSmall ws) (more : AreSmall vs) (words : HaveSameWords) where
    units_same : (b k : ℕ) → b < length c.blocks.items → k ≤ length (body_at c.blocks.items b).units → IsBlockCopy x ws b → IsBlockCopy y vs b → take (words_before x b) ws ≡ take (words_before x b) vs → take (place_of x b k) ws ≡ take (place_of x b k) vs
    units_same b zero below within are too before =
        subst (λ (n : ℕ). take n ws ≡ take n vs) (omega arith) before
    units_same b (suc k) below within are too before =
        let inside : k < length (body_at c.blocks.items b).units = omega (arith, within) in
        let earlier = units_same b k below (omega (arith, within)) are too before in
        let size : ℕ = copy_size (is_inside x) (kind_in x b k) in
        let here : words_at ws (place_of x b k) size ≡ words_at vs (place_of x b k) size =
        unit_same (address_of x (place_of x b k)) (unit_of x b k) (kind_in x b k) (words_at ws (place_of x b k) size) (words_at vs (place_of x b k) size) (words b k below inside)
        (small_part (place_of x b k) size ws small) (small_part (place_of x b k) size vs more) (are.units k inside) (too.units k inside) in
        subst (λ (n : ℕ). take n ws ≡ take n vs) (omega arith) (take_more (place_of x b k) size ws vs earlier here)

    block_same : (b : ℕ) → b < length c.blocks.items → IsBlockCopy x ws b → IsBlockCopy y vs b → take (words_before x b) ws ≡ take (words_before x b) vs → take (words_before x b + block_words x b) ws ≡ take (words_before x b + block_words x b) vs
    block_same b below are too before =
        let n : ℕ = length (body_at c.blocks.items b).units in
        let earlier = units_same b n below (omega arith) are too before in
        let e : End = end_at c b in
        let size : ℕ = fall_out_size (is_inside x) e in
        let here : words_at ws (place_of x b n) size ≡ words_at vs (place_of x b n) size =
        fall_same e (words_at ws (place_of x b n) size) (words_at vs (place_of x b n) size) (small_part (place_of x b n) size ws small) (small_part (place_of x b n) size vs more) are.falls too.falls in
        let ends : fall_out_size (is_inside x) (body_at c.blocks.items b).end ≡ size = ap (fall_out_size (is_inside x)) (same_end c b below) in
        subst (λ (m : ℕ). take m ws ≡ take m vs) (omega (arith, ends)) (take_more (place_of x b n) size ws vs earlier here)

    module _ (starts later : List ℕ) (are : IsCopy x ws starts) (too : IsCopy y vs later) where
      blocks_same : (n : ℕ) → n ≤ length c.blocks.items → take (words_before x n) ws ≡ take (words_before x n) vs
      blocks_same zero within = refl
      blocks_same (suc n) within =
          let earlier = blocks_same n (omega (arith, within)) in
          elim (cases_Bool (holds_block n range)) [
            | inl inside ↦
                subst (λ (m : ℕ). take m ws ≡ take m vs) (sym (words_more x n inside))
                (block_same n (omega (arith, within)) (are.blocks n inside) (too.blocks n inside) earlier)
            | inr out ↦
                let none : words_before x n ≡ words_before x (suc n) = rw out (omega arith) in
                subst (λ (m : ℕ). take m ws ≡ take m vs) none earlier
          ]

      pub copy_same : ws ≡ vs
      copy_same =
          let whole = blocks_same (length c.blocks.items) (omega arith) in
          let count = are.count in
          let other_count = too.count in
          sym (take_all (words_before x (length c.blocks.items)) ws (omega (arith, count)))
          ∙ (whole ∙ take_all (words_before x (length c.blocks.items)) vs (omega (arith, other_count)))

      pub starts_same : starts ≡ later
      starts_same = are.begins ∙ sym too.begins

-- ---- displaced units

runs_same : (a word next : ℕ) (ws vs : List ℕ) → AreSmall ws → AreSmall vs → RunsThenJumps a word next ws → RunsThenJumps a word next vs → ws ≡ vs
runs_same a word next ws vs small more are too =
    let one : IsSmall are.jump = subst AreSmall are.words small 1 0 (omega arith) in
    let two : IsSmall too.jump = subst AreSmall too.words more 1 0 (omega arith) in
    let jump : are.jump ≡ too.jump = same_word are.jump too.jump (instr.Jal 0 (distance (a + 4) next)) one two are.means too.means in
    are.words ∙ (ap (λ (j : ℕ). word ∷ j ∷ []) jump ∙ sym too.words)

pub displaced_same : (one other : List Patch) (a : ℕ) (u : Unit) (kind : UnitKind) (ws vs : List ℕ) → word_of_unit one u ≡ word_of_unit other u → AreSmall ws → AreSmall vs → IsDisplaced one a u kind ws → IsDisplaced other a u kind vs → ws ≡ vs
displaced_same one other a u Plain ws vs same small more are too =
    runs_same a (word_of_unit other u) (u.at + 4) ws vs small more (subst (λ (w : ℕ). RunsThenJumps a w (u.at + 4) ws) same are) too
displaced_same one other a u (Upper rd value) ws vs same small more are too = same_words _ ws vs small more are too
displaced_same one other a u (Branch kind rs1 rs2 target) ws vs same small more are too = same_words _ ws vs small more are too
displaced_same one other a u (Jump target) ws vs same small more are too = same_words _ ws vs small more are too
displaced_same one other a u (Call target back link) ws vs same small more are too = same_words _ ws vs small more are too
displaced_same one other a u (Tail target register) ws vs same small more are too = same_words _ ws vs small more are too
displaced_same one other a u Indirect ws vs same small more are too = are ∙ sym too
displaced_same one other a u (Linking back link base imm) ws vs same small more are too = same_words _ ws vs small more are too
displaced_same one other a u Halt ws vs same small more are too = are ∙ sym too

pub displaced_count : (sites : List Patch) (a : ℕ) (u : Unit) (kind : UnitKind) (ws : List ℕ) → IsDisplaced sites a u kind ws → length ws ≡ displaced_size kind
displaced_count sites a u Plain ws are = ap (λ (xs : List ℕ). length xs) are.words
displaced_count sites a u (Upper rd value) ws are = mean_count ws _ are
displaced_count sites a u (Branch kind rs1 rs2 target) ws are = mean_count ws _ are
displaced_count sites a u (Jump target) ws are = mean_count ws _ are
displaced_count sites a u (Call target back link) ws are = mean_count ws _ are
displaced_count sites a u (Tail target register) ws are = mean_count ws _ are
displaced_count sites a u Indirect ws are = ap (λ (xs : List ℕ). length xs) are
displaced_count sites a u (Linking back link base imm) ws are = mean_count ws _ are
displaced_count sites a u Halt ws are = ap (λ (xs : List ℕ). length xs) are
