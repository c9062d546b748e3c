-- Where the patch range lies, and how far it is from the code.
use Rattle.std.proofs.Common.{◌≡◌, inl, inr, ℕ, zero, suc, ◌+◌, ◌%◌, ◌<◌, ◌≤◌, min, max, nat_le, Bool, true, false, List, [], ◌∷◌, length, None, sym, subst, arith, if◌then◌else◌}
use Rattle.std.proofs.lemmas.Bool.{cases_eq, leb-true}
use Rattle.std.proofs.lemmas.Bool.Decides.{nat_tests}
use Rattle.std.proofs.lemmas.List.{length-append}
use Rattle.std.proofs.Math.Nat.{min-le_left, min-le_right, le-max_left, le-max_right}
use Rattle.list_checks.specs.First.{unless, first_below}
use Rattle.list_checks.proofs.FirstLemmas.{both_none, holds}
use Rattle.rv32im.specs.Sequences.{distance}
use Rattle.rv32im.specs.declared.instructions.Instr.TheVariants.{Jal}
use Rattle.elf_reader.specs.File.{PlainView, view_in}
use Rattle.elf_reader.specs.Loaded.{section_at}
use Rattle.elf_reader.proofs.SegmentLemmas.{none_of_headers, load_segments_loadable}
use Rattle.board_config.specs.declared.board.Board.{Board}
use Rattle.loaded_file.specs.Code.{is_code_word}
use Rattle.code_blocks.specs.Words.{any_code_word}
use Rattle.code_blocks.specs.Blocks.{is_any, code_fault}
use Rattle.code_blocks.specs.declared.fault.CodeFault.TheVariants.{NoText, EntryNotLeader}
use Rattle.object_graph.specs.LayoutFaults.{has_code, least_below, greatest_below, span_of, patch_far_fault, places_fault, layout_fault, spm_overlap_fault, patch_overlap_fault}
use Rattle.object_graph.specs.declared.parts.Graph.{Graph}
use Rattle.patch_code.specs.Start.{StartPlan, before_jump, start_at, jump_at, start_bytes}
use Rattle.result_laws.specs.HomeLaws.{IsAccepted}
use Rattle.result_laws.proofs.Words.{code_range, code_even, code_below}

-- ---- how far the patch range is from the code

at_most : (b : Bool) (x y : ℕ) → (if b then min x y else x) ≤ x
at_most true x y = min-le_left x y
at_most false x y = omega arith

at_most_there : (b : Bool) (x y : ℕ) → b ≡ true → (if b then min x y else x) ≤ y
at_most_there true x y is = min-le_right x y
at_most_there false x y is = absurd (cc (is))

at_least : (b : Bool) (x y : ℕ) → x ≤ (if b then max x y else x)
at_least true x y = le-max_left x y
at_least false x y = omega arith

at_least_there : (b : Bool) (x y : ℕ) → b ≡ true → y ≤ (if b then max x y else x)
at_least_there true x y is = le-max_right x y
at_least_there false x y is = absurd (cc (is))

least_patched : (v : PlainView) (board : Board) (n : ℕ) → least_below v board n ≤ board.patch.base
least_patched v board zero = omega arith
least_patched v board (suc n) =
    let earlier = least_patched v board n in
    let here = at_most (has_code v n) (least_below v board n) (section_at v n).addr in
    omega (arith, earlier, here)

greatest_patched : (v : PlainView) (board : Board) (n : ℕ) → board.patch.base + board.patch.size ≤ greatest_below v board n
greatest_patched v board zero = omega arith
greatest_patched v board (suc n) =
    let earlier = greatest_patched v board n in
    let here = at_least (has_code v n) (greatest_below v board n) ((section_at v n).addr + (section_at v n).size) in
    omega (arith, earlier, here)

least_coded : (v : PlainView) (board : Board) (n k : ℕ) → k < n → has_code v k ≡ true → least_below v board n ≤ (section_at v k).addr
least_coded v board zero k below has = absurd (omega (arith, below))
least_coded v board (suc n) k below has =
    elim (cases_eq n k) [
      | inl same ↦
          let held : has_code v n ≡ true = subst (λ (j : ℕ). has_code v j ≡ true) (sym same) has in
          let here = at_most_there (has_code v n) (least_below v board n) (section_at v n).addr held in
          subst (λ (j : ℕ). least_below v board (suc n) ≤ (section_at v j).addr) same here
      | inr other ↦
          let earlier = least_coded v board n k (omega (arith, below, other)) has in
          let here = at_most (has_code v n) (least_below v board n) (section_at v n).addr in
          omega (arith, earlier, here)
    ]

greatest_coded : (v : PlainView) (board : Board) (n k : ℕ) → k < n → has_code v k ≡ true → (section_at v k).addr + (section_at v k).size ≤ greatest_below v board n
greatest_coded v board zero k below has = absurd (omega (arith, below))
greatest_coded v board (suc n) k below has =
    elim (cases_eq n k) [
      | inl same ↦
          let held : has_code v n ≡ true = subst (λ (j : ℕ). has_code v j ≡ true) (sym same) has in
          let here = at_least_there (has_code v n) (greatest_below v board n) ((section_at v n).addr + (section_at v n).size) held in
          subst (λ (j : ℕ). (section_at v j).addr + (section_at v j).size ≤ greatest_below v board (suc n)) same here
      | inr other ↦
          let earlier = greatest_coded v board n k (omega (arith, below, other)) has in
          let here = at_least (has_code v n) (greatest_below v board n) ((section_at v n).addr + (section_at v n).size) in
          omega (arith, earlier, here)
    ]

-- ---- the stub

-- what is known of the patch range and of the code
pub record IsNear (v : PlainView) (board : Board) : Type 0 where
  pub base : board.patch.base % 64 ≡ 0
  pub some : 0 < board.patch.size
  pub ends : board.patch.base + board.patch.size < 4294967296
  pub entry : v.entry % 4 ≡ 0
  pub above : v.entry < board.patch.base + 1048576
  pub below : board.patch.base + board.patch.size ≤ v.entry + 1048576
  pub small : v.entry < 4294967296

pub entry_is_code : (v : PlainView) → code_fault v ≡ None → is_code_word v v.entry ≡ true
entry_is_code v none =
    let rest = (both_none (unless (any_code_word v is_any) NoText) _ none).1 in
    holds (is_code_word v v.entry) EntryNotLeader (both_none (unless (is_code_word v v.entry) EntryNotLeader) _ rest).0

pub span_near : (v : PlainView) (board : Board) → layout_fault v board ≡ None → span_of v board ≤ 1048576
span_near v board none =
    let places = (both_none (places_fault v board) _ none).0 in
    let first = both_none (first_below (spm_overlap_fault v board) (length v.segments)) _ places in
    let second = both_none (first_below (patch_overlap_fault v board) (length v.segments)) _ first.1 in
    let third = both_none (patch_far_fault v board) _ second.1 in
    leb-true _ _ (holds (nat_le (span_of v board) 1048576) _ third.0)

-- so the range itself is small
pub patch_small : (v : PlainView) (board : Board) → layout_fault v board ≡ None → board.patch.size ≤ 1048576
patch_small v board none =
    let near = span_near v board none in
    let first = least_patched v board (length v.sections) in
    let last = greatest_patched v board (length v.sections) in
    omega (arith, near, first, last)

-- a word of code stands near the patch range
pub record IsNearTo (board : Board) (a : ℕ) : Type 0 where
  pub even : a % 4 ≡ 0
  pub above : a < board.patch.base + 1048576
  pub below : board.patch.base + board.patch.size ≤ a + 1048576
  pub small : a < 4294967296

pub word_near : (file : List ℕ) (board : Board) (g : Graph) (a : ℕ) → IsAccepted file board g → is_code_word (view_in file) a ≡ true → IsNearTo board a
word_near file board g a accepted code =
    let v = view_in file in
    let range = code_range v a code in
    let k = range.0 in
    let in_it = range.1 in
    let from = in_it.from in
    let to = in_it.to in
    let sized : has_code v k ≡ true = grind (arith, nat_tests, in_it.range, from, to) in
    let least = least_coded v board (length v.sections) k in_it.below sized in
    let greatest = greatest_coded v board (length v.sections) k in_it.below sized in
    let first = least_patched v board (length v.sections) in
    let last = greatest_patched v board (length v.sections) in
    let near = span_near v board accepted.layout in
    let size = (accepted.lawful.ranges 2 board.patch (omega arith)).some in
    let loadable = load_segments_loadable file accepted.bytes (none_of_headers file accepted.none) in
    let small = code_below v a loadable code in
    record {
      even = code_even v a code;
      above = omega (arith, from, to, least, greatest, first, last, near, size);
      below = omega (arith, from, to, least, greatest, first, last, near, size);
      small = omega (arith, small);
    }

pub is_near : (file : List ℕ) (board : Board) (g : Graph) → IsAccepted file board g → IsNear (view_in file) board
is_near file board g accepted =
    let v = view_in file in
    let near = word_near file board g v.entry accepted (entry_is_code v accepted.code) in
    let patch = accepted.lawful.ranges 2 board.patch (omega arith) in
    let ends = patch.within in
    record {
      base = accepted.lawful.patch.base;
      some = patch.some;
      ends = omega (arith, ends);
      entry = near.even;
      above = near.above;
      below = near.below;
      small = near.small;
    }

-- where the start stub's jump stands
pub jump_place : (p : StartPlan) → jump_at p + 4 ≡ start_at p + start_bytes p
jump_place p =
    let count = length-append (before_jump p) (Jal 0 (distance (jump_at p) p.entry) ∷ []) in
    omega (arith, count)
