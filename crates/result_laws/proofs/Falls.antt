-- Control falls from the copy of a block to that of the next.
use Rattle.std.proofs.Common.{◌≡◌, inl, inr, ◌∙◌, ℕ, suc, ◌+◌, ◌-◌, ◌*◌, ◌/◌, ◌%◌, ◌<◌, ◌≤◌, Bool, true, false, ◌&&◌, if◌then◌else◌, List, [], ◌∷◌, length, refl, sym, ap, subst, arith}
use Rattle.std.specs.Prelude.{Some, slice_index_or, ◌==◌}
use Rattle.std.specs.List.{All}
use Rattle.std.proofs.lemmas.Bool.{cases_lt, cases_eq}
use Rattle.std.proofs.lemmas.List.{length-map}
use Rattle.std.proofs.lemmas.List.Kept.{AllPairs-from_increasing}
use Rattle.std.proofs.lemmas.List.Elements.{All-head, All-tail}
use Rattle.list_checks.proofs.TestLemmas.{any_found, both}
use Rattle.elf_reader.specs.File.{PlainView}
use Rattle.code_blocks.specs.Leaders.{is_leader}
use Rattle.code_blocks.specs.Early.{has}
use Rattle.code_blocks.specs.Blocks.{goes_on, IsCode, start_of}
use Rattle.code_blocks.specs.Edges.{successors}
use Rattle.code_blocks.specs.Numbers.{starts_of, end_at}
use Rattle.code_blocks.specs.declared.parts.Block.{Block}
use Rattle.code_blocks.specs.declared.parts.Code.{Code}
use Rattle.code_blocks.specs.declared.ends.End.{End}
use Rattle.code_blocks.specs.declared.ends.End.TheVariants as end
use Rattle.code_blocks.proofs.ListLemmas.{has_at}
use Rattle.flat_machine.specs.State.{State}
use Rattle.block_splitter.specs.Forms.{Body, body_at, body_of, unit_in, holds_block, fall_out_size}
use Rattle.block_splitter.specs.Copies.{Copy, is_inside, words_before, address_of, words_at, LeadsInside, FallsTo, IsFallOut}
use Rattle.result_laws.specs.Kinds.{IsAddress}
use Rattle.result_laws.specs.Copied.{FallsOut}
use Rattle.result_laws.specs.CopyLaws.{IsLow, IsCopyOf, IsInCopy, falls_to, place_behind, CopiedBlocksFall}
use Rattle.result_laws.proofs.DisplacedRuns.{falls_out}
use Rattle.result_laws.proofs.Ends.{goes_no_leader}
use Rattle.result_laws.proofs.CopyHomes.{equal}
use Rattle.result_laws.proofs.Places.{in_copy, size_at, next_place, block_fits}
use Rattle.result_laws.proofs.CopyUnits.{HasBlock, block_at, unit_of_block, started_even, one_low}
use Rattle.result_laws.proofs.CopiedUnits.{held_below, place_aligned, FallsBehind, falls_behind}

-- ---- no block begins between a block and the one to which it falls

module _ (v : PlainView) (c : Code) (code : IsCode v c) where
  started_has : (d : ℕ) → d < length (starts_of c) → has (starts_of c) (slice_index_or (starts_of c) d 0) ≡ true
  started_has d below = has_at (starts_of c) d 0 below

  start_even : (d : ℕ) → d < length (starts_of c) → slice_index_or (starts_of c) d 0 % 4 ≡ 0
  start_even d below = started_even v c (slice_index_or (starts_of c) d 0) code (started_has d below)

  none_between : (block : Block) (d last m : ℕ) → d < length (starts_of c) → slice_index_or (starts_of c) d 0 ≡ block.start + 4 * m + 4 → m < last → (suc m < suc last → goes_on v (block.start + 4 * m) ≡ true) → ⊥
  none_between block d last m below start less goes =
      let leads : is_leader v (slice_index_or (starts_of c) d 0) ≡ true = sym (code.leaders (slice_index_or (starts_of c) d 0)) ∙ started_has d below in
      let none = goes_no_leader v (block.start + 4 * m) (goes (omega (arith, less))) in
      let same : is_leader v (slice_index_or (starts_of c) d 0) ≡ false = ap (is_leader v) start ∙ none in
      absurd (cc (leads, same))

  start_less : (i j : ℕ) → i < j → j < length (starts_of c) → slice_index_or (starts_of c) i 0 < slice_index_or (starts_of c) j 0
  start_less i j less below = AllPairs-from_increasing (starts_of c) code.ascending i j 0 less below

  skipped : (b d next : ℕ) (here : HasBlock v c.functions.items c.blocks.items b) → FallsBehind v here.block next → suc b < d → d < length (starts_of c) → slice_index_or (starts_of c) d 0 ≡ next → ⊥
  skipped b d next here falls more below there =
      let first = here.begins in
      let before = start_less b (suc b) (omega arith) (omega (arith, more, below)) in
      let after = start_less (suc b) d more below in
      let even_here : slice_index_or (starts_of c) b 0 % 4 ≡ 0 = start_even b (omega (arith, more, below)) in
      let even_middle : slice_index_or (starts_of c) (suc b) 0 % 4 ≡ 0 = start_even (suc b) (omega (arith, more, below)) in
      let behind = falls.behind in
      let is_last = falls.is_last in
      let middle : ℕ = slice_index_or (starts_of c) (suc b) 0 in
      let m : ℕ = (middle - here.block.start) / 4 - 1 in
      let low : here.block.start < middle = omega (arith, before, first) in
      let even : here.block.start % 4 ≡ 0 = omega (arith, even_here, first) in
      let place : middle ≡ here.block.start + 4 * m + 4 = omega (arith, low, even, even_middle) in
      let less : m < falls.last = omega (arith, place, after, behind, there) in
      let unit = unit_of_block v c.functions.items here.block m here.is (omega (arith, less, is_last)) in
      none_between here.block (suc b) falls.last m (omega (arith, more, below)) place less (λ more_units. unit.goes (omega (arith, more_units, is_last)))

  pub next_block : (b d next : ℕ) (here : HasBlock v c.functions.items c.blocks.items b) → FallsBehind v here.block next → b < length (starts_of c) → d < length (starts_of c) → slice_index_or (starts_of c) d 0 ≡ next → d ≡ suc b
  next_block b d next here falls inside below there =
      let first = here.begins in
      let behind = falls.behind in
      elim (cases_eq d (suc b)) [
        | inl same ↦ same
        | inr other ↦ elim (cases_lt (suc b) d) [
          | inl more ↦ absurd (skipped b d next here falls more below there)
          | inr less ↦
              elim (cases_eq d b) [
                | inl same ↦
                    let at : slice_index_or (starts_of c) d 0 ≡ slice_index_or (starts_of c) b 0 = ap (λ k. slice_index_or (starts_of c) k 0) same in
                    absurd (omega (arith, at, first, behind, there))
                | inr apart ↦
                    let before = start_less d b (omega (arith, other, less, apart)) inside in
                    absurd (omega (arith, before, first, behind, there))
              ]
        ]
      ]

-- ---- falls in a copy

pub falls_form : (x : Copy) (e : End) (next : ℕ) (ws : List ℕ) → falls_to e ≡ Some next → IsFallOut x e ws → FallsTo x next ws
falls_form x (end.Fall other) next ws falls form = let same : other ≡ next = cc (falls) in subst (λ a. FallsTo x a ws) same form
falls_form x (end.Branch target other) next ws falls form = let same : other ≡ next = cc (falls) in subst (λ a. FallsTo x a ws) same form
falls_form x (end.Jump target) next ws falls form = absurd (cc (falls))
falls_form x (end.Call target back link) next ws falls form = absurd (cc (falls))
falls_form x (end.Tail target) next ws falls form = absurd (cc (falls))
falls_form x (end.Indirect back) next ws falls form = absurd (cc (falls))
falls_form x end.Stop next ws falls form = absurd (cc (falls))

pub falls_size : (inside : ℕ → Bool) (e : End) (next : ℕ) → falls_to e ≡ Some next → fall_out_size inside e ≡ (if inside next then 0 else 2)
falls_size inside (end.Fall other) next falls = let same : other ≡ next = cc (falls) in ap (λ (a : ℕ). if inside a then 0 else 2) same
falls_size inside (end.Branch target other) next falls = let same : other ≡ next = cc (falls) in ap (λ (a : ℕ). if inside a then 0 else 2) same
falls_size inside (end.Jump target) next falls = absurd (cc (falls))
falls_size inside (end.Call target back link) next falls = absurd (cc (falls))
falls_size inside (end.Tail target) next falls = absurd (cc (falls))
falls_size inside (end.Indirect back) next falls = absurd (cc (falls))
falls_size inside end.Stop next falls = absurd (cc (falls))

pub falls_started : (c : Code) (e : End) (next : ℕ) → falls_to e ≡ Some next → All (λ a. has (starts_of c) a ≡ true) (successors e) → has (starts_of c) next ≡ true
falls_started c (end.Fall other) next falls leads =
    let same : other ≡ next = cc (falls) in
    subst (λ a. has (starts_of c) a ≡ true) same (All-head (λ a. has (starts_of c) a ≡ true) other [] leads)
falls_started c (end.Branch target other) next falls leads =
    let same : other ≡ next = cc (falls) in
    subst (λ a. has (starts_of c) a ≡ true) same
    (All-head (λ a. has (starts_of c) a ≡ true) other [] (All-tail (λ a. has (starts_of c) a ≡ true) target (other ∷ []) leads))
falls_started c (end.Jump target) next falls leads = absurd (cc (falls))
falls_started c (end.Call target back link) next falls leads = absurd (cc (falls))
falls_started c (end.Tail target) next falls leads = absurd (cc (falls))
falls_started c (end.Indirect back) next falls leads = absurd (cc (falls))
falls_started c end.Stop next falls leads = absurd (cc (falls))

module _ (v : PlainView) (x : Copy) (words starts : List ℕ) (is : IsCopyOf v x words starts) (b next : ℕ) (held : holds_block b x.range ≡ true) (falls : falls_to (end_at x.code b) ≡ Some next) where
  below : b < length x.code.blocks.items
  below = held_below v x words starts b is held

  here : HasBlock v x.code.functions.items x.code.blocks.items b
  here = block_at v x.code b is.code below

  abbrev body : Body
  body = body_at x.code.blocks.items b

  behind : FallsBehind v here.block next
  behind = falls_behind v x.code here.block next (length here.block.units.items) refl here.is (subst (λ e. falls_to e ≡ Some next) here.ends falls)

  -- the words behind the last unit
  pub fall_size : fall_out_size (is_inside x) body.end ≡ (if is_inside x next then 0 else 2)
  fall_size =
      ap (λ (y : Body). fall_out_size (is_inside x) y.end) here.body
      ∙ falls_size (is_inside x) here.block.end next (subst (λ e. falls_to e ≡ Some next) here.ends falls)

  block_ends : words_before x b + size_at x b ≡ place_behind x b + (if is_inside x next then 0 else 2)
  block_ends = let size = fall_size in omega (arith, size)

  pub leads_inside : is_inside x next ≡ true → LeadsInside x next (address_of x (place_behind x b))
  leads_inside inside =
      let found = any_found (λ d. holds_block d x.range && (slice_index_or (starts_of x.code) d 0 == next)) (length (starts_of x.code)) inside in
      let tests = both (holds_block found.0 x.range) (slice_index_or (starts_of x.code) found.0 0 == next) found.2 in
      let there = equal (slice_index_or (starts_of x.code) found.0 0) next tests.1 in
      let count = length-map x.code.blocks.items start_of in
      let in_order = below in
      let number : found.0 ≡ suc b = next_block v x.code is.code b found.0 next here behind (omega (arith, in_order, count)) found.1 there in
      let fall : ℕ = if is_inside x next then 0 else 2 in
      let none : fall ≡ 0 = ap (λ (y : Bool). if y then 0 else 2) inside in
      let ends = block_ends in
      let follows = next_place x b held in
      let place : words_before x (suc b) ≡ place_behind x b = omega (arith, follows, ends, none) in
      record {
        block = found.0;
        inside = tests.0;
        begins = there;
        there = ap (address_of x) (sym place ∙ ap (words_before x) (sym number));
      }

  pub next_address : IsAddress next
  next_address =
      let last : ℕ = behind.last in
      let told = behind.is_last in
      let stands = behind.behind in
      let has_unit = unit_of_block v x.code.functions.items here.block last here.is (omega (arith, told)) in
      let count : last < length body.units = subst (λ (y : Body). last < length y.units) (sym here.body) (omega (arith, told)) in
      let low : IsLow (unit_in (body_of here.block) last) = subst (λ (y : Body). IsLow (unit_in y last)) here.body (is.low b last held count) in
      let ends = one_low v (unit_in (body_of here.block) last) has_unit.is low in
      let at = has_unit.at in
      let leads = falls_started x.code (end_at x.code b) next falls (is.piece.blocks b held).leads in
      let even = started_even v x.code next is.code leads in
      (omega (arith, ends, at, stands), omega (arith, even))

  pub block_falls : (s : State) → IsInCopy x words (place_behind x b) s → FallsOut x s (address_of x (place_behind x b)) next
  block_falls s at_end =
      let size : ℕ = fall_out_size (is_inside x) (end_at x.code b) in
      let size_is : size ≡ (if is_inside x next then 0 else 2) = falls_size (is_inside x) (end_at x.code b) next falls in
      let whole = block_fits x b held below in
      let ends = block_ends in
      let count = is.copy.count in
      let limit = is.below in
      let fits : place_behind x b + size ≤ length words = omega (arith, whole, ends, count, size_is) in
      falls_out x s (address_of x (place_behind x b)) next (words_at words (place_behind x b) size) (place_aligned v x words starts is (place_behind x b))
      (in_copy x words (place_behind x b) size s fits at_end) next_address (omega (arith, fits, limit, size_is)) leads_inside
      (falls_form x (end_at x.code b) next (words_at words (place_behind x b) size) falls (is.copy.blocks b held).falls)

pub copied_blocks_fall : CopiedBlocksFall
copied_blocks_fall v x words starts s b next is held falls here = block_falls v x words starts is b next held falls s here
