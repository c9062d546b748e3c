-- Units of a copy, and what stands behind the last of a block.
use Rattle.std.proofs.Common.{◌≡◌, inl, inr, ◌∙◌, ℕ, zero, suc, ◌+◌, ◌*◌, ◌%◌, ◌<◌, ◌≤◌, true, ◌&&◌, List, length, sym, ap, subst, arith}
use Rattle.std.specs.Prelude.{Some, nat_le}
use Rattle.std.proofs.lemmas.Bool.Decides.{nat_tests}
use Rattle.std.proofs.lemmas.List.{length-map}
use Rattle.elf_reader.specs.File.{PlainView}
use Rattle.code_blocks.specs.Ends.{words_left, end_from}
use Rattle.code_blocks.specs.Blocks.{unit_addresses, unit_at, IsBlock}
use Rattle.code_blocks.specs.declared.parts.Block.{Block}
use Rattle.code_blocks.specs.declared.parts.Code.{Code}
use Rattle.code_blocks.specs.declared.ends.End.{End}
use Rattle.code_blocks.specs.declared.ends.End.TheVariants as end
use Rattle.flat_machine.specs.State.{State}
use Rattle.block_splitter.specs.declared.block_range.BlockRange.{BlockRange}
use Rattle.block_splitter.specs.Forms.{is_site, body_at, holds_block, copy_size}
use Rattle.block_splitter.specs.Pieces.{IsRange, HasShape}
use Rattle.block_splitter.specs.Copies.{Copy, is_inside, unit_of, kind_in, place_of, address_of, words_at}
use Rattle.result_laws.specs.Copied.{CopyRuns}
use Rattle.result_laws.specs.CopyLaws.{IsCopyOf, IsInCopy, CopiedUnitsRun, falls_to}
use Rattle.result_laws.proofs.CopyRows.{StandsLow, copy_runs}
use Rattle.result_laws.proofs.Ends.{EndsSo, no_addresses}
use Rattle.result_laws.proofs.Places.{in_copy, block_fits, unit_fits}
use Rattle.result_laws.proofs.CopyUnits.{unit_of_block, units_are_kinds}

-- ---- ranges

shape_range : (c : Code) (range : BlockRange) → HasShape c range → IsRange c range
shape_range c range (f, inl function) = function.is_range
shape_range c range (f, inr (inl loop)) = loop.is_range
shape_range c range (f, inr (inr single)) = single.is_range

up_to : (first last b : ℕ) → nat_le first b && nat_le b last ≡ true → b ≤ last
up_to first last b held = grind (arith, nat_tests, held)

pub held_below : (v : PlainView) (x : Copy) (words starts : List ℕ) (b : ℕ) → IsCopyOf v x words starts → holds_block b x.range ≡ true → b < length x.code.blocks.items
held_below v x words starts b is held =
    let range = shape_range x.code x.range is.piece.shape in
    let below = range.below in
    let le = up_to x.range.first x.range.last b held in
    omega (arith, below, le)

module _ (v : PlainView) (x : Copy) (words starts : List ℕ) (is : IsCopyOf v x words starts) where
  stands_low : StandsLow x
  stands_low b held =
      let fits = block_fits x b held (held_below v x words starts b is held) in
      let count = is.copy.count in
      let below = is.below in
      omega (arith, fits, count, below)

  pub place_aligned : (place : ℕ) → address_of x place % 4 ≡ 0
  place_aligned place = let aligned = is.aligned in omega (arith, aligned)

  pub unit_runs : (s : State) (b k : ℕ) → holds_block b x.range ≡ true → k < length (body_at x.code.blocks.items b).units → IsInCopy x words (place_of x b k) s → CopyRuns x s (address_of x (place_of x b k)) (unit_of x b k) (kind_in x b k)
  unit_runs s b k held inside here =
      let below = held_below v x words starts b is held in
      let place : ℕ = place_of x b k in
      let size : ℕ = copy_size (is_inside x) (kind_in x b k) in
      let count = is.copy.count in
      let whole = is.below in
      let fits : place + size ≤ length words = let unit = unit_fits x b k held below inside in omega (arith, unit, count) in
      let home = units_are_kinds v x.code (is_site x.graph) b k is.code below (is.piece.blocks b held) inside (is.low b k held inside) in
      copy_runs x s (address_of x place) (words_at words place size) (place_aligned place) stands_low (in_copy x words place size s fits here)
      (unit_of x b k) (kind_in x b k) home.fits (omega (arith, fits, whole)) ((is.copy.blocks b held).units k inside)

pub copied_units_run : CopiedUnitsRun
copied_units_run v x words starts s b k is held inside here = unit_runs v x words starts is s b k held inside here

-- ---- the block behind another

-- a block that falls has a last unit, behind which it falls
pub record FallsBehind (v : PlainView) (block : Block) (next : ℕ) : Type 0 where
  pub last : ℕ
  pub is_last : suc last ≡ length block.units.items
  pub behind : next ≡ block.start + 4 * last + 4

falls_so : (v : PlainView) (a next : ℕ) (e : End) → falls_to e ≡ Some next → EndsSo v a e → next ≡ a + 4
falls_so v a next (end.Fall other) falls so = let same : other ≡ next = cc (falls) in sym same ∙ so.1
falls_so v a next (end.Branch target other) falls so = let same : other ≡ next = cc (falls) in sym same ∙ so.1.1.0
falls_so v a next (end.Jump target) falls so = absurd (cc (falls))
falls_so v a next (end.Call target back link) falls so = absurd (cc (falls))
falls_so v a next (end.Tail target) falls so = absurd (cc (falls))
falls_so v a next (end.Indirect back) falls so = absurd (cc (falls))
falls_so v a next end.Stop falls so = absurd (cc (falls))

never_stops : (next : ℕ) → falls_to end.Stop ≡ Some next → ⊥
never_stops next falls = absurd (cc (falls))

pub falls_behind : (v : PlainView) (c : Code) (block : Block) (next : ℕ) (n : ℕ) → n ≡ length block.units.items → IsBlock v c.functions.items block → falls_to block.end ≡ Some next → FallsBehind v block next
falls_behind v c block next zero count is falls =
    let none : 0 ≡ length (unit_addresses v block.start (words_left v block.start)) =
    count ∙ (sym (length-map block.units.items unit_at) ∙ ap (λ (xs : List ℕ). length xs) is.addresses) in
    let left = no_addresses v block.start (words_left v block.start) none in
    let stops : block.end ≡ end.Stop = is.end ∙ ap (end_from v block.start) left in
    absurd (never_stops next (subst (λ e. falls_to e ≡ Some next) stops falls))
falls_behind v c block next (suc k) count is falls =
    let unit = unit_of_block v c.functions.items block k is (omega (arith, count)) in
    record { last = k; is_last = count; behind = falls_so v (block.start + 4 * k) next block.end falls (unit.ends count) }
