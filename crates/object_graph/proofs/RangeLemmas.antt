-- The ranges of a list of just the objects that may move.
use Rattle.std.proofs.Common.{◌≡◌, ◌∙◌, ◌⊎◌, inl, inr, ℕ, zero, suc, ◌+◌, ◌-◌, ◌%◌, ◌<◌, ◌≤◌, ◌==◌, ◌&&◌, true, false, List, length, slice_index_or, refl, sym, ap, subst, arith}
use Rattle.std.proofs.lemmas.Bool.{cases_eq, cases_lt, eq-eqb}
use Rattle.std.proofs.lemmas.Bool.Decides.{nat_tests}
use Rattle.std.proofs.lemmas.List.Folds.{list_any_at}
use Rattle.list_checks.specs.Tests.{ranges_overlap}
use Rattle.list_checks.proofs.TestLemmas.{both}
use Rattle.std.proofs.lemmas.List.{get_or_default}
use Rattle.rv32im.specs.Words.{minus}
use Rattle.elf_reader.specs.File.{PlainView, plain_view}
use Rattle.elf_reader.specs.declared.view.ElfView.{ElfView}
use Rattle.elf_reader.specs.declared.view.Reloc.{Reloc}
use Rattle.loaded_file.specs.Records.{symbol_at, no_reloc, reloc_at, target}
use Rattle.loaded_file.specs.declared.byte_ranges.ByteRange.{ByteRange}
use Rattle.loaded_file.specs.Ranges.{is_range}
use Rattle.loaded_file.specs.ByteRanges.{is_byte_range, no_byte_range, byte_range_at}
use Rattle.loaded_file.proofs.ByteRangeLemmas.{both_made}
use Rattle.loaded_file.proofs.RangeLemmas.{HasByteRange, byte_range_of}
use Rattle.object_graph.specs.Rewritable.{is_meant, displacement}
use Rattle.object_graph.specs.Fixed.{is_fixed, is_movable}
use Rattle.object_graph.specs.Gathered.{AreMovable}
use Rattle.object_graph.proofs.MovableLemmas.{movable_parts}
use Rattle.object_graph.proofs.OneSiteLemmas.{meant_both}

-- each of them may move
pub moves_at : (v : PlainView) (ranges : List ByteRange) (m : AreMovable v ranges) (k : ℕ) → k < length ranges → is_movable v m.board (byte_range_at ranges k).home (byte_range_at ranges k).size ≡ true
moves_at v ranges m k below =
    let e = byte_range_at ranges k in
    let itself = both_made (e.home == e.home) (e.size == e.size) (eq-eqb e.home e.home refl) (eq-eqb e.size e.size refl) in
    sym (m.exact e.home e.size) ∙ list_any_at (is_byte_range e.home e.size) ranges k no_byte_range below itself

pub range_at : (v : PlainView) (ranges : List ByteRange) (m : AreMovable v ranges) (k : ℕ) → k < length ranges → is_range v (byte_range_at ranges k).home (byte_range_at ranges k).size ≡ true
range_at v ranges m k below =
    let e = byte_range_at ranges k in
    (both (is_range v e.home e.size) _ (moves_at v ranges m k below)).0

-- and has a home behind address 0, bytes, and an end below 2 ^ 32
pub byte_range_fits : (v : PlainView) (ranges : List ByteRange) (m : AreMovable v ranges) (k : ℕ) → k < length ranges → HasByteRange (byte_range_at ranges k).home (byte_range_at ranges k).size
byte_range_fits v ranges m k below =
    let e = byte_range_at ranges k in
    let moves = movable_parts v m.board e.home e.size (moves_at v ranges m k below) in
    byte_range_of v e.home e.size (symbol_at v moves.symbol) moves.of

-- relocation `i` of a view, read from it
pub reloc_is : (view : ElfView) (i : ℕ) (r : Reloc) → i < length view.relocs.items → r ≡ slice_index_or view.relocs.items i r → reloc_at (plain_view view) i ≡ r
reloc_is view i r below is = get_or_default view.relocs.items i no_reloc r below ∙ sym is

-- how far a target lies behind the home of one of them
pub offset_is : (view : ElfView) (ranges : List ByteRange) (m : AreMovable (plain_view view) ranges) (k i a : ℕ) (r : Reloc) → k < length ranges → i < length view.relocs.items → r ≡ slice_index_or view.relocs.items i r → a ≡ target (plain_view view) r → (a + (4294967296 - (byte_range_at ranges k).home)) % 4294967296 ≡ displacement (plain_view view) (byte_range_at ranges k).home (reloc_at (plain_view view) i)
offset_is view ranges m k i a r below inside is leads =
    let v = plain_view view in
    let fits = byte_range_fits v ranges m k below in
    let home = (byte_range_at ranges k).home in
    let ends = fits.ends in
    let same : a ≡ target v (reloc_at v i) = leads ∙ ap (target v) (sym (reloc_is view i r inside is)) in
    wrapped a home (omega (arith, ends)) ∙ ap (λ (b : ℕ). minus b home) same
  where
    wrapped : (b home : ℕ) → home < 4294967296 → (b + (4294967296 - home)) % 4294967296 ≡ minus b home
    wrapped b home fits = omega (arith, fits)

-- two of one home are the same
pub same_place : (v : PlainView) (ranges : List ByteRange) (m : AreMovable v ranges) (k j : ℕ) → k < length ranges → j < length ranges → (byte_range_at ranges k).home ≡ (byte_range_at ranges j).home → k ≡ j
same_place v ranges m k j below below' same =
    elim (cases_eq k j) [
      | inl equal ↦ equal
      | inr other ↦ elim (cases_lt k j) [
        | inl before ↦
            let disjoint = m.disjoint k j no_byte_range before below' in
            let filled = m.filled k no_byte_range below in
            absurd (omega (arith, same, disjoint, filled))
        | inr behind ↦
            let disjoint = m.disjoint j k no_byte_range (omega (arith, other, behind)) below in
            let filled = m.filled j no_byte_range below' in
            absurd (omega (arith, same, disjoint, filled))
      ]
    ]

disjoint_overlaps : (a n b m : ℕ) → a + n ≤ b → ranges_overlap a n b m ≡ false
disjoint_overlaps a n b m disjoint = grind (arith, nat_tests, disjoint)

disjoint_turned : (a n b m : ℕ) → a + n ≤ b → ranges_overlap b m a n ≡ false
disjoint_turned a n b m disjoint = grind (arith, nat_tests, disjoint)

-- two of different places share no byte
share_none : (v : PlainView) (ranges : List ByteRange) (m : AreMovable v ranges) (k j : ℕ) → k < length ranges → j < length ranges → (ranges_overlap (byte_range_at ranges k).home (byte_range_at ranges k).size (byte_range_at ranges j).home (byte_range_at ranges j).size ≡ false) ⊎ (((byte_range_at ranges k).home ≡ (byte_range_at ranges j).home) × ((byte_range_at ranges k).size ≡ (byte_range_at ranges j).size))
share_none v ranges m k j below below' =
    elim (cases_eq k j) [
      | inl equal ↦ inr (subst (λ (i : ℕ). (byte_range_at ranges k).home ≡ (byte_range_at ranges i).home) equal refl, subst (λ (i : ℕ). (byte_range_at ranges k).size ≡ (byte_range_at ranges i).size) equal refl)
      | inr other ↦ elim (cases_lt k j) [
        | inl before ↦ inl (disjoint_overlaps _ _ _ _ (m.disjoint k j no_byte_range before below'))
        | inr behind ↦ inl (disjoint_turned _ _ _ _ (m.disjoint j k no_byte_range (omega (arith, other, behind)) below))
      ]
    ]

-- one relocation means one of them
pub meant_once : (v : PlainView) (ranges : List ByteRange) (m : AreMovable v ranges) (k j i : ℕ) → k < length ranges → j < length ranges → is_meant v (byte_range_at ranges k).home (byte_range_at ranges k).size (reloc_at v i) ≡ true → is_meant v (byte_range_at ranges j).home (byte_range_at ranges j).size (reloc_at v i) ≡ true → k ≡ j
meant_once v ranges m k j i below below' first second =
    let a = byte_range_at ranges k in
    let b = byte_range_at ranges j in
    same_place v ranges m k j below below' (meant_both v a.home a.size b.home b.size (reloc_at v i) (share_none v ranges m k j below below') first second).0

-- so its place is at most its home
pub place_within : (v : PlainView) (ranges : List ByteRange) (m : AreMovable v ranges) (k : ℕ) → k < length ranges → k ≤ (byte_range_at ranges k).home
place_within v ranges m zero below = omega arith
place_within v ranges m (suc k) below =
    let earlier = place_within v ranges m k (omega arith) in
    let disjoint = m.disjoint k (suc k) no_byte_range (omega arith) below in
    let filled = m.filled k no_byte_range (omega arith) in
    omega (arith, earlier, disjoint, filled)
