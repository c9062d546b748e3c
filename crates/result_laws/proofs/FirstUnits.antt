-- The first unit of a block that can be displaced.
use Rattle.std.proofs.Common.{◌≡◌, ◌⊎◌, inl, inr, ◌∙◌, ℕ, ◌+◌, ◌*◌, ◌<◌, ◌==◌, Bool, true, false, if◌then◌else◌, List, length, refl, sym, ap, subst, arith}
use Rattle.std.specs.Prelude.{Option, Some, None, MatchOption, is_some, slice_index_or}
use Rattle.std.specs.List.{All}
use Rattle.std.proofs.lemmas.Bool.{both_ways, cases_Bool}
use Rattle.rv32im.specs.declared.instructions.Instr.{Instr}
use Rattle.rv32im.specs.declared.instructions.Instr.TheVariants as instr
use Rattle.rv32im.specs.Fields.{rd_of, u_immediate}
use Rattle.rv32im.specs.Table.{Means, MeansNothing}
use Rattle.rv32im.proofs.Meaning.{same_instruction}
use Rattle.elf_reader.specs.File.{PlainView}
use Rattle.loaded_file.specs.Code.{image_word}
use Rattle.code_blocks.specs.Meanings.{has_meaning}
use Rattle.code_blocks.specs.Leaders.{is_call_pair}
use Rattle.code_blocks.specs.Early.{has}
use Rattle.code_blocks.proofs.MeaningLemmas.{passes_test, decoded}
use Rattle.code_blocks.specs.Blocks.{IsUnit, IsCode}
use Rattle.code_blocks.specs.Leads.{no_unit, links_base}
use Rattle.code_blocks.specs.Numbers.{starts_of}
use Rattle.code_blocks.specs.declared.parts.Unit.{Unit}
use Rattle.code_blocks.specs.declared.parts.Block.{Block}
use Rattle.code_blocks.specs.declared.parts.Code.{Code}
use Rattle.code_blocks.specs.declared.ends.End.{End}
use Rattle.code_blocks.specs.declared.ends.End.TheVariants as end
use Rattle.block_splitter.specs.declared.unit_kind.UnitKind.{UnitKind}
use Rattle.block_splitter.specs.declared.unit_kind.UnitKind.TheVariants.{Halt}
use Rattle.block_splitter.specs.Forms.{Body, body_of, body_at, unit_in, straight_kind, last_kind, kind_of}
use Rattle.block_splitter.specs.Pieces.{is_stop}
use Rattle.result_laws.specs.Displacing.{known_targets, CanDisplace}
use Rattle.result_laws.specs.Kinds.{IsKind}
use Rattle.result_laws.specs.HomeUnits.{IsHomeOf, IsHomeUnlessHalt}
use Rattle.result_laws.specs.CopyLaws.{unit_at, IsLow, FirstUnitsAreKinds}
use Rattle.result_laws.proofs.Ends.{NoJump, goes_no_jump, goes_means, StopsSo, EndsSo}
use Rattle.result_laws.proofs.CopyHomes.{equal, pair_words, auipc_is}
use Rattle.result_laws.proofs.KindFacts.{IsKindBy, straight_unit, last_so}
use Rattle.result_laws.proofs.CopyUnits.{HasBlock, block_at, HasUnit, unit_of_block, last_test, other_test, straight, last_home}

-- ---- units at which a run ends

-- the word at an address means nothing, or EBREAK
abbrev pub Halts : PlainView → ℕ → Type 0
Halts v a = (is_call_pair v a ≡ false) × (MeansNothing (image_word v a) ⊎ Means (image_word v a) instr.Ebreak)

-- no call of two words begins with such a word
single_there : (v : PlainView) (a : ℕ) → MeansNothing (image_word v a) ⊎ Means (image_word v a) instr.Ebreak → is_call_pair v a ≡ false
single_there v a halts =
    elim (cases_Bool (is_call_pair v a)) [
      | inr single ↦ single
      | inl pair ↦
          let w : ℕ = image_word v a in
          let auipc = auipc_is w (pair_words v a pair).auipc in
          elim halts [
            | inl nothing ↦ absurd (nothing (instr.Auipc (rd_of w) (u_immediate w)) auipc)
            | inr ebreak ↦ let opcode = auipc.0 in absurd (omega (arith, ebreak, opcode))
          ]
    ]

-- a block that stops behind another instruction is at the end of its code
no_jump_there : (v : PlainView) (a : ℕ) (i : Instr) → Means (image_word v a) i → (i ≡ instr.Ebreak → ⊥) → StopsSo v a → NoJump v a
no_jump_there v a i means other (inl none) = absurd (both_ways (has_meaning (image_word v a)) none (passes_test (image_word v a) i means))
no_jump_there v a i means other (inr (inl ends)) =
    absurd (other (same_instruction (image_word v a) i instr.Ebreak means (equal (image_word v a) 1048691 ends.1)))
no_jump_there v a i means other (inr (inr none)) = none

-- what holds of words at which a run ends, and of those that go straight on, holds where a block stops
stopped_by : (v : PlainView) (site : ℕ → Bool) (a : ℕ) (P : UnitKind → Type 0) (o : Option Instr) → MatchOption o (MeansNothing (image_word v a)) (Means (image_word v a)) → StopsSo v a → (Halts v a → P Halt) → (is_some o ≡ true → NoJump v a → P (straight_kind site a o)) → P (straight_kind site a o)
stopped_by v site a P None means so halts goes = halts (single_there v a (inl means), inl means)
stopped_by v site a P (Some instr.Ebreak) means so halts goes = halts (single_there v a (inr means), inr means)
stopped_by v site a P (Some i) means so halts goes = goes refl (no_jump_there v a i means (λ is. cc (is)) so)

-- a last unit, by how its block ends
ended_by : (v : PlainView) (site : ℕ → Bool) (u : Unit) (P : UnitKind → Type 0) (e : End) → IsUnit v u → EndsSo v u.at e → (Halts v u.at → P Halt) → (is_some u.instr ≡ true → NoJump v u.at → P (straight_kind site u.at u.instr)) → (is_stop e ≡ false → P (last_kind site e u)) → P (last_kind site e u)
ended_by v site u P end.Stop is so halts goes ends =
    stopped_by v site u.at P u.instr (subst (λ (w : ℕ). MatchOption u.instr (MeansNothing w) (Means w)) is.raw is.instr) so halts goes
ended_by v site u P other is so halts goes ends = ends refl

-- ---- the first unit of a block

module _ (v : PlainView) (c : Code) (site : ℕ → Bool) (b : ℕ) (code : IsCode v c) (has_block : HasBlock v c.functions.items c.blocks.items b) (can : CanDisplace c b) (some : 0 < length has_block.block.units.items) where
  abbrev block : Block
  block = has_block.block

  abbrev u : Unit
  u = unit_in (body_of block) 0

  has_unit : HasUnit v block 0
  has_unit = unit_of_block v c.functions.items block 0 has_block.is some

  abbrev test : Bool
  test = 1 == length block.units.items

  links_so : links_base u.instr ≡ false
  links_so = subst (λ (us : List Unit). links_base (slice_index_or us 0 no_unit).instr ≡ false) has_block.units can.links

  targets : test ≡ true → All (λ a. has (starts_of c) a ≡ true) (known_targets block.end)
  targets last =
      let one : 1 ≡ length block.units.items = last_test 0 (length block.units.items) test refl last in
      subst (λ e. All (λ a. has (starts_of c) a ≡ true) (known_targets e)) has_block.ends
      (can.leads (ap (λ (us : List Unit). length us) has_block.units ∙ sym one))

  meant : has_meaning (image_word v (block.start + 4 * 0)) ≡ true → is_some u.instr ≡ true
  meant means =
      let is = has_unit.is in
      decoded (image_word v u.at) u.instr (subst (λ (w : ℕ). MatchOption u.instr (MeansNothing w) (Means w)) is.raw is.instr)
      ∙ subst (λ (a : ℕ). has_meaning (image_word v a) ≡ true) (sym has_unit.at) means

  ends_so_there : test ≡ true → EndsSo v u.at block.end
  ends_so_there last =
      subst (λ a. EndsSo v a block.end) (sym has_unit.at) (has_unit.ends (last_test 0 (length block.units.items) test refl last))

  -- what holds at each end of a block, behind which it goes on, and of a word at which a run ends, holds of the unit
  pub first_by : (P : UnitKind → Type 0) → (Halts v u.at → P Halt) → (is_some u.instr ≡ true → NoJump v u.at → P (straight_kind site u.at u.instr))
      → (is_some u.instr ≡ true → is_stop block.end ≡ false → All (λ a. has (starts_of c) a ≡ true) (known_targets block.end) → EndsSo v u.at block.end → P (last_kind site block.end u))
      → P (kind_of site (body_of block) 0)
  first_by P halts goes ends = by_test test refl
    where
      by_test : (is_last_unit : Bool) → test ≡ is_last_unit → P (if is_last_unit then last_kind site block.end u else straight_kind site u.at u.instr)
      by_test true last =
          ended_by v site u P block.end has_unit.is (ends_so_there last) halts goes
          (λ on. ends (meant (has_unit.means (last_test 0 (length block.units.items) test refl last) on)) on (targets last) (ends_so_there last))
      by_test false more =
          let on = has_unit.goes (other_test 0 (length block.units.items) test refl more some) in
          goes (meant (goes_means v (block.start + 4 * 0) on))
          (subst (NoJump v) (sym has_unit.at) (goes_no_jump v (block.start + 4 * 0) on))

  -- what it is
  pub first_kind : IsKindBy v c site u.at (Prim.Unit {0}) (Halts v u.at) (kind_of site (body_of block) 0)
  first_kind =
      first_by (IsKindBy v c site u.at (Prim.Unit {0}) (Halts v u.at)) (λ halts. halts)
      (λ means none. straight_unit v c site u (Prim.Unit {0}) (Halts v u.at) has_unit.is means none tt)
      (λ means on leads so. last_so v c site u (Prim.Unit {0}) (Halts v u.at) has_unit.is means block.end on leads so (λ falls. tt))

  -- what it does
  pub first_home : IsLow u → IsHomeUnlessHalt v site u.at (kind_of site (body_of block) 0)
  first_home low =
      first_by (IsHomeUnlessHalt v site u.at) (λ halts. tt)
      (λ means none. unless (straight_kind site u.at u.instr) (straight v c site code u has_unit.is low links_so means none))
      (λ means on leads so. unless (last_kind site block.end u) (last_home v c site code u has_unit.is low links_so means block.end on leads so))
    where
      unless : (kind : UnitKind) → IsHomeOf v site u.at kind → IsHomeUnlessHalt v site u.at kind
      unless Halt is = tt
      unless other is = is

-- ---- by its number

module _ (v : PlainView) (c : Code) (site : ℕ → Bool) (b : ℕ) (code : IsCode v c) (below : b < length c.blocks.items) (can : CanDisplace c b) (some : 0 < length (body_at c.blocks.items b).units) where
  stands : HasBlock v c.functions.items c.blocks.items b
  stands = block_at v c b code below

  count : 0 < length stands.block.units.items
  count = subst (λ (x : Body). 0 < length x.units) stands.body some

  pub first_kinds_so : IsKindBy v c site (unit_at c b 0).at (Prim.Unit {0}) (Halts v (unit_at c b 0).at) (kind_of site (body_at c.blocks.items b) 0)
  first_kinds_so =
      subst (λ (x : Body). IsKindBy v c site (unit_in x 0).at (Prim.Unit {0}) (Halts v (unit_in x 0).at) (kind_of site x 0)) (sym stands.body)
      (first_kind v c site b code stands can count)

  pub first_homes_so : IsLow (unit_at c b 0) → IsHomeUnlessHalt v site (unit_at c b 0).at (kind_of site (body_at c.blocks.items b) 0)
  first_homes_so low =
      subst (λ (x : Body). IsHomeUnlessHalt v site (unit_in x 0).at (kind_of site x 0)) (sym stands.body)
      (first_home v c site b code stands can count (subst (λ (x : Body). IsLow (unit_in x 0)) stands.body low))

pub first_units_are_kinds : FirstUnitsAreKinds
first_units_are_kinds v c site b code below can some low = first_homes_so v c site b code below can some low

pub kind_fits : (v : PlainView) (site : ℕ → Bool) (a : ℕ) (kind : UnitKind) → IsHomeUnlessHalt v site a kind → IsKind kind
kind_fits v site a Halt is = tt
kind_fits v site a other is = is.fits
