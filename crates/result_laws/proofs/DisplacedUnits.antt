-- Displaced units.
use Rattle.std.proofs.Common.{◌≡◌, ℕ, ◌+◌, ◌<◌, List, [], ◌∷◌, ◌++◌, length, pos, sym, ap, subst, arith}
use Rattle.rv32im.specs.declared.instructions.Instr.TheVariants as instr
use Rattle.rv32im.specs.Sequences.{load_immediate, distance}
use Rattle.rv32im.proofs.SequenceLemmas.{mean_count}
use Rattle.code_blocks.specs.declared.parts.Unit.{Unit}
use Rattle.elf_reader.specs.File.{PlainView}
use Rattle.code_blocks.specs.Blocks.{IsCode}
use Rattle.code_blocks.specs.declared.parts.Code.{Code}
use Rattle.block_splitter.specs.declared.unit_kind.UnitKind.{UnitKind}
use Rattle.block_splitter.specs.declared.unit_kind.UnitKind.TheVariants.{Plain, Upper, Branch, Jump, Call, Tail, Indirect, Linking, Halt}
use Rattle.block_splitter.specs.Forms.{body_at, body_of, unit_in, Body, kind_of, displaced_size}
use Rattle.block_splitter.specs.Copies.{Patch, IsDisplaced}
use Rattle.result_laws.specs.CopyLaws.{unit_at, IsLow, DisplacedUnitsRun}
use Rattle.result_laws.proofs.DisplacedRuns.{displaced_runs}
use Rattle.result_laws.proofs.FirstUnits.{first_units_are_kinds, kind_fits}
use Rattle.result_laws.proofs.CopyUnits.{block_at, unit_of_block, one_low}

displaced_count : (sites : List Patch) (at : ℕ) (u : Unit) (kind : UnitKind) (ws : List ℕ) → IsDisplaced sites at u kind ws → length ws ≡ displaced_size kind
displaced_count sites at u Plain ws form = ap (λ (xs : List ℕ). length xs) form.words
displaced_count sites at u (Upper rd value) ws form = mean_count ws (load_immediate rd value ++ instr.Jal 0 (distance (at + 8) (u.at + 4)) ∷ []) form
displaced_count sites at u (Branch kind rs1 rs2 target) ws form =
    mean_count ws (instr.Branch kind rs1 rs2 (pos 8) ∷ instr.Jal 0 (distance (at + 4) (u.at + 4)) ∷ instr.Jal 0 (distance (at + 8) target) ∷ []) form
displaced_count sites at u (Jump target) ws form = mean_count ws (instr.Jal 0 (distance at target) ∷ []) form
displaced_count sites at u (Call target back link) ws form = mean_count ws (load_immediate link back ++ instr.Jal 0 (distance (at + 8) target) ∷ []) form
displaced_count sites at u (Tail target register) ws form = mean_count ws (instr.Jal 0 (distance at target) ∷ []) form
displaced_count sites at u Indirect ws form = ap (λ (xs : List ℕ). length xs) form
displaced_count sites at u (Linking back link base imm) ws form = mean_count ws (load_immediate link back ++ instr.Jalr 0 base imm ∷ []) form
displaced_count sites at u Halt ws form = ap (λ (xs : List ℕ). length xs) form

pub displaced_units_run : DisplacedUnitsRun
displaced_units_run v c site sites s at b words code below can some low aligned fits here form =
    let kind : UnitKind = kind_of site (body_at c.blocks.items b) 0 in
    let home = first_units_are_kinds v c site b code below can some low in
    let count = displaced_count sites at (unit_at c b 0) kind words form in
    displaced_runs sites s at words (unit_at c b 0) kind aligned here (single_low v c b 0 code below some low)
    (kind_fits v site (unit_at c b 0).at kind home) (omega (arith, fits, count)) form
  where
    single_low : (v : PlainView) (c : Code) (b k : ℕ) → IsCode v c → b < length c.blocks.items → k < length (body_at c.blocks.items b).units → IsLow (unit_at c b k) → (unit_at c b k).at + 4 < 4294967296
    single_low v c b k code below inside low =
        let has_block = block_at v c b code below in
        let same = has_block.body in
        let count : k < length (body_of has_block.block).units = subst (λ (x : Body). k < length x.units) same inside in
        let has_unit = unit_of_block v c.functions.items has_block.block k has_block.is count in
        let low_there : IsLow (unit_in (body_of has_block.block) k) = subst (λ (x : Body). IsLow (unit_in x k)) same low in
        subst (λ (x : Body). (unit_in x k).at + 4 < 4294967296) (sym same) (one_low v (unit_in (body_of has_block.block) k) has_unit.is low_there)
