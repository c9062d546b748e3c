-- What holds of every copy of a piece and of every displaced unit.
use Rattle.std.specs.Prelude.{◌≡◌, ◌⊎◌, ℕ, suc, ◌+◌, ◌*◌, ◌%◌, ◌<◌, Bool, true, false, ◌==◌, if◌then◌else◌, List, length, Option, Some, None}
use Rattle.std.specs.List.{list_any}
use Rattle.rv32im.specs.declared.instructions.Instr.{Instr}
use Rattle.rv32im.specs.Sequences.{MeanAll}
use Rattle.rv32im.specs.declared.instructions.BranchKind.{BranchKind}
use Rattle.rv32im.specs.Acts.{Hart, Registers, with_register}
use Rattle.elf_reader.specs.File.{PlainView}
use Rattle.code_blocks.specs.Blocks.{IsCode}
use Rattle.code_blocks.specs.Numbers.{end_at}
use Rattle.code_blocks.specs.declared.parts.Unit.{Unit}
use Rattle.code_blocks.specs.declared.parts.Code.{Code}
use Rattle.code_blocks.specs.declared.ends.End.{End}
use Rattle.code_blocks.specs.declared.ends.End.TheVariants as end
use Rattle.dataflow.specs.Live.{Live}
use Rattle.flat_machine.specs.State.{State}
use Rattle.block_splitter.specs.declared.unit_kind.UnitKind.{UnitKind}
use Rattle.block_splitter.specs.declared.unit_kind.UnitKind.TheVariants.{Branch}
use Rattle.block_splitter.specs.Forms.{body_at, unit_in, kind_of, holds_block, copy_size, copied_words, fall_out_words, displaced_words}
use Rattle.block_splitter.specs.Pieces.{IsTemporary, IsCopyable, IsCopied}
use Rattle.block_splitter.specs.Copies.{Copy, Patch, address_in, word_of_unit, is_inside, unit_of, kind_in, place_of, address_of, IsCopy, IsDisplaced}
use Rattle.flat_machine.specs.Lines.{HoldsAt, AreMapped, acted, words_from, IsAtWords}
use Rattle.result_laws.specs.Copied.{unit_words, MayDiffer, CopyLeads, CopyRuns, FallsOut}
use Rattle.result_laws.specs.Displaced.{displaced_fetched, DisplacedRuns}
use Rattle.result_laws.specs.Displacing.{CanDisplace}
use Rattle.result_laws.specs.HomeUnits.{home_words, LeadsAtHome, IsHomeOf, IsHomeUnlessHalt}
use Rattle.flat_machine.specs.declared.events.FlatOutcome.TheVariants.{GoesOn}

-- ---- at home

-- unit `k` of block `b`
abbrev pub unit_at : Code → ℕ → ℕ → Unit
unit_at c b k = unit_in (body_at c.blocks.items b) k

-- the words of a unit end below 2 ^ 32
abbrev pub IsLow : Unit → Type 0
IsLow u = u.at + 4 * u.words < 4294967296

-- the instructions of each unit of a block that may be copied do what its kind says
abbrev pub UnitsAreKinds : Type 0
UnitsAreKinds = (v : PlainView) (c : Code) (is_site : ℕ → Bool) (b k : ℕ) → IsCode v c → b < length c.blocks.items →
    IsCopyable c b → k < length (body_at c.blocks.items b).units → IsLow (unit_at c b k) →
    IsHomeOf v is_site (unit_at c b k).at (kind_of is_site (body_at c.blocks.items b) k)

-- so do those of a first unit that can be displaced, unless a run ends there
abbrev pub FirstUnitsAreKinds : Type 0
FirstUnitsAreKinds = (v : PlainView) (c : Code) (is_site : ℕ → Bool) (b : ℕ) → IsCode v c → b < length c.blocks.items →
    CanDisplace c b → 0 < length (body_at c.blocks.items b).units → IsLow (unit_at c b 0) →
    IsHomeUnlessHalt v is_site (unit_at c b 0).at (kind_of is_site (body_at c.blocks.items b) 0)

-- each unit of a block that may be copied means something: its words mean instructions
abbrev pub UnitsMean : Type 0
UnitsMean = (v : PlainView) (c : Code) (b k : ℕ) → IsCode v c → b < length c.blocks.items → IsCopyable c b →
    k < length (body_at c.blocks.items b).units → (is : List Instr) × MeanAll (home_words v (unit_at c b k).at) is

-- ---- in a copy

-- a unit at an address for which a list of sites has no word keeps its own
abbrev pub OthersKeepWords : Type 0
OthersKeepWords = (sites : List Patch) (u : Unit) →
    list_any (λ p. address_in p == u.at) sites ≡ false → word_of_unit sites u ≡ u.raw

-- the words are the copy of a piece of a program, and it stands at a multiple of four below 2 ^ 32
pub record IsCopyOf (v : PlainView) (x : Copy) (words starts : List ℕ) : Type 0 where
  pub code : IsCode v x.code
  pub piece : IsCopied x.code x.graph x.range
  pub copy : IsCopy x words starts
  pub aligned : x.at % 4 ≡ 0
  pub below : x.at + 4 * length words < 4294967296
  pub low : (b k : ℕ) → holds_block b x.range ≡ true → k < length (body_at x.code.blocks.items b).units →
      IsLow (unit_of x b k)

-- the machine goes on at a word of a copy, which stands whole in mapped memory
pub record IsInCopy (x : Copy) (words : List ℕ) (place : ℕ) (s : State) : Type 0 where
  pub going : s.outcome ≡ GoesOn
  pub pc : s.hart.pc ≡ address_of x place
  pub stand : HoldsAt s.hart.mem x.at words
  pub fetched : AreMapped s.map x.at (4 * length words)

-- at the place of a unit its copy runs
abbrev pub CopiedUnitsRun : Type 0
CopiedUnitsRun = (v : PlainView) (x : Copy) (words starts : List ℕ) (s : State) (b k : ℕ) → IsCopyOf v x words starts →
    holds_block b x.range ≡ true → k < length (body_at x.code.blocks.items b).units →
    IsInCopy x words (place_of x b k) s →
    CopyRuns x s (address_of x (place_of x b k)) (unit_of x b k) (kind_in x b k)

-- its registers are those that the instructions of the unit leave at home, but for those that may differ
abbrev pub CopiesLeaveRegisters : Type 0
CopiesLeaveRegisters = (x : Copy) (s : State) (at a : ℕ) (taken : Bool) (kind : UnitKind) (is : List Instr) (h : Hart) →
    (leads : CopyLeads x s at taken kind) → LeadsAtHome a kind is h → h.regs ≡ s.hart.regs →
    (k : ℕ) → (leads.1.1.regs k ≡ (acted is h).regs k) ⊎ MayDiffer x.code taken kind k

-- where control falls behind a block, if it does
abbrev pub falls_to : End → Option ℕ
falls_to (end.Fall next) = Some next
falls_to (end.Branch target next) = Some next
falls_to other = None

-- the place behind the last unit of a block
abbrev pub place_behind : Copy → ℕ → ℕ
place_behind x b = place_of x b (length (body_at x.code.blocks.items b).units)

-- behind the last unit of a copied block control falls to the next
abbrev pub CopiedBlocksFall : Type 0
CopiedBlocksFall = (v : PlainView) (x : Copy) (words starts : List ℕ) (s : State) (b next : ℕ) →
    IsCopyOf v x words starts → holds_block b x.range ≡ true → falls_to (end_at x.code b) ≡ Some next →
    IsInCopy x words (place_behind x b) s →
    FallsOut x s (address_of x (place_behind x b)) next

-- the copy of a unit stands behind that of the unit before it
abbrev pub UnitsFollow : Type 0
UnitsFollow = (x : Copy) (b k : ℕ) →
    address_of x (place_of x b (suc k)) ≡ address_of x (place_of x b k) + 4 * copy_size (is_inside x) (kind_in x b k)

-- the unit is a branch
abbrev pub is_branch_kind : UnitKind → Bool
is_branch_kind (Branch kind rs1 rs2 target) = true
is_branch_kind other = false

-- ---- displaced

-- a first unit that can be displaced runs where it is
abbrev pub DisplacedUnitsRun : Type 0
DisplacedUnitsRun = (v : PlainView) (c : Code) (is_site : ℕ → Bool) (sites : List Patch) (s : State) (at b : ℕ)
    (words : List ℕ) → IsCode v c → b < length c.blocks.items → CanDisplace c b →
    0 < length (body_at c.blocks.items b).units → IsLow (unit_at c b 0) →
    at % 4 ≡ 0 → at + 4 * length words < 4294967296 → IsAtWords s at words →
    IsDisplaced sites at (unit_at c b 0) (kind_of is_site (body_at c.blocks.items b) 0) words →
    DisplacedRuns sites s at (unit_at c b 0) (kind_of is_site (body_at c.blocks.items b) 0) words

-- ---- how many words run

-- the number of words that run is what the forms say, by where control goes behind the unit. A branch that isn't taken
-- falls: what then runs behind it counts where its target is the next block
pub record RunsCount : Type 0 where
  pub fetched : (at n : ℕ) → length (words_from at n) ≡ n
  pub copied : (inside : ℕ → Bool) (taken : Bool) (next : ℕ) (kind : UnitKind) → is_branch_kind kind ≡ false →
      unit_words inside taken kind ≡ copied_words inside next kind
  pub taken : (inside : ℕ → Bool) (kind : BranchKind) (rs1 rs2 target behind : ℕ) →
      unit_words inside true (Branch kind rs1 rs2 target)
      ≡ copied_words inside target (Branch kind rs1 rs2 target)
      + fall_out_words inside target (end.Branch target behind)
  pub passed : (inside : ℕ → Bool) (kind : BranchKind) (rs1 rs2 target behind : ℕ) →
      unit_words inside false (Branch kind rs1 rs2 target) + (if inside behind then 0 else 2)
      ≡ copied_words inside behind (Branch kind rs1 rs2 target)
      + fall_out_words inside behind (end.Branch target behind)
  pub displaced : (at : ℕ) (taken : Bool) (kind : UnitKind) →
      length (displaced_fetched at taken kind) ≡ displaced_words kind

-- ---- dead registers

-- writing a register changes none that is live where a block begins, and not the link; it isn't x0
pub record IsSpare (c : Code) (address kept register : ℕ) : Type 0 where
  pub live : (regs : Registers) (value x : ℕ) → Live c address x → with_register regs register value x ≡ regs x
  pub link : (regs : Registers) (value : ℕ) → with_register regs register value kept ≡ regs kept
  pub some : register ≡ 0 → ⊥

-- the temporary of a jump to a block is such a register
abbrev pub TemporariesAreDead : Type 0
TemporariesAreDead = (c : Code) (address link register : ℕ) →
    IsTemporary c address link register → IsSpare c address link register
