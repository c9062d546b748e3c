-- What the words of a unit's copy do, and those behind the last unit of a copied block.
use Rattle.std.specs.Prelude.{◌≡◌, ℕ, ◌+◌, ◌*◌, Bool, true, not, ◌&&◌, if◌then◌else◌}
use Rattle.std.specs.Bool.{MatchBool}
use Rattle.rv32im.specs.Acts.{Registers}
use Rattle.flat_machine.specs.State.{State}
use Rattle.code_blocks.specs.declared.parts.Unit.{Unit}
use Rattle.code_blocks.specs.declared.parts.Code.{Code}
use Rattle.block_splitter.specs.declared.unit_kind.UnitKind.{UnitKind}
use Rattle.block_splitter.specs.declared.unit_kind.UnitKind.TheVariants.{Plain, Branch, Jump, Call, Tail, Indirect, Halt}
use Rattle.block_splitter.specs.Forms.{copy_size}
use Rattle.block_splitter.specs.Pieces.{IsTemporary}
use Rattle.block_splitter.specs.Copies.{Copy, is_inside, LeadsInside, word_of_unit}
use Rattle.flat_machine.specs.Lines.{words_from}
use Rattle.result_laws.specs.Kinds.{takes, next_after, PerformsWord, RowRuns}

-- where control is that goes to a home address: at the copy of its block, or at home
abbrev pub Lands : Copy → ℕ → ℕ → Type 0
Lands x target to = MatchBool (is_inside x target) (LeadsInside x target to) (to ≡ target)

-- how many words of a unit's copy run: those of a branch that leaves the copy if it is taken
abbrev pub unit_words : (ℕ → Bool) → Bool → UnitKind → ℕ
unit_words inside taken (Branch kind rs1 rs2 target) = if taken && not (inside target) then 3 else 1
unit_words inside taken other = copy_size inside other

-- where a unit's copy at an address leads. A call and a jump by a register go to home addresses
abbrev pub UnitLeads : Copy → ℕ → Registers → Bool → UnitKind → ℕ → Type 0
UnitLeads x at regs taken (Branch kind rs1 rs2 target) to =
    MatchBool taken (Lands x target to) (to ≡ at + 4 * copy_size (is_inside x) (Branch kind rs1 rs2 target))
UnitLeads x at regs taken (Jump target) to = Lands x target to
UnitLeads x at regs taken other to = to ≡ next_after (at + 4 * copy_size (is_inside x) other) other regs

-- the registers that may differ: the temporary of a jump out, which isn't live where it goes, and the one of a tail
abbrev pub MayDiffer : Code → Bool → UnitKind → ℕ → Type 0
MayDiffer c taken (Branch kind rs1 rs2 target) k = (taken ≡ true) × IsTemporary c target 0 k
MayDiffer c taken (Jump target) k = IsTemporary c target 0 k
MayDiffer c taken (Call target back link) k = IsTemporary c target link k
MayDiffer c taken (Tail target register) k = k ≡ register
MayDiffer c taken other k = ⊥

-- the words of a unit's copy at an address run, and lead somewhere
abbrev pub CopyLeads : Copy → State → ℕ → Bool → UnitKind → Type 0
CopyLeads x s at taken kind =
    (to : ℕ) × (UnitLeads x at s.hart.regs taken kind to
    × RowRuns s kind (MayDiffer x.code taken kind) (words_from at (unit_words (is_inside x) taken kind)) to)

-- what a unit's copy at an address does
abbrev pub CopyRuns : Copy → State → ℕ → Unit → UnitKind → Type 0
CopyRuns x s at u Plain = PerformsWord s (word_of_unit x.sites u)
CopyRuns x s at u Indirect = PerformsWord s u.raw
CopyRuns x s at u Halt = PerformsWord s u.raw
CopyRuns x s at u other = CopyLeads x s at (takes other s.hart.regs) other

-- ---- behind the last unit

-- control falls to a home address as a jump goes there: in no step to the copy of its block, or out in two
abbrev pub FallsOut : Copy → State → ℕ → ℕ → Type 0
FallsOut x s at next =
    (to : ℕ) × (Lands x next to
    × RowRuns s (Jump next) (λ k. IsTemporary x.code next 0 k) (words_from at (if is_inside x next then 0 else 2)) to)
