-- Operations on values say of the words what the flat machine makes of these, wherever the objects stand.
use Rattle.std.specs.Prelude.{◌≡◌, ℕ, ◌<◌, Bool, false, slice_index_or, Some, ℤ}
use Rattle.rv32im.specs.Words.{minus, offset, half_of, word_of, byte_of, lower_half, sign_extended}
use Rattle.rv32im.specs.Table.{IsImmInRange}
use Rattle.rv32im.specs.Acts.{imm_value, reg_value, is_taken}
use Rattle.rv32im.specs.declared.instructions.BranchKind.{BranchKind}
use Rattle.rv32im.specs.declared.instructions.ImmKind.{ImmKind}
use Rattle.rv32im.specs.declared.instructions.RegKind.{RegKind}
use Rattle.cell_values.specs.Objects.{Objects}
use Rattle.rv32im.specs.Operations.{operation_of}
use Rattle.cell_values.specs.Operations.{op_imm, op_reg, low_site}
use Rattle.cell_values.specs.Comparisons.{compare}
use Rattle.cell_values.specs.Cells.{split, join, byte_value, half_value}
use Rattle.cell_values.specs.Laws.{HoldsWord}
use Rattle.cell_values.specs.declared.values.Val.{Val}
use Rattle.cell_values.specs.declared.values.Val.TheVariants.{Int}
use Rattle.cell_values.specs.declared.values.Cell.{Cell}
use Rattle.cell_values.specs.declared.values.Cell.TheVariants.{Mist}
use Rattle.cell_values.specs.Origins.{Origin, ByLui, joined_origin, takes_low}
use Rattle.cell_values.specs.Stands.{Places, Fit, Uppers, MakesByLui, AreWords, MixesParts, Stands, CellStands, CellHoldsWord, address_word, auipc_word, kept_uppers, moved_uppers}

-- an operation on two registers. What it leaves is no upper part, so any origin may stand beside it
abbrev pub OperationsStand : Type 0
OperationsStand =
    (os : Objects) (place : Places) (up : Uppers) → Fit os place → MakesByLui place up
    → (kind : RegKind) (m n k : Origin) (x y : Val) (w z : ℕ) → w < 4294967296 → z < 4294967296
    → takes_low os kind m x n y ≡ false
    → Stands os place up m x w → Stands os place up n y z
    → Stands os place up k (op_reg os kind x y) (reg_value kind w z)

-- one with an immediate that an instruction can hold
abbrev pub ImmediatesStand : Type 0
ImmediatesStand =
    (os : Objects) (place : Places) (up : Uppers) → Fit os place → MakesByLui place up
    → (kind : ImmKind) (m k : Origin) (x : Val) (imm : ℤ) (w : ℕ) → w < 4294967296 → IsImmInRange kind imm
    → takes_low os (operation_of kind) m x ByLui (Int 0) ≡ false
    → Stands os place up m x w
    → Stands os place up k (op_imm os kind x imm) (imm_value kind w imm)

-- a branch that is known goes where the flat machine goes. Offsets are compared as numbers, and are words
abbrev pub ComparisonsStand : Type 0
ComparisonsStand =
    (os : Objects) (place : Places) (up : Uppers) → Fit os place
    → (kind : BranchKind) (m n : Origin) (x y : Val) (w z : ℕ) (taken : Bool)
    → HoldsWord x → HoldsWord y
    → compare os kind x y ≡ Some taken
    → Stands os place up m x w → Stands os place up n y z
    → is_taken kind w z ≡ taken

-- a low site on the upper part that a LUI made: the low part of the place makes the address
abbrev pub LowSitesStand : Type 0
LowSitesStand =
    (os : Objects) (place : Places) (up : Uppers) → Fit os place → MakesByLui place up
    → (k : Origin) (x : Val) (o d w : ℕ) → w < 4294967296
    → Stands os place up ByLui x w
    → Stands os place up k (low_site os x o d) (offset w (lower_half (address_word place o d)))

-- one on the upper part that its AUIPC made: the low part of the distance does
abbrev pub PairedSitesStand : Type 0
PairedSitesStand =
    (place : Places) (at o d : ℕ) → at < 4294967296
    → offset (auipc_word place at o d) (lower_half (minus (address_word place o d) at)) ≡ address_word place o d

-- stores: each cell of a value is a byte of its word
abbrev pub SplitStands : Type 0
SplitStands =
    (os : Objects) (place : Places) (up : Uppers) (m : Origin) (x : Val) (w k : ℕ) → w < 4294967296 → k < 4
    → Stands os place up m x w → CellStands place up m (slice_index_or (split x) k Mist) (byte_of w k)

-- loads: the word of four bytes is the value of their cells
abbrev pub JoinStands : Type 0
JoinStands =
    (os : Objects) (place : Places) (up : Uppers) → AreWords up → MixesParts up
    → (a b c d : Origin) (p q r s : Cell) (w x y z : ℕ) → w < 256 → x < 256 → y < 256 → z < 256
    → CellStands place up a p w → CellStands place up b q x → CellStands place up c r y → CellStands place up d s z
    → Stands os place up (joined_origin a b c d) (join p q r s) (word_of w x y z)

-- byte loads, without and with sign: a byte is the value of its cell
abbrev pub PiecesStand : Type 0
PiecesStand =
    (os : Objects) (place : Places) (up : Uppers) (m : Origin) (c : Cell) (b : ℕ) → b < 256
    → CellStands place up m c b
    → Stands os place up m (byte_value (λ n. n) c) b
    × Stands os place up m (byte_value (λ n. sign_extended n 8) c) (sign_extended b 8)

-- halfword loads: only plain bytes tell the halfword, so the origins say nothing
abbrev pub HalvesStand : Type 0
HalvesStand =
    (os : Objects) (place : Places) (up : Uppers) (m n k : Origin) (c d : Cell) (w x : ℕ)
    → CellStands place up m c w → CellStands place up n d x
    → Stands os place up k (half_value (λ h. h) c d) (half_of w x)
    × Stands os place up k (half_value (λ h. sign_extended h 16) c d) (sign_extended (half_of w x) 16)

-- where the words of the file stay, and where each site is a LUI, upper parts are what the laws above ask
abbrev pub KeptUppersMake : Type 0
KeptUppersMake =
    (place : Places)
    → MakesByLui place (kept_uppers place) × AreWords (kept_uppers place) × MixesParts (kept_uppers place)

abbrev pub MovedUppersMake : Type 0
MovedUppersMake =
    (place : Places)
    → MakesByLui place (moved_uppers place) × AreWords (moved_uppers place) × MixesParts (moved_uppers place)

-- values hold words, as the law of comparisons asks, after sites and loads too
abbrev pub SitesKeepWords : Type 0
SitesKeepWords = (os : Objects) (x : Val) (o d : ℕ) → d < 4294967296 → HoldsWord (low_site os x o d)

abbrev pub CellsKeepWords : Type 0
CellsKeepWords =
    ((x : Val) (k : ℕ) → k < 4 → HoldsWord x → CellHoldsWord (slice_index_or (split x) k Mist))
    × ((p q r s : Cell) → CellHoldsWord p → CellHoldsWord q → CellHoldsWord r → CellHoldsWord s → HoldsWord (join p q r s))
    × ((c : Cell) → CellHoldsWord c → HoldsWord (byte_value (λ n. n) c) × HoldsWord (byte_value (λ n. sign_extended n 8) c))
    × ((c d : Cell) → CellHoldsWord c → CellHoldsWord d → HoldsWord (half_value (λ h. h) c d) × HoldsWord (half_value (λ h. sign_extended h 16) c d))
