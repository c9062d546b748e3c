-- What the steps by which copies are made rely on.
use Rattle.std.specs.Prelude.{◌≡◌, ℕ, suc, ◌*◌, ◌%◌, ◌<◌, true, false, List, ◌++◌, length}
use Rattle.list_checks.specs.Sorted.{collected}
use Rattle.rv32im.specs.Table.{IsWithin}
use Rattle.elf_reader.specs.File.{PlainView}
use Rattle.object_graph.specs.Lookups.{IsSomeGraph}
use Rattle.code_blocks.specs.Blocks.{IsCode}
use Rattle.code_blocks.specs.Numbers.{start_at}
use Rattle.code_blocks.specs.declared.parts.Code.{Code}
use Rattle.code_blocks.specs.declared.ends.End.{End}
use Rattle.code_blocks.specs.declared.ends.End.TheVariants as end
use Rattle.dataflow.specs.Tables.{IsTableOf}
use Rattle.block_splitter.specs.declared.copy_plan.CopyPlan.{CopyPlan}
use Rattle.block_splitter.specs.declared.unit_kind.UnitKind.{UnitKind}
use Rattle.block_splitter.specs.declared.unit_kind.UnitKind.TheVariants.{Plain, Upper, Branch, Jump, Call, Tail, Indirect, Linking, Halt}
use Rattle.block_splitter.specs.Forms.{is_site, body_at, holds_block, copy_words, copy_size}
use Rattle.block_splitter.specs.Pieces.{HasTemporary, IsCopied}
use Rattle.block_splitter.specs.Copies.{Copy, HasSites, is_inside, unit_of, kind_in, words_before, place_of, address_of, words_at, IsUnitCopy, IsBlockCopy}

-- ---- what is copied

abbrev pub copy_in : CopyPlan → Copy
copy_in p = record { code = p.code.now; graph = p.graph.now; range = p.range; at = p.at; sites = p.sites.now }

pub record IsPlan (p : CopyPlan) : Type 0 where
  pub view : PlainView
  pub code : IsCode view p.code.now
  pub live : IsTableOf p.code.now p.live.now
  pub graph : IsSomeGraph p.graph.now
  pub copied : IsCopied p.code.now p.graph.now p.range
  pub sites : HasSites p.code.now p.graph.now p.sites.now
  pub aligned : p.at % 4 ≡ 0

abbrev pub HasUnit : Code → ℕ → ℕ → Type 0
HasUnit c b k = k < length (body_at c.blocks.items b).units

-- ---- what is looked up

-- block `b` of the copy begins at an address
pub record IsBlockAt (x : Copy) (address b : ℕ) : Type 0 where
  pub inside : holds_block b x.range ≡ true
  pub begins : start_at x.code b ≡ address

-- the copy has it `start` bytes from its beginning
pub record IsStartOf (x : Copy) (address start : ℕ) : Type 0 where
  pub block : ℕ
  pub is_block : IsBlockAt x address block
  pub there : start ≡ 4 * words_before x block

-- where the blocks of the copy begin, in bytes from its beginning
abbrev pub AreStarts : Copy → List ℕ → Type 0
AreStarts x starts =
    starts ≡ collected (λ b. holds_block b x.range) (λ b. 4 * words_before x b) (length x.code.blocks.items)

-- ---- units

-- the fields of its instructions are those of an instruction
abbrev pub HasFields : UnitKind → Type 0
HasFields Plain = Unit {0}
HasFields (Upper rd value) = rd < 32
HasFields (Branch kind rs1 rs2 target) = (rs1 < 32) × (rs2 < 32)
HasFields (Jump target) = Unit {0}
HasFields (Call target back link) = link < 32
HasFields (Tail target register) = register < 32
HasFields Indirect = Unit {0}
HasFields (Linking back link base imm) = (link < 32) × (base < 32) × IsWithin 2048 imm
HasFields Halt = Unit {0}

-- a jump from the copy to an address may write a register
abbrev pub HasExit : Copy → ℕ → Type 0
HasExit x address = is_inside x address ≡ false → HasTemporary x.code address 0

abbrev pub HasExits : Copy → UnitKind → Type 0
HasExits x (Branch kind rs1 rs2 target) = HasExit x target
HasExits x (Jump target) = HasExit x target
HasExits x (Call target back link) = HasTemporary x.code target link
HasExits x other = Unit {0}

-- and so may one behind a block that falls out of it
abbrev pub CanFall : Copy → End → Type 0
CanFall x (end.Fall next) = HasExit x next
CanFall x (end.Branch target next) = HasExit x next
CanFall x other = Unit {0}

-- ---- words that are added

-- some words are added that meet a condition
pub record Appends (old new : List ℕ) (P : List ℕ → Type 0) : Type 0 where
  pub added : List ℕ
  pub grown : new ≡ old ++ added
  pub are : P added

-- the words of unit `k` of block `b`
abbrev pub IsCopyAt : Copy → ℕ → ℕ → List ℕ → Type 0
IsCopyAt x b k ws = IsUnitCopy x (address_of x (place_of x b k)) (unit_of x b k) (kind_in x b k) ws

-- whatever follows some words, they have those of the units of block `b` before unit `k`
abbrev pub HaveUnits : Copy → ℕ → List ℕ → ℕ → Type 0
HaveUnits x b words k =
    (j : ℕ) (more : List ℕ) → j < k →
    IsCopyAt x b j (words_at (words ++ more) (place_of x b j) (copy_size (is_inside x) (kind_in x b j)))

-- the words of these units are added
pub record AddsUnits (x : Copy) (b k : ℕ) (old new : List ℕ) : Type 0 where
  pub added : List ℕ
  pub grown : new ≡ old ++ added
  pub count : length new ≡ place_of x b k
  pub units : HaveUnits x b new k

-- those of block `b`
pub record AddsBlock (x : Copy) (b : ℕ) (old new : List ℕ) : Type 0 where
  pub added : List ℕ
  pub grown : new ≡ old ++ added
  pub count : length new ≡ words_before x (suc b)
  pub block : (more : List ℕ) → IsBlockCopy x (new ++ more) b

-- these are the words of the blocks below `n`
pub record AreBelow (x : Copy) (words : List ℕ) (n : ℕ) : Type 0 where
  pub count : length words ≡ words_before x n
  pub blocks : (b : ℕ) (more : List ℕ) → holds_block b x.range ≡ true → b < n → IsBlockCopy x (words ++ more) b

-- of the whole copy
pub record AreWords (x : Copy) (words : List ℕ) : Type 0 where
  pub count : length words ≡ copy_words (is_site x.graph) x.code.blocks.items x.range
  pub blocks : (b : ℕ) → holds_block b x.range ≡ true → IsBlockCopy x words b
