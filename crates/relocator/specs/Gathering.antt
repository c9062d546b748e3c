-- How the new words are gathered, a site or a word of data at a time.
use Rattle.std.specs.Prelude.{◌≡◌, ℕ, ◌<◌, List, length, slice_index_or}
use Rattle.rv32im.specs.Table.{Means}
use Rattle.rv32im.specs.declared.instructions.Instr.{Instr}
use Rattle.rv32im.specs.declared.instructions.Instr.TheVariants.{Lui, Auipc, Load, Store, OpImm}
use Rattle.rv32im.specs.declared.instructions.ImmKind.TheVariants.{Addi}
use Rattle.elf_reader.specs.File.{PlainView}
use Rattle.object_graph.specs.declared.parts.SiteKind.{SiteKind}
use Rattle.object_graph.specs.declared.parts.SiteKind.TheVariants.{Hi, LowI, LowS}
use Rattle.object_graph.specs.declared.parts.Graph.{Graph}
use Rattle.relocator.specs.declared.places.Places.{Places}
use Rattle.relocator.specs.SiteWords.{site_at, data_word_at, word_address, IsNewAtSite, row_length}

-- an instruction can make that part of an address, and a word means one that can
abbrev pub CanMake : SiteKind → Instr → Type 0
CanMake Hi (Lui rd n) = Unit {0}
CanMake Hi (Auipc rd n) = Unit {0}
CanMake LowI (OpImm Addi rd rs1 n) = Unit {0}
CanMake LowI (Load kind rd rs1 n) = Unit {0}
CanMake LowS (Store kind rs1 rs2 n) = Unit {0}
CanMake part i = ⊥

pub record CanRewrite (part : SiteKind) (w : ℕ) : Type 0 where
  pub instr : Instr
  pub means : Means w instr
  pub can : CanMake part instr

-- the addresses and new words of the first `n` sites, and of the first `n` words of data
abbrev pub entry_of : List (ℕ × ℕ) → ℕ → ℕ × ℕ
entry_of entries k = slice_index_or entries k (0, 0)

pub record AreOfSites (v : PlainView) (g : Graph) (places : Places) (region_at : List ℕ) (n : ℕ) (entries : List (ℕ × ℕ)) : Type 0 where
  pub long : length entries ≡ n
  pub at : (k : ℕ) → k < n → (entry_of entries k).0 ≡ (site_at g k).at
  pub word : (k : ℕ) → k < n → IsNewAtSite v g places region_at k (entry_of entries k).1

pub record AreOfWords (g : Graph) (places : Places) (n : ℕ) (entries : List (ℕ × ℕ)) : Type 0 where
  pub long : length entries ≡ n
  pub at : (k : ℕ) → k < n → (entry_of entries k).0 ≡ (data_word_at g k).at
  pub word : (k : ℕ) → k < n → (entry_of entries k).1 ≡ word_address g places k

-- where an entry stands
abbrev pub address_of : ℕ × ℕ → ℕ
address_of e = e.0

-- there is a place in region 0 for the object of word of data `k`
pub record HasStart (g : Graph) (places : Places) (k : ℕ) : Type 0 where
  pub object : (data_word_at g k).object < length places.of.items
  pub region : 0 < row_length places (data_word_at g k).object
