-- What holds of the objects that may move, in every view, or in that of a file in which no check fails.
use Rattle.std.specs.Prelude.{◌≡◌, ◌⊎◌, ℕ, ◌+◌, ◌<◌, ◌≤◌, true, false, List, length, None}
use Rattle.rv32im.specs.Words.{minus, upper_half, lower_half}
use Rattle.list_checks.specs.Tests.{ranges_overlap}
use Rattle.rv32im.specs.Fields.{rd_of, rs1_of, rs2_of}
use Rattle.rv32im.specs.Table.{Means}
use Rattle.rv32im.specs.declared.instructions.Instr.TheVariants.{Lui, Auipc, Load, Store, OpImm}
use Rattle.rv32im.specs.declared.instructions.LoadKind.{LoadKind}
use Rattle.rv32im.specs.declared.instructions.StoreKind.{StoreKind}
use Rattle.rv32im.specs.declared.instructions.ImmKind.TheVariants.{Addi}
use Rattle.elf_reader.specs.File.{PlainView, view_in}
use Rattle.elf_reader.specs.Faults.{first_fault}
use Rattle.loaded_file.specs.Code.{is_code_word, image_word}
use Rattle.board_config.specs.declared.board.Board.{Board}
use Rattle.loaded_file.specs.Records.{reloc_at, counts}
use Rattle.object_graph.specs.Rewritable.{is_meant, displacement, names_high}
use Rattle.object_graph.specs.Fixed.{is_site_of, is_movable}
use Rattle.object_graph.specs.Sites.{is_site}
use Rattle.object_graph.specs.Graphs.{gives_offset}

-- two that are not the same share no byte
abbrev pub ObjectsDisjoint : Type 0
ObjectsDisjoint =
    (v : PlainView) (board : Board) (home n home' n' : ℕ) → is_movable v board home n ≡ true → is_movable v board home' n' ≡ true
    → (ranges_overlap home n home' n' ≡ false) ⊎ ((home ≡ home') × (n ≡ n'))

-- none of their bytes is a byte of code
abbrev pub ObjectsOffCode : Type 0
ObjectsOffCode =
    (file : List ℕ) (board : Board) (home n a : ℕ) → first_fault file ≡ None → is_movable (view_in file) board home n ≡ true
    → is_code_word (view_in file) a ≡ true → ranges_overlap home n a 4 ≡ false

-- relocation `i` of the view is of this kind, counts, and means the object of `n` bytes at `home`
pub record MeansBy (v : PlainView) (kind home n i : ℕ) : Type 0 where
  pub below : i < length v.relocs
  pub is_kind : (reloc_at v i).kind ≡ kind
  pub counted : counts v (reloc_at v i) ≡ true
  pub meant : is_meant v home n (reloc_at v i) ≡ true

-- a word of data (32, 1) that leads to one has no byte of code
abbrev pub DataOffCode : Type 0
DataOffCode =
    (file : List ℕ) (board : Board) (home n i a : ℕ) → first_fault file ≡ None → is_movable (view_in file) board home n ≡ true
    → MeansBy (view_in file) 1 home n i → is_code_word (view_in file) a ≡ true → ranges_overlap (reloc_at (view_in file) i).at 4 a 4 ≡ false

-- ---- where their addresses are made

-- the address that relocation `i` leads to, by the home of the object that it means
abbrev pub lead : PlainView → ℕ → ℕ → ℕ
lead v home i = home + displacement v home (reloc_at v i)

-- a word of data (32, 1) that leads to one is the object's home and the displacement: nothing wraps
abbrev pub DataWordsLead : Type 0
DataWordsLead =
    (v : PlainView) (board : Board) (home n i : ℕ) → is_movable v board home n ≡ true → MeansBy v 1 home n i
    → (displacement v home (reloc_at v i) ≤ n) × (image_word v (reloc_at v i).at ≡ lead v home i)

-- the word means an instruction with a part of the address `a`: a LUI or an AUIPC with the upper part; an
-- ADDI, a load or a store with the lower part
abbrev pub LoadsUpper : ℕ → ℕ → Type 0
LoadsUpper w a = Means w (Lui (rd_of w) (upper_half a))

abbrev pub AddsUpper : ℕ → ℕ → Type 0
AddsUpper w a = Means w (Auipc (rd_of w) (upper_half a))

abbrev pub AddsLower : ℕ → ℕ → Type 0
AddsLower w a = Means w (OpImm Addi (rd_of w) (rs1_of w) (lower_half a))

abbrev pub LoadsAtLower : ℕ → ℕ → Type 0
LoadsAtLower w a = (kind : LoadKind) × Means w (Load kind (rd_of w) (rs1_of w) (lower_half a))

abbrev pub StoresAtLower : ℕ → ℕ → Type 0
StoresAtLower w a = (kind : StoreKind) × Means w (Store kind (rs1_of w) (rs2_of w) (lower_half a))

-- the word has the lower part in an I-type instruction
abbrev pub HasLower : ℕ → ℕ → Type 0
HasLower w a = AddsLower w a ⊎ LoadsAtLower w a

-- relocation `i` leads into the object of `n` bytes at `home` or to its end, and the word that it changes is
-- code that has a part of the address it leads to
pub record IsMadeBy (v : PlainView) (home n i : ℕ) (Has : ℕ → ℕ → Type 0) : Type 0 where
  pub near : displacement v home (reloc_at v i) ≤ n
  pub code : is_code_word v (reloc_at v i).at ≡ true
  pub part : Has (image_word v (reloc_at v i).at) (lead v home i)

-- HI20 (26): a LUI of the upper part
abbrev pub HighSitesLead : Type 0
HighSitesLead =
    (v : PlainView) (board : Board) (home n i : ℕ) → is_movable v board home n ≡ true → MeansBy v 26 home n i
    → IsMadeBy v home n i LoadsUpper

-- LO12_I (27): an ADDI or a load with the lower part
abbrev pub LowSitesLead : Type 0
LowSitesLead =
    (v : PlainView) (board : Board) (home n i : ℕ) → is_movable v board home n ≡ true → MeansBy v 27 home n i
    → IsMadeBy v home n i HasLower

-- LO12_S (28): a store with the lower part
abbrev pub LowStoresLead : Type 0
LowStoresLead =
    (v : PlainView) (board : Board) (home n i : ℕ) → is_movable v board home n ≡ true → MeansBy v 28 home n i
    → IsMadeBy v home n i StoresAtLower

-- how far that address lies from the word that relocation `i` changes
abbrev pub reach : PlainView → ℕ → ℕ → ℕ
reach v home i = minus (lead v home i) (reloc_at v i).at

-- relocation `j` is of code that has the lower part of `a`: PCREL_LO12_I (24), or PCREL_LO12_S (25)
pub record IsLowOf (v : PlainView) (j a : ℕ) : Type 0 where
  pub code : is_code_word v (reloc_at v j).at ≡ true
  pub part : (((reloc_at v j).kind ≡ 24) × HasLower (image_word v (reloc_at v j).at) a) ⊎ (((reloc_at v j).kind ≡ 25) × StoresAtLower (image_word v (reloc_at v j).at) a)

-- PCREL_HI20 (23): an AUIPC of the upper part of the distance, and all that name it have the lower part
pub record IsPairedBy (v : PlainView) (home n i : ℕ) : Type 0 where
  pub near : displacement v home (reloc_at v i) ≤ n
  pub code : is_code_word v (reloc_at v i).at ≡ true
  pub high : AddsUpper (image_word v (reloc_at v i).at) (reach v home i)
  pub lows : (j : ℕ) → j < length v.relocs → counts v (reloc_at v j) ≡ true → names_high v (reloc_at v i) (reloc_at v j) ≡ true → IsLowOf v j (reach v home i)

abbrev pub PairedSitesLead : Type 0
PairedSitesLead =
    (v : PlainView) (board : Board) (home n i : ℕ) → is_movable v board home n ≡ true → MeansBy v 23 home n i
    → IsPairedBy v home n i

-- ---- disjoint

-- relocation `i` of the view gives a site of an object that may move
pub record GivesSite (v : PlainView) (board : Board) (i : ℕ) : Type 0 where
  pub below : i < length v.relocs
  pub home : ℕ
  pub bytes : ℕ
  pub movable : is_movable v board home bytes ≡ true
  pub site : is_site_of v home bytes i ≡ true

-- two such relocations whose words share a byte are the same
abbrev pub SitesDisjoint : Type 0
SitesDisjoint =
    (v : PlainView) (board : Board) (i j : ℕ) → GivesSite v board i → GivesSite v board j
    → ranges_overlap (reloc_at v i).at 4 (reloc_at v j).at 4 ≡ true → i ≡ j

-- ---- one place a site

-- one relocation gives a site of at most one object that may move
abbrev pub OneObjectASite : Type 0
OneObjectASite =
    (v : PlainView) (board : Board) (home n home' n' j : ℕ) → is_site v board home n j ≡ true → is_site v board home' n' j ≡ true
    → (home ≡ home') × (n ≡ n')

-- and of one place of it
abbrev pub OneOffsetASite : Type 0
OneOffsetASite =
    (v : PlainView) (board : Board) (home n offset offset' j : ℕ) → is_movable v board home n ≡ true → gives_offset v home n offset j ≡ true → gives_offset v home n offset' j ≡ true
    → offset ≡ offset'
