-- The words that make and hold the addresses of objects, for the places at which the objects stand.
use Rattle.std.specs.Prelude.{◌≡◌, ◌⊎◌, ℕ, ◌+◌, ◌<◌, ◌≤◌, ◌==◌, Bool, true, ◌&&◌, List, [], length, slice_index_or}
use Rattle.std.specs.List.{AllPairs, list_any}
use Rattle.rv32im.specs.Words.{plus, upper_half, lower_half}
use Rattle.rv32im.specs.Table.{Means}
use Rattle.rv32im.specs.declared.instructions.Instr.{Instr}
use Rattle.rv32im.specs.declared.instructions.Instr.TheVariants.{Lui, Auipc, Load, Store, OpImm}
use Rattle.rv32im.specs.declared.instructions.ImmKind.TheVariants.{Addi}
use Rattle.elf_reader.specs.File.{PlainView}
use Rattle.loaded_file.specs.Code.{image_word}
use Rattle.object_graph.specs.declared.parts.SiteKind.{SiteKind}
use Rattle.object_graph.specs.declared.parts.SiteKind.TheVariants.{Hi, LowI, LowS}
use Rattle.object_graph.specs.declared.parts.Site.{Site}
use Rattle.object_graph.specs.declared.parts.DataWord.{DataWord}
use Rattle.object_graph.specs.declared.parts.Graph.{Graph}
use Rattle.relocator.specs.declared.places.Places.{Places}
use Rattle.relocator.specs.Placing.{rows_of, place_at}

-- ---- one word

-- the instruction `i` of a site, which makes that part of an address, makes the part of the address `a` as `j`: a LUI
-- or an AUIPC becomes a LUI, and an ADDI, a load or a store gets another immediate (RISC-V psABI, HI20 and LO12)
abbrev pub IsRewritten : SiteKind → ℕ → Instr → Instr → Type 0
IsRewritten Hi a (Lui rd n) j = j ≡ Lui rd (upper_half a)
IsRewritten Hi a (Auipc rd n) j = j ≡ Lui rd (upper_half a)
IsRewritten LowI a (OpImm Addi rd rs1 n) j = j ≡ OpImm Addi rd rs1 (lower_half a)
IsRewritten LowI a (Load kind rd rs1 n) j = j ≡ Load kind rd rs1 (lower_half a)
IsRewritten LowS a (Store kind rs1 rs2 n) j = j ≡ Store kind rs1 rs2 (lower_half a)
IsRewritten part a i j = ⊥

-- the word `new` is the word `old` of a site of that part, for the address `a`
pub record IsSiteWord (part : SiteKind) (a old new : ℕ) : Type 0 where
  pub from : Instr
  pub to : Instr
  pub old_means : Means old from
  pub rewritten : IsRewritten part a from to
  pub new_means : Means new to
  pub below : new < 4294967296

-- ---- all words

abbrev pub no_site : Site
no_site = record { at = 0; kind = Hi; object = 0; offset = 0 }

abbrev pub site_at : Graph → ℕ → Site
site_at g k = slice_index_or g.sites.items k no_site

abbrev pub no_word : DataWord
no_word = record { at = 0; object = 0; offset = 0 }

abbrev pub data_word_at : Graph → ℕ → DataWord
data_word_at g k = slice_index_or g.data_words.items k no_word

-- the address that site `k` makes where its object stands in the site's region, and the one that word of data `k`
-- holds: before the program starts no region is current
abbrev pub site_address : Graph → Places → List ℕ → ℕ → ℕ
site_address g places region_at k =
    plus (place_at places (site_at g k).object (slice_index_or region_at k 0)) (site_at g k).offset

abbrev pub word_address : Graph → Places → ℕ → ℕ
word_address g places k = plus (place_at places (data_word_at g k).object 0) (data_word_at g k).offset

-- `w` is the new word of site `k`, which the file has at its address
abbrev pub IsNewAtSite : PlainView → Graph → Places → List ℕ → ℕ → ℕ → Type 0
IsNewAtSite v g places region_at k w =
    IsSiteWord (site_at g k).kind (site_address g places region_at k) (image_word v (site_at g k).at) w

-- `w` is the new word at `a`: of a site, or of a word of data
abbrev pub IsNewWord : PlainView → Graph → Places → List ℕ → ℕ → ℕ → Type 0
IsNewWord v g places region_at a w =
    ((k : ℕ) × ((k < length g.sites.items) × ((site_at g k).at ≡ a) × IsNewAtSite v g places region_at k w))
    ⊎ ((k : ℕ) × ((k < length g.data_words.items) × ((data_word_at g k).at ≡ a) × (w ≡ word_address g places k)))

-- a list of addresses and words has this entry
abbrev pub is_entry : ℕ → ℕ → ℕ × ℕ → Bool
is_entry a w e = (e.0 == a) && (e.1 == w)

abbrev pub has_entry : List (ℕ × ℕ) → ℕ → ℕ → Bool
has_entry entries a w = list_any (is_entry a w) entries

-- the list has a new word for each site and for each word of data, and no others; by address, and no two share a byte
pub record AreSiteWords (v : PlainView) (g : Graph) (places : Places) (region_at : List ℕ) (entries : List (ℕ × ℕ)) : Type 0 where
  pub disjoint : AllPairs (λ d e. d.0 + 4 ≤ e.0) entries
  pub sites : (k : ℕ) → k < length g.sites.items → (w : ℕ) × ((has_entry entries (site_at g k).at w ≡ true) × IsNewAtSite v g places region_at k w)
  pub data_words : (k : ℕ) → k < length g.data_words.items → has_entry entries (data_word_at g k).at (word_address g places k) ≡ true
  pub only : (a w : ℕ) → has_entry entries a w ≡ true → IsNewWord v g places region_at a w

-- ---- what is asked of the places

abbrev pub row_length : Places → ℕ → ℕ
row_length places o = length (slice_index_or (rows_of places.of.items) o [])

-- each site has a region, and there is a place for each object of the graph in region 0 and in each of these regions
pub record HasPlaces (g : Graph) (places : Places) (region_at : List ℕ) : Type 0 where
  pub sites : length region_at ≡ length g.sites.items
  pub objects : length g.objects.items ≤ length places.of.items
  pub start : (o : ℕ) → o < length g.objects.items → 0 < row_length places o
  pub regions : (o k : ℕ) → o < length g.objects.items → k < length region_at → slice_index_or region_at k 0 < row_length places o
