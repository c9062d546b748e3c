-- What the graph of a file and a board is.
use Rattle.std.specs.Prelude.{◌≡◌, ℕ, ◌+◌, ◌==◌, ◌≤◌, nat_lt, Bool, true, not, ◌&&◌, ◌||◌, List, length, slice_index_or}
use Rattle.std.specs.List.{All, AllPairs, list_any}
use Rattle.list_checks.specs.Tests.{any_below}
use Rattle.elf_reader.specs.Sections.{bit_of}
use Rattle.elf_reader.specs.File.{PlainView}
use Rattle.elf_reader.specs.declared.view.Reloc.{Reloc}
use Rattle.board_config.specs.declared.board.Board.{Board}
use Rattle.loaded_file.specs.Records.{symbol_at, reloc_at, counts}
use Rattle.loaded_file.specs.Ranges.{owner_of, is_symbol_of}
use Rattle.object_graph.specs.Rewritable.{displacement, is_rewritable_word, is_rewritable_high, is_rewritable_low, is_rewritable_pair}
use Rattle.object_graph.specs.Fixed.{leads_to, gives_pair, is_movable}
use Rattle.object_graph.specs.CodeRanges.{code_ranges_of}
use Rattle.object_graph.specs.declared.parts.Object.{Object}
use Rattle.object_graph.specs.declared.parts.SiteKind.{SiteKind}
use Rattle.object_graph.specs.declared.parts.SiteKind.TheVariants.{Hi, LowI, LowS}
use Rattle.object_graph.specs.declared.parts.Site.{Site}
use Rattle.object_graph.specs.declared.parts.DataWord.{DataWord}
use Rattle.object_graph.specs.declared.parts.Graph.{Graph}

-- ---- objects

-- symbol `k` is the first of the object of `n` bytes at `home`
abbrev pub is_first_of : PlainView → ℕ → ℕ → ℕ → Bool
is_first_of v home n k = is_symbol_of v home n k && not (any_below (is_symbol_of v home n) k)

-- the section of symbol `k` is writable (SHF_WRITE, bit 0)
abbrev pub is_writable : PlainView → ℕ → Bool
is_writable v k = bit_of (owner_of v (symbol_at v k)).flags 0

-- an object tells its first symbol, and whether that stands in a writable section
pub record IsNamed (v : PlainView) (o : Object) : Type 0 where
  pub first : is_first_of v o.home o.size o.name ≡ true
  pub writable : o.writable ≡ is_writable v o.name

-- a list has the object of `n` bytes at `home`
abbrev pub is_object_of : ℕ → ℕ → Object → Bool
is_object_of home n o = (o.home == home) && (o.size == n)

abbrev pub has_object : List Object → ℕ → ℕ → Bool
has_object objects home n = list_any (is_object_of home n) objects

-- the objects that may move, each once, by home: each ends where or before the next begins
pub record IsObjects (v : PlainView) (board : Board) (objects : List Object) : Type 0 where
  pub disjoint : AllPairs (λ a b. a.home + a.size ≤ b.home) objects
  pub exact : (home n : ℕ) → has_object objects home n ≡ is_movable v board home n
  pub named : All (IsNamed v) objects

-- object `k` of a list; one of no bytes behind the last
abbrev pub no_object : Object
no_object = record { name = 0; home = 0; size = 0; writable = Bool.false }

abbrev pub object_at : List Object → ℕ → Object
object_at objects k = slice_index_or objects k no_object

-- ---- sites

-- which part of an address a relocation of this kind makes: HI20 (26) and PCREL_HI20 (23) the upper part,
-- LO12_I (27) and PCREL_LO12_I (24) the lower part of an ADDI or a load, LO12_S (28) and PCREL_LO12_S (25)
-- that of a store
abbrev pub makes_part : SiteKind → ℕ → Bool
makes_part Hi kind = (kind == 26) || (kind == 23)
makes_part LowI kind = (kind == 27) || (kind == 24)
makes_part LowS kind = (kind == 28) || (kind == 25)

-- relocation `j` gives by itself a site of the object of `n` bytes at `home`, `offset` bytes behind it
abbrev pub gives_directly : PlainView → ℕ → ℕ → ℕ → ℕ → Bool
gives_directly v home n offset j =
    leads_to v home n j
    && (is_rewritable_high v (reloc_at v j) || is_rewritable_low v (reloc_at v j) || is_rewritable_pair v (reloc_at v j))
    && (displacement v home (reloc_at v j) == offset)

-- relocation `j` is the low part of the AUIPC of relocation `i`, which gives such a site
abbrev pub gives_low_of : PlainView → ℕ → ℕ → ℕ → ℕ → ℕ → Bool
gives_low_of v home n offset j i = gives_pair v home n j i && (displacement v home (reloc_at v i) == offset)

-- relocation `j` gives such a site
abbrev pub gives_offset : PlainView → ℕ → ℕ → ℕ → ℕ → Bool
gives_offset v home n offset j =
    gives_directly v home n offset j
    || counts v (reloc_at v j) && any_below (gives_low_of v home n offset j) (length v.relocs)

-- relocation `j` gives the site `s`, which is of an object of the list
abbrev pub gives_site : PlainView → List Object → Site → ℕ → Bool
gives_site v objects s j =
    ((reloc_at v j).at == s.at)
    && makes_part s.kind (reloc_at v j).kind
    && gives_offset v (object_at objects s.object).home (object_at objects s.object).size s.offset j

abbrev pub is_site_of_list : PlainView → List Object → Site → Bool
is_site_of_list v objects s =
    nat_lt s.object (length objects) && any_below (gives_site v objects s) (length v.relocs)

-- two parts are the same; two sites are
abbrev pub same_part : SiteKind → SiteKind → Bool
same_part Hi Hi = Bool.true
same_part LowI LowI = Bool.true
same_part LowS LowS = Bool.true
same_part one other = Bool.false

abbrev pub same_site : Site → Site → Bool
same_site s t =
    (s.at == t.at) && same_part s.kind t.kind && (s.object == t.object) && (s.offset == t.offset)

-- the sites of the objects of a list, each once, by address, no two at one word
pub record IsSites (v : PlainView) (objects : List Object) (sites : List Site) : Type 0 where
  pub disjoint : AllPairs (λ a b. a.at + 4 ≤ b.at) sites
  pub exact : (s : Site) → list_any (same_site s) sites ≡ is_site_of_list v objects s

-- ---- words of data

-- relocation `j` gives the word of data `d`, which leads to an object of the list
abbrev pub gives_word : PlainView → List Object → DataWord → ℕ → Bool
gives_word v objects d j =
    ((reloc_at v j).at == d.at)
    && leads_to v (object_at objects d.object).home (object_at objects d.object).size j
    && is_rewritable_word v j (reloc_at v j)
    && (displacement v (object_at objects d.object).home (reloc_at v j) == d.offset)

abbrev pub is_word_of_list : PlainView → List Object → DataWord → Bool
is_word_of_list v objects d =
    nat_lt d.object (length objects) && any_below (gives_word v objects d) (length v.relocs)

abbrev pub same_word : DataWord → DataWord → Bool
same_word d e = (d.at == e.at) && (d.object == e.object) && (d.offset == e.offset)

-- the words of data that lead to the objects of a list, each once, by address, none meeting another
pub record IsWords (v : PlainView) (objects : List Object) (words : List DataWord) : Type 0 where
  pub disjoint : AllPairs (λ a b. a.at + 4 ≤ b.at) words
  pub exact : (d : DataWord) → list_any (same_word d) words ≡ is_word_of_list v objects d

-- ---- the graph

pub record IsGraph (v : PlainView) (board : Board) (g : Graph) : Type 0 where
  pub grain : g.grain ≡ board.grain
  pub objects : IsObjects v board g.objects.items
  pub sites : IsSites v g.objects.items g.sites.items
  pub data_words : IsWords v g.objects.items g.data_words.items
  pub code : g.code.items ≡ code_ranges_of v
