-- How the parts of a graph are gathered, a relocation or a symbol at a time.
use Rattle.std.specs.Prelude.{◌≡◌, ℕ, ◌+◌, ◌≤◌, ◌==◌, nat_lt, Bool, false, not, ◌&&◌, List, [], ◌∷◌, length, Option, Some, None}
use Rattle.std.specs.List.{AllPairs, list_any}
use Rattle.list_checks.specs.Tests.{any_below, ranges_overlap}
use Rattle.list_checks.specs.First.{unless, first_below}
use Rattle.elf_reader.specs.File.{PlainView}
use Rattle.board_config.specs.declared.board.Board.{Board}
use Rattle.loaded_file.specs.Records.{reloc_at, counts}
use Rattle.loaded_file.specs.declared.byte_ranges.ByteRange.{ByteRange}
use Rattle.loaded_file.specs.Ranges.{is_symbol_of}
use Rattle.loaded_file.specs.ByteRanges.{byte_range_at, has_byte_range_in, IsFilled}
use Rattle.object_graph.specs.Rewritable.{displacement, is_rewritable_word}
use Rattle.object_graph.specs.Disjoint.{IsDisjoint}
use Rattle.object_graph.specs.Fixed.{leads_to, is_movable}
use Rattle.object_graph.specs.declared.leads.Lead.{Lead}
use Rattle.object_graph.specs.declared.parts.Object.{Object}
use Rattle.object_graph.specs.declared.parts.Site.{Site}
use Rattle.object_graph.specs.declared.parts.DataWord.{DataWord}
use Rattle.object_graph.specs.Graphs.{makes_part, gives_directly, gives_low_of, gives_offset, same_site, same_word}

-- ---- what one step gives

-- as a list, whether it passes a test, and whether it is some value
abbrev pub listed : {X : Type 0} → Option X → List X
listed None = []
listed (Some x) = x ∷ []

abbrev pub passes : {X : Type 0} → (X → Bool) → Option X → Bool
passes test None = false
passes test (Some x) = test x

abbrev pub gives : {X : Type 0} → (X → X → Bool) → X → Option X → Bool
gives same x o = passes (same x) o

-- a list has just what the places below n of a table give
abbrev pub HasGiven : {X : Type 0} → (X → X → Bool) → (X → ℕ → Bool) → List X → ℕ → Type 0
HasGiven {X} same test xs n = (x : X) → list_any (same x) xs ≡ any_below (test x) n

-- place i of the table gives just this
abbrev pub GivesJust : {X : Type 0} → (X → X → Bool) → (X → ℕ → Bool) → Option X → ℕ → Type 0
GivesJust {X} same test o i = (x : X) → gives same x o ≡ test x i

-- words of four bytes at these addresses, of which no two meet; and by address
abbrev pub AreSeparate : {X : Type 0} → (X → ℕ) → List X → Type 0
AreSeparate at xs = AllPairs (λ x y. ranges_overlap (at x) 4 (at y) 4 ≡ false) xs

abbrev pub AreInOrder : {X : Type 0} → (X → ℕ) → List X → Type 0
AreInOrder at xs = AllPairs (λ x y. at x + 4 ≤ at y) xs

-- ---- ranges

-- a list has just the objects that may move on a board, disjoint and by home; on some board
pub record AreMovableOf (v : PlainView) (board : Board) (ranges : List ByteRange) : Type 0 where
  pub disjoint : IsDisjoint ranges
  pub exact : (home n : ℕ) → has_byte_range_in ranges home n ≡ is_movable v board home n
  pub filled : IsFilled ranges

pub record AreMovable (v : PlainView) (ranges : List ByteRange) : Type 0 where
  pub board : Board
  pub disjoint : IsDisjoint ranges
  pub exact : (home n : ℕ) → has_byte_range_in ranges home n ≡ is_movable v board home n
  pub filled : IsFilled ranges

-- the range of an object
abbrev pub range_of : Object → ByteRange
range_of o = record { home = o.home; size = o.size }

-- the first symbol of a range among the first m, if there is one
abbrev pub symbol_if : PlainView → ℕ → ℕ → ℕ → Option ℕ
symbol_if v home n k = unless (not (is_symbol_of v home n k)) k

abbrev pub first_symbol : PlainView → ℕ → ℕ → ℕ → Option ℕ
first_symbol v home n m = first_below (symbol_if v home n) m

-- ---- leads

-- where a relocation leads is range `k`, `offset` bytes behind its home
abbrev pub is_lead : ℕ → ℕ → Option Lead → Bool
is_lead k offset None = false
is_lead k offset (Some lead) = (lead.object == k) && (lead.offset == offset)

-- relocation `i` leads there
abbrev pub leads_by : PlainView → List ByteRange → ℕ → ℕ → ℕ → Bool
leads_by v ranges k offset i =
    nat_lt k (length ranges)
    && (leads_to v (byte_range_at ranges k).home (byte_range_at ranges k).size i
    && (displacement v (byte_range_at ranges k).home (reloc_at v i) == offset))

-- ---- sites

-- relocation `j` stands where the site `s` of a range of the list does, and is of its kind, and this holds
abbrev pub marks_site : PlainView → List ByteRange → Site → ℕ → Bool → Bool
marks_site v ranges s j holds =
    nat_lt s.object (length ranges)
    && (((reloc_at v j).at == s.at)
    && makes_part s.kind (reloc_at v j).kind
    && holds)

-- relocation `j` gives the site `s` of a range of the list: by itself; as the upper part of a pair; as the
-- lower part of one; in any way
abbrev pub gives_alone : PlainView → List ByteRange → Site → ℕ → Bool
gives_alone v ranges s j =
    marks_site v ranges s j
    (gives_directly v (byte_range_at ranges s.object).home (byte_range_at ranges s.object).size s.offset j)

abbrev pub gives_high : PlainView → List ByteRange → Site → ℕ → Bool
gives_high v ranges s j = ((reloc_at v j).kind == 23) && gives_alone v ranges s j

abbrev pub gives_low : PlainView → List ByteRange → Site → ℕ → Bool
gives_low v ranges s j =
    marks_site v ranges s j
    (counts v (reloc_at v j)
    && any_below (gives_low_of v (byte_range_at ranges s.object).home (byte_range_at ranges s.object).size s.offset j) (length v.relocs))

abbrev pub is_site_in : PlainView → List ByteRange → Site → ℕ → Bool
is_site_in v ranges s j =
    marks_site v ranges s j
    (gives_offset v (byte_range_at ranges s.object).home (byte_range_at ranges s.object).size s.offset j)

-- where a site and a word of data stand
abbrev pub site_place : Site → ℕ
site_place s = s.at

abbrev pub word_place : DataWord → ℕ
word_place d = d.at

-- a list has just the upper parts of pairs, by address; just the sites
pub record AreHighs (v : PlainView) (ranges : List ByteRange) (sites : List Site) : Type 0 where
  pub disjoint : AreInOrder site_place sites
  pub exact : HasGiven same_site (gives_high v ranges) sites (length v.relocs)

pub record AreSites (v : PlainView) (ranges : List ByteRange) (sites : List Site) : Type 0 where
  pub disjoint : AreInOrder site_place sites
  pub exact : HasGiven same_site (is_site_in v ranges) sites (length v.relocs)

-- ---- words of data

-- relocation `j` gives the word of data `d`, which leads to a range of the list
abbrev pub is_word_in : PlainView → List ByteRange → DataWord → ℕ → Bool
is_word_in v ranges d j =
    nat_lt d.object (length ranges)
    && (((reloc_at v j).at == d.at)
    && leads_to v (byte_range_at ranges d.object).home (byte_range_at ranges d.object).size j
    && is_rewritable_word v j (reloc_at v j)
    && (displacement v (byte_range_at ranges d.object).home (reloc_at v j) == d.offset))

-- a list has just these, by address
pub record AreWords (v : PlainView) (ranges : List ByteRange) (words : List DataWord) : Type 0 where
  pub disjoint : AreInOrder word_place words
  pub exact : HasGiven same_word (is_word_in v ranges) words (length v.relocs)
