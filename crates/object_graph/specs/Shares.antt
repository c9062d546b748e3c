-- Which relocations give a site of any object, and by which of them an object has a site at a word with
-- another one. The rules by which ranges that meet no other one stay where they are.
use Rattle.std.specs.Prelude.{◌≡◌, ℕ, ◌+◌, ◌==◌, nat_lt, nat_le, Bool, ◌&&◌, ◌||◌, length}
use Rattle.std.specs.List.{count_by, list_any}
use Rattle.list_checks.specs.Tests.{any_below}
use Rattle.elf_reader.specs.File.{PlainSymbol, PlainView}
use Rattle.elf_reader.specs.declared.view.Reloc.{Reloc}
use Rattle.loaded_file.specs.Records.{symbol_at, reloc_at, counts, symbol_of, target}
use Rattle.loaded_file.specs.Ranges.{has_range, inside}
use Rattle.object_graph.specs.Rewritable.{displacement, is_rewritable_pair, is_pair_low}
use Rattle.list_checks.specs.Sorted.{IsSorted, count_below}
use Rattle.board_config.specs.declared.board.Board.{Board}
use Rattle.object_graph.specs.Fixed.{is_in_zeros, is_listed, is_aliased, is_unrewritable}
use Rattle.object_graph.specs.Meant.{leads_inside, is_direct}
use Rattle.object_graph.specs.declared.cover.Cover.{Cover}
use Rattle.object_graph.specs.declared.cover.Bound.{Bound}
use Rattle.object_graph.specs.declared.cover.Bound.TheVariants.{Home, End}
use Rattle.object_graph.specs.declared.shared_words.SharedWords.{SharedWords}

-- ---- objects at an address

-- where the object of a symbol begins, and where it ends
abbrev pub bound_of : Bound → PlainSymbol → ℕ
bound_of Home s = s.value
bound_of End s = s.value + s.size

-- symbol `k` is of an object of which a bound passes a test
abbrev pub bounds_by : PlainView → Bound → (ℕ → Bool) → ℕ → Bool
bounds_by v bound test k = has_range v (symbol_at v k) && test (bound_of bound (symbol_at v k))

-- an address lies in the range of symbol `k`
abbrev pub holds_address : PlainView → ℕ → ℕ → Bool
holds_address v a k = has_range v (symbol_at v k) && inside (symbol_at v k).value (symbol_at v k).size a

-- the homes and the ends of all objects
pub record IsCover (v : PlainView) (cover : Cover) : Type 0 where
  pub homes_sorted : IsSorted cover.homes.items
  pub ends_sorted : IsSorted cover.ends.items
  pub homes : (test : ℕ → Bool) → count_by test cover.homes.items ≡ count_below (bounds_by v Home test) (length v.symbols)
  pub ends : (test : ℕ → Bool) → count_by test cover.ends.items ≡ count_below (bounds_by v End test) (length v.symbols)

-- ---- sites of any object

-- a relocation with this symbol leads to some object, if it counts
abbrev pub leads_by : PlainView → Reloc → PlainSymbol → Bool
leads_by v r s =
    has_range v s && nat_le (displacement v s.value r) s.size
    || (s.kind == 3) && any_below (holds_address v (target v r)) (length v.symbols)

-- it leads to some object
abbrev pub leads_some : PlainView → ℕ → Bool
leads_some v i = counts v (reloc_at v i) && leads_by v (reloc_at v i) (symbol_of v (reloc_at v i))

-- relocation `i` is of an AUIPC and gives a site of some object, at an address that passes a test
abbrev pub is_high_by : PlainView → (ℕ → Bool) → ℕ → Bool
is_high_by v test i = is_rewritable_pair v (reloc_at v i) && leads_some v i && test (reloc_at v i).at

-- the address `a`
abbrev pub at_number : ℕ → ℕ → Bool
at_number a x = a == x

-- relocation `j` is of the low part of such an AUIPC
abbrev pub is_low_of_some : PlainView → ℕ → Bool
is_low_of_some v j =
    counts v (reloc_at v j)
    && is_pair_low (reloc_at v j).kind
    && any_below (is_high_by v (at_number (symbol_of v (reloc_at v j)).value)) (length v.relocs)

-- relocation `j` gives a site of some object
abbrev pub gives_some : PlainView → ℕ → Bool
gives_some v j = is_direct v j && leads_some v j || is_low_of_some v j

-- at an address that passes a test
abbrev pub gives_by : PlainView → (ℕ → Bool) → ℕ → Bool
gives_by v test j = gives_some v j && test (reloc_at v j).at

-- ---- shared words

-- there are two sites at `a`
abbrev pub repeats_at : PlainView → ℕ → Bool
repeats_at v a = nat_lt 1 (count_below (gives_by v (at_number a)) (length v.relocs))

-- relocation `j` is of a low part that shares its word
abbrev pub is_low_shared : PlainView → ℕ → Bool
is_low_shared v j =
    counts v (reloc_at v j) && is_pair_low (reloc_at v j).kind && repeats_at v (reloc_at v j).at

-- of an AUIPC at an address that passes a test
abbrev pub is_shared_low : PlainView → (ℕ → Bool) → ℕ → Bool
is_shared_low v test j = is_low_shared v j && test (symbol_of v (reloc_at v j)).value

-- relocation `i` gives a site that shares its word, or one of which a low part does
abbrev pub shares_from : PlainView → ℕ → Bool
shares_from v i =
    is_direct v i && repeats_at v (reloc_at v i).at
    || is_rewritable_pair v (reloc_at v i) && any_below (is_shared_low v (at_number (reloc_at v i).at)) (length v.relocs)

-- relocation `i` counts, means the object, leads into it or to its end, and gives such a site
abbrev pub is_shared_from : PlainView → ℕ → ℕ → ℕ → Bool
is_shared_from v home n i =
    counts v (reloc_at v i) && shares_from v i && leads_inside v (reloc_at v i) home n

-- an object has a site that shares its word
abbrev pub shares_a_word : PlainView → ℕ → ℕ → Bool
shares_a_word v home n = any_below (is_shared_from v home n) (length v.relocs)

-- the rules of symbols, and those of relocations
abbrev pub is_immovable : PlainView → Board → ℕ → ℕ → Bool
is_immovable v board home n =
    is_in_zeros v board home n || is_listed v board home n || is_aliased v home n
    || (is_unrewritable v home n || shares_a_word v home n)

-- the addresses of all sites, as often as there are sites, and those of the AUIPCs of which a low part
-- shares its word
pub record AreSharedWords (v : PlainView) (words : SharedWords) : Type 0 where
  pub sites_sorted : IsSorted words.sites.items
  pub highs_sorted : IsSorted words.highs.items
  pub sites : (test : ℕ → Bool) → count_by test words.sites.items ≡ count_below (gives_by v test) (length v.relocs)
  pub highs : (test : ℕ → Bool) → list_any test words.highs.items ≡ any_below (is_shared_low v test) (length v.relocs)
