-- Which objects stay where they are: a definition for each rule.
use Rattle.std.specs.Prelude.{ℕ, ◌==◌, nat_le, Bool, not, ◌&&◌, ◌||◌, List, length, codes, bytes_eq}
use Rattle.std.specs.List.{list_any}
use Rattle.list_checks.specs.Tests.{any_below}
use Rattle.elf_reader.specs.File.{PlainSymbol, PlainView}
use Rattle.elf_reader.specs.declared.view.Reloc.{Reloc}
use Rattle.board_config.specs.Board.{plain_texts}
use Rattle.board_config.specs.declared.board.Board.{Board}
use Rattle.loaded_file.specs.Records.{symbol_at, reloc_at, counts, symbol_of, target}
use Rattle.loaded_file.specs.Ranges.{owner_of, has_range, is_symbol_of, is_range, is_overlapped, inside}
use Rattle.object_graph.specs.Rewritable.{is_meant, displacement, is_rewritable, is_rewritable_high, is_rewritable_low, is_rewritable_pair, names_high}

-- symbol `k` of it stands in a section without content (SHT_NOBITS, 8)
abbrev pub stands_in_zeros : PlainView → ℕ → ℕ → ℕ → Bool
stands_in_zeros v home n k = is_symbol_of v home n k && ((owner_of v (symbol_at v k)).kind == 8)

-- its section has no content, and the board doesn't let such objects move
abbrev pub is_in_zeros : PlainView → Board → ℕ → ℕ → Bool
is_in_zeros v board home n =
    not board.bss_movable && any_below (stands_in_zeros v home n) (length v.symbols)

-- a name stands in the board's list
abbrev pub is_listed_name : Board → List ℕ → Bool
is_listed_name board name = list_any (λ listed. bytes_eq listed name) (plain_texts board.fix)

-- symbol `k` of it has a listed name, or its section has
abbrev pub has_listed_name : PlainView → Board → ℕ → ℕ → ℕ → Bool
has_listed_name v board home n k =
    is_symbol_of v home n k
    && (is_listed_name board (symbol_at v k).name || is_listed_name board (owner_of v (symbol_at v k)).name)

-- one of its names, or its section's, stands in the board's list
abbrev pub is_listed : PlainView → Board → ℕ → ℕ → Bool
is_listed v board home n = any_below (has_listed_name v board home n) (length v.symbols)

-- a symbol that tells of no object: neither that of an object, nor of a section, nor the global pointer
abbrev pub is_alias : PlainView → PlainSymbol → Bool
is_alias v s = not (has_range v s) && not (s.kind == 3) && not (bytes_eq s.name (codes "__global_pointer$"))

-- the range of symbol `k` stands in section `section`, and has the symbol or the target of a relocation
abbrev pub is_aliased_into : PlainView → ℕ → Reloc → ℕ → Bool
is_aliased_into v section r k =
    has_range v (symbol_at v k)
    && ((symbol_at v k).section == section)
    && (inside (symbol_at v k).value (symbol_at v k).size (symbol_of v r).value
    || inside (symbol_at v k).value (symbol_at v k).size (target v r))

-- relocation `i` leads into an object of section `section` by a symbol that tells of none
abbrev pub aliases_into : PlainView → ℕ → ℕ → Bool
aliases_into v section i =
    counts v (reloc_at v i)
    && is_alias v (symbol_of v (reloc_at v i))
    && any_below (is_aliased_into v section (reloc_at v i)) (length v.symbols)

-- symbol `k` of it stands in a section into whose objects a relocation aliases
abbrev pub has_aliased_section : PlainView → ℕ → ℕ → ℕ → Bool
has_aliased_section v home n k =
    is_symbol_of v home n k && any_below (aliases_into v (symbol_at v k).section) (length v.relocs)

-- some relocation aliases the objects of its section: so the distances of these may matter
abbrev pub is_aliased : PlainView → ℕ → ℕ → Bool
is_aliased v home n = any_below (has_aliased_section v home n) (length v.symbols)

-- relocation `i` means it and isn't rewritable
abbrev pub is_unrewritable_by : PlainView → ℕ → ℕ → ℕ → Bool
is_unrewritable_by v home n i =
    counts v (reloc_at v i) && is_meant v home n (reloc_at v i) && not (is_rewritable v home n i)

-- a relocation means it and isn't rewritable
abbrev pub is_unrewritable : PlainView → ℕ → ℕ → Bool
is_unrewritable v home n = any_below (is_unrewritable_by v home n) (length v.relocs)

-- ---- sites

-- relocation `i` counts, means the object and leads into it or to its end
abbrev pub leads_to : PlainView → ℕ → ℕ → ℕ → Bool
leads_to v home n i =
    counts v (reloc_at v i) && is_meant v home n (reloc_at v i) && nat_le (displacement v home (reloc_at v i)) n

-- relocation `i` is of an AUIPC of the object whose low parts fit it, and relocation `j` is one of these
abbrev pub gives_pair : PlainView → ℕ → ℕ → ℕ → ℕ → Bool
gives_pair v home n j i =
    leads_to v home n i && is_rewritable_pair v (reloc_at v i) && names_high v (reloc_at v i) (reloc_at v j)

-- relocation `j` gives a site of the object, at the instruction that it changes: by itself, or as the low
-- part of an AUIPC
abbrev pub is_site_of : PlainView → ℕ → ℕ → ℕ → Bool
is_site_of v home n j =
    leads_to v home n j
    && (is_rewritable_high v (reloc_at v j) || is_rewritable_low v (reloc_at v j) || is_rewritable_pair v (reloc_at v j))
    || counts v (reloc_at v j) && any_below (gives_pair v home n j) (length v.relocs)

-- it gives a site of the object of symbol `k`
abbrev pub is_site_by : PlainView → ℕ → ℕ → Bool
is_site_by v j k = has_range v (symbol_at v k) && is_site_of v (symbol_at v k).value (symbol_at v k).size j

-- relocation `i`, another one than `j`, gives a site at the same word
abbrev pub shares_word : PlainView → ℕ → ℕ → Bool
shares_word v j i =
    not (i == j) && ((reloc_at v i).at == (reloc_at v j).at) && any_below (is_site_by v i) (length v.symbols)

-- relocation `j` gives a site of the object, and another one a site at the same word
abbrev pub is_shared_by : PlainView → ℕ → ℕ → ℕ → Bool
is_shared_by v home n j = is_site_of v home n j && any_below (shares_word v j) (length v.relocs)

-- two sites share a word, and one is of this object
abbrev pub is_shared : PlainView → ℕ → ℕ → Bool
is_shared v home n = any_below (is_shared_by v home n) (length v.relocs)

-- ---- the rules together

abbrev pub is_fixed : PlainView → Board → ℕ → ℕ → Bool
is_fixed v board home n =
    is_overlapped v home n
    || is_in_zeros v board home n
    || is_listed v board home n
    || is_aliased v home n
    || is_unrewritable v home n
    || is_shared v home n

-- the `n` bytes at `home` are an object that may move
abbrev pub is_movable : PlainView → Board → ℕ → ℕ → Bool
is_movable v board home n = is_range v home n && not (is_fixed v board home n)
