-- The segments of what is written can be loaded.
use Rattle.std.proofs.Common.{ℕ, zero, suc, ◌+◌, ◌<◌, nat_lt, List, [], ◌∷◌, map, get_or, slice_index, ◌-◌, Some, arith}
use Rattle.std.specs.List.{All}
use Rattle.std.proofs.lemmas.Bool.{cond_both}
use Rattle.std.proofs.lemmas.List.Elements.{All-nil, All-cons, All-head, All-tail, All-append, All-map}
use Rattle.rv32im.specs.Words.{byte_of}
use Rattle.elf_reader.specs.File.{PlainSegment, PlainView}
use Rattle.elf_reader.specs.Loadable.{IsByte, AreBytes, IsLoadable, AreLoadable}
use Rattle.elf_writer.specs.Pieces.{half_bytes, word_bytes, words_bytes}
use Rattle.elf_writer.specs.declared.parts.Patch.{Patch}
use Rattle.elf_writer.specs.declared.parts.SymbolMove.{SymbolMove}
use Rattle.elf_writer.specs.Changes.{Change, changes_place, byte_after, byte_changed, changed}
use Rattle.elf_writer.specs.Parts.{NewSegment, nth_symbol, patch_change, move_changes, moves_changes, content_changes, header_changes, table_place}
use Rattle.elf_writer.specs.Written.{all_changes}
use Rattle.elf_writer.specs.View.{changed_segment, added_segment, numbered_behind, with_added, written_segments}
use Rattle.elf_writer.specs.Conditions.{IsAddable}
use Rattle.elf_writer.proofs.ChangeLemmas.{length-changed}

-- ---- bytes

a_byte : (w k : ℕ) → byte_of w k < 256
a_byte w k = omega arith

pub word_is_bytes : (w : ℕ) → AreBytes (word_bytes w)
word_is_bytes w =
    All-cons IsByte (byte_of w 0) (byte_of w 1 ∷ byte_of w 2 ∷ byte_of w 3 ∷ []) (a_byte w 0)
    (All-cons IsByte (byte_of w 1) (byte_of w 2 ∷ byte_of w 3 ∷ []) (a_byte w 1)
    (All-cons IsByte (byte_of w 2) (byte_of w 3 ∷ []) (a_byte w 2)
    (All-cons IsByte (byte_of w 3) [] (a_byte w 3) (All-nil IsByte))))

half_is_bytes : (w : ℕ) → AreBytes (half_bytes w)
half_is_bytes w =
    All-cons IsByte (byte_of w 0) (byte_of w 1 ∷ []) (a_byte w 0)
    (All-cons IsByte (byte_of w 1) [] (a_byte w 1) (All-nil IsByte))

pub words_are_bytes : (words : List ℕ) → AreBytes (words_bytes words)
words_are_bytes [] = All-nil IsByte
words_are_bytes (w ∷ ws) = All-append IsByte (word_bytes w) (words_bytes ws) (word_is_bytes w) (words_are_bytes ws)

-- ---- changes

abbrev PutsBytes : Change → Type 0
PutsBytes c = AreBytes c.content

two_put : (at value : ℕ) → All PutsBytes (record { place = at + 4; content = word_bytes value } ∷ record { place = at + 14; content = half_bytes 65521 } ∷ [])
two_put at value =
    let value_put : Change = record { place = at + 4; content = word_bytes value } in
    let section_put : Change = record { place = at + 14; content = half_bytes 65521 } in
    All-cons PutsBytes value_put (section_put ∷ []) (word_is_bytes value) (All-cons PutsBytes section_put [] (half_is_bytes 65521) (All-nil PutsBytes))

three_put : (entry table count : ℕ) → All PutsBytes (record { place = 24; content = word_bytes entry } ∷ record { place = 28; content = word_bytes table } ∷ record { place = 44; content = half_bytes count } ∷ [])
three_put entry table count =
    let entry_put : Change = record { place = 24; content = word_bytes entry } in
    let table_put : Change = record { place = 28; content = word_bytes table } in
    let count_put : Change = record { place = 44; content = half_bytes count } in
    All-cons PutsBytes entry_put (table_put ∷ count_put ∷ []) (word_is_bytes entry)
    (All-cons PutsBytes table_put (count_put ∷ []) (word_is_bytes table)
    (All-cons PutsBytes count_put [] (half_is_bytes count) (All-nil PutsBytes)))

moves_put_bytes : (v : PlainView) (moves : List SymbolMove) → All PutsBytes (moves_changes v.symbols moves)
moves_put_bytes v [] = All-nil PutsBytes
moves_put_bytes v (m ∷ ms) =
    All-append PutsBytes (move_changes v.symbols m) (moves_changes v.symbols ms)
    (two_put (nth_symbol v.symbols m.symbol).at m.value)
    (moves_put_bytes v ms)

all_put_bytes : (v : PlainView) (patches : List Patch) (s : NewSegment) (moves : List SymbolMove) → All PutsBytes (all_changes v patches (Some s) moves)
all_put_bytes v patches s moves =
    All-append PutsBytes (content_changes v patches moves) (header_changes v s)
    (All-append PutsBytes (map patch_change patches) (moves_changes v.symbols moves)
    (All-map PutsBytes patch_change patches (λ k d below. word_is_bytes (get_or patches k d).word)) (moves_put_bytes v moves))
    (three_put s.entry (table_place v) (v.ph_count + 1))

in_bytes : (bytes : List ℕ) (k : ℕ) → AreBytes bytes → slice_index bytes k < 256
in_bytes [] k are = omega arith
in_bytes (b ∷ bs) zero are = All-head IsByte b bs are
in_bytes (b ∷ bs) (suc k) are = in_bytes bs k (All-tail IsByte b bs are)

after_one : (c : Change) (at old : ℕ) → PutsBytes c → old < 256 → byte_after c at old < 256
after_one c at old puts small =
    cond_both (changes_place c at) (slice_index c.content (at - c.place)) old (λ b. b < 256)
    (λ yes. in_bytes c.content (at - c.place) puts) (λ no. small)

after_all : (cs : List Change) (at old : ℕ) → All PutsBytes cs → old < 256 → byte_changed cs at old < 256
after_all [] at old puts small = small
after_all (c ∷ cs) at old puts small =
    after_all cs at (byte_after c at old) (All-tail PutsBytes c cs puts) (after_one c at old (All-head PutsBytes c cs puts) small)

changed_bytes : (cs : List Change) (at : ℕ) (bytes : List ℕ) → All PutsBytes cs → AreBytes bytes → AreBytes (changed cs at bytes)
changed_bytes cs at [] puts are = All-nil IsByte
changed_bytes cs at (b ∷ bs) puts are =
    All-cons IsByte (byte_changed cs at b) (changed cs (at + 1) bs) (after_all cs at b puts (All-head IsByte b bs are)) (changed_bytes cs (at + 1) bs puts (All-tail IsByte b bs are))

-- ---- segments

changed_loadable : (cs : List Change) (s : PlainSegment) → All PutsBytes cs → IsLoadable s → IsLoadable (changed_segment cs s)
changed_loadable cs s puts is =
    let size = length-changed cs s.offset s.content in
    let fits = is.fits in
    record {
      bytes = changed_bytes cs s.offset s.content puts is.bytes;
      fits = omega (arith, size, fits);
      ends = is.ends;
    }

behind_loadable : (ss : List PlainSegment) → AreLoadable ss → AreLoadable (map numbered_behind ss)
behind_loadable ss are =
    All-map IsLoadable numbered_behind ss
    (λ k d below. let is = are k d below in record { bytes = is.bytes; fits = is.fits; ends = is.ends })

with_loadable : (new : PlainSegment) (ss : List PlainSegment) → IsLoadable new → AreLoadable ss → AreLoadable (with_added new ss)
with_loadable new [] is are = All-cons IsLoadable new [] is (All-nil IsLoadable)
with_loadable new (s ∷ ss) is are =
    cond_both (nat_lt s.index new.index) (s ∷ with_added new ss) (new ∷ map numbered_behind (s ∷ ss)) AreLoadable
    (λ yes. All-cons IsLoadable s (with_added new ss) (All-head IsLoadable s ss are) (with_loadable new ss is (All-tail IsLoadable s ss are)))
    (λ no. All-cons IsLoadable new (map numbered_behind (s ∷ ss)) is (behind_loadable (s ∷ ss) are))

pub written_loadable : (v : PlainView) (patches : List Patch) (s : NewSegment) (moves : List SymbolMove) → AreLoadable v.segments → IsAddable v s → AreBytes s.content → AreLoadable (written_segments v patches (Some s) moves)
written_loadable v patches s moves are addable bytes =
    let cs = all_changes v patches (Some s) moves in
    let puts = all_put_bytes v patches s moves in
    with_loadable (added_segment v s) (map (changed_segment cs) v.segments)
    (record { bytes = bytes; fits = omega arith; ends = addable.ends })
    (All-map IsLoadable (changed_segment cs) v.segments (λ k d below. changed_loadable cs (get_or v.segments k d) puts (are k d below)))
