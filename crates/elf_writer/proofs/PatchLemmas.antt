-- Patched words in memory, and the places that no change touches.
use Rattle.std.proofs.Common.{◌≡◌, ◌∙◌, ◌⊎◌, inl, inr, ℕ, zero, suc, ◌+◌, ◌-◌, ◌*◌, ◌/◌, ◌<◌, ◌≤◌, ◌==◌, nat_lt, Bool, true, false, not, ◌&&◌, List, [], ◌∷◌, map, length, get_or, slice_index, Option, Some, None, sym, ap, subst, arith}
use Rattle.std.specs.List.{All, AllPairs}
use Rattle.std.proofs.lemmas.Bool.{eqb-true, cases_Bool}
use Rattle.std.proofs.lemmas.Bool.Decides.{nat_tests}
use Rattle.std.proofs.lemmas.List.Elements.{All-append}
use Rattle.list_checks.specs.Tests.{any_below, ranges_overlap}
use Rattle.list_checks.proofs.TestLemmas.{neither, none_at}
use Rattle.elf_writer.specs.Pieces.{word_bytes}
use Rattle.elf_reader.specs.Layout.{section_count, section_header}
use Rattle.elf_reader.specs.Sections.{stands_in_file}
use Rattle.elf_reader.specs.File.{PlainSegment, PlainSection, PlainView, view_in}
use Rattle.elf_reader.specs.Faults.{first_fault}
use Rattle.elf_reader.specs.Image.{has_byte, image_of}
use Rattle.elf_reader.specs.Loaded.{section_at, segment_at}
use Rattle.elf_reader.proofs.LoadedLemmas.{length_sections, section_is, loaded_found, IsFilled, IsZeroed}
use Rattle.elf_writer.specs.declared.parts.Patch.{Patch}
use Rattle.elf_writer.specs.declared.parts.SymbolMove.{SymbolMove}
use Rattle.elf_writer.specs.Changes.{changes_place, byte_after, byte_changed, IsUntouched, within}
use Rattle.elf_writer.specs.Parts.{NewSegment, patch_change, moves_changes, content_changes, header_changes}
use Rattle.elf_writer.specs.Written.{all_changes}
use Rattle.elf_writer.specs.Conditions.{ArePatchesDisjoint, HasSymbol, IsWritable}
use Rattle.elf_writer.specs.Images.{file_place, in_symbol_table, is_changed_place, IsUnpatched, OthersUntouched, PatchesLoaded, StandsAt, WordsLoaded, holds_changed_byte, OthersLoaded}
use Rattle.elf_writer.proofs.ChangeLemmas.{byte_changed-append}
use Rattle.elf_writer.proofs.FreeLemmas.{free_stays, patches_free, IsOffRecord, moves_free, header_free, behind_header}
use Rattle.elf_writer.proofs.PlaceLemmas.{content_off_header, patched_section, PatchedSection, own_table, OwnTable, moved_record}
use Rattle.elf_writer.proofs.RangeLemmas.{OffTable, off_moves, kinds_differ}
use Rattle.elf_writer.proofs.ImageLemmas.{has_from, has_to, changed_bytes_loaded, untouched_stay}

-- ---- places outside of the patches, the ELF header and the symbol table

off_table : (kind : Bool) (inside : Bool) → kind && inside ≡ false → kind ≡ true → inside ≡ false
off_table kind inside none is = grind arith

record_off : (b m at q : ℕ) → within b m q ≡ false → b ≤ at → at + 16 ≤ b + m → within at 16 q ≡ false
record_off b m at q off starts ends = grind (arith, nat_tests, off, starts, ends)

outside_table : (file : List ℕ) (t q : ℕ) → OwnTable file t → any_below (in_symbol_table (view_in file) q) (length (view_in file).sections) ≡ false → within (section_header file t).sh_offset (section_header file t).sh_size q ≡ false
outside_table file t q own none =
    let count = length_sections file (section_count file) in
    let below = own.below in
    let here = none_at (in_symbol_table (view_in file) q) (length (view_in file).sections) t (omega (arith, count, below)) none in
    let plain = subst (λ (s : PlainSection). (s.kind == 2) && within s.offset s.size q ≡ false) (section_is file t own.below) here in
    off_table ((section_header file t).sh_type == 2) (within (section_header file t).sh_offset (section_header file t).sh_size q) plain (ap (λ n. n == 2) own.kind)

outside_record : (file : List ℕ) (m : SymbolMove) (q : ℕ) → first_fault file ≡ None → HasSymbol (view_in file) m → any_below (in_symbol_table (view_in file) q) (length (view_in file).sections) ≡ false → IsOffRecord (view_in file).symbols q m
outside_record file m q none has outside =
    let (t, moved) = moved_record file m has in
    let s = section_header file t in
    let at = s.sh_offset + 16 * m.symbol in
    let below : m.symbol < s.sh_size / 16 = moved.below in
    let ends : at + 16 ≤ s.sh_offset + s.sh_size = omega (arith, below) in
    let off = record_off s.sh_offset s.sh_size at q (outside_table file t q (own_table file t none moved.found) outside) (omega arith) ends in
    subst (λ (place : ℕ). within place 16 q ≡ false) (sym moved.place) off

outside_contents : (file : List ℕ) (ps : List Patch) (ms : List SymbolMove) (q : ℕ) → first_fault file ≡ None → All (HasSymbol (view_in file)) ms → IsUnpatched ps q → any_below (in_symbol_table (view_in file) q) (length (view_in file).sections) ≡ false → IsUntouched (content_changes (view_in file) ps ms) q
outside_contents file ps ms q none has unpatched outside =
    All-append (λ c. changes_place c q ≡ false) (map patch_change ps) (moves_changes (view_in file).symbols ms)
    (patches_free ps q unpatched)
    (moves_free (view_in file).symbols ms q (λ i d below. outside_record file (get_or ms i d) q none (has i d below) outside))

past_header : (q : ℕ) → nat_lt q 52 ≡ false → 52 ≤ q
past_header q none = grind (arith, nat_tests, none)

pub others_untouched : OthersUntouched
others_untouched file ps None ms q none is unpatched other =
    let v = view_in file in
    let parts = neither (nat_lt q 52) (any_below (in_symbol_table v q) (length v.sections)) other in
    outside_contents file ps ms q none is.symbols unpatched parts.1
others_untouched file ps (Some s) ms q none is unpatched other =
    let v = view_in file in
    let parts = neither (nat_lt q 52) (any_below (in_symbol_table v q) (length v.sections)) other in
    All-append (λ c. changes_place c q ≡ false) (content_changes v ps ms) (header_changes v s)
    (outside_contents file ps ms q none is.symbols unpatched parts.1) (header_free v s q (past_header q parts.0))

-- ---- patched words

disjoint_off : (p r : Patch) (q i : ℕ) → ArePatchesDisjoint p r → p.offset + i ≡ q → i < 4 → within r.offset 4 q ≡ false
disjoint_off p r q i (inl before) is below = grind (arith, nat_tests, before, is, below)
disjoint_off p r q i (inr behind) is below = grind (arith, nat_tests, behind, is, below)

pairs_tail : (p : Patch) (ps : List Patch) → AllPairs ArePatchesDisjoint (p ∷ ps) → AllPairs ArePatchesDisjoint ps
pairs_tail p ps disjoint i j d before below = disjoint (suc i) (suc j) d (omega (arith, before)) (omega (arith, below))

patch_here : (p : Patch) (q i old : ℕ) → p.offset + i ≡ q → i < 4 → byte_after (patch_change p) q old ≡ slice_index (word_bytes p.word) i
patch_here p q i old is below =
    let here : within p.offset 4 q ≡ true = grind (arith, nat_tests, is, below) in
    let same : q - p.offset ≡ i = omega (arith, is) in
    rw here (ap (slice_index (word_bytes p.word)) same)

-- the patch alone changes its places
patched_byte : (ps : List Patch) (j : ℕ) (d : Patch) (q i old : ℕ) → AllPairs ArePatchesDisjoint ps → j < length ps → (get_or ps j d).offset + i ≡ q → i < 4 → byte_changed (map patch_change ps) q old ≡ slice_index (word_bytes (get_or ps j d).word) i
patched_byte [] j d q i old disjoint below is within_word = absurd (omega (arith, below))
patched_byte (p ∷ ps) zero d q i old disjoint below is within_word =
    let rest : IsUntouched (map patch_change ps) q =
    patches_free ps q (λ k e inside. disjoint_off p (get_or ps k e) q i (disjoint 0 (suc k) e (omega arith) (omega (arith, inside))) is within_word)
    in
    free_stays (map patch_change ps) q (byte_after (patch_change p) q old) rest ∙ patch_here p q i old is within_word
patched_byte (p ∷ ps) (suc j) d q i old disjoint below is within_word =
    patched_byte ps j d q i (byte_after (patch_change p) q old) (pairs_tail p ps disjoint) (omega (arith, below)) is within_word

part_disjoint : (b m c n at k : ℕ) → ranges_overlap b m c n ≡ false → c ≤ at → at + k ≤ c + n → ranges_overlap b m at k ≡ false
part_disjoint b m c n at k disjoint starts ends = grind (arith, nat_tests, disjoint, starts, ends)

-- no moved symbol touches a patched word
word_off_table : (file : List ℕ) (at k : ℕ) → PatchedSection file at k → OffTable file at 4
word_off_table file at k place t own =
    let s = section_header file k in
    let h = section_header file t in
    let stands : stands_in_file s.sh_type ≡ true = ap stands_in_file place.own.kind in
    let differ = kinds_differ file k t 1 2 place.own.kind own.kind (λ e. omega (arith, e)) in
    part_disjoint h.sh_offset h.sh_size s.sh_offset s.sh_size at 4 (own.others k place.own.below differ stands) place.from place.to

word_behind_header : (file : List ℕ) (at k q : ℕ) → first_fault file ≡ None → PatchedSection file at k → at ≤ q → q < at + 4 → 52 ≤ q
word_behind_header file at k q none place from to =
    let s = section_header file k in
    let stands : stands_in_file s.sh_type ≡ true = ap stands_in_file place.own.kind in
    let starts = place.from in
    let ends = place.to in
    behind_header s.sh_offset s.sh_size q (content_off_header file k none place.own.below stands) (omega (arith, starts, from)) (omega (arith, ends, to))

word_in_contents : (file : List ℕ) (ps : List Patch) (new : Option NewSegment) (ms : List SymbolMove) (j : ℕ) (d : Patch) (i q k old : ℕ) → first_fault file ≡ None → IsWritable (view_in file) ps new ms → j < length ps → PatchedSection file (get_or ps j d).offset k → (get_or ps j d).offset + i ≡ q → i < 4
    → byte_changed (content_changes (view_in file) ps ms) q old ≡ slice_index (word_bytes (get_or ps j d).word) i
word_in_contents file ps new ms j d i q k old none is below place is_place within_word =
    let v = view_in file in
    let at = (get_or ps j d).offset in
    let free = off_moves file ms at 4 q none is.symbols (word_off_table file at k place) (omega (arith, is_place)) (omega (arith, is_place, within_word)) in
    byte_changed-append (map patch_change ps) (moves_changes v.symbols ms) q old
    ∙ (free_stays (moves_changes v.symbols ms) q (byte_changed (map patch_change ps) q old) free
    ∙ patched_byte ps j d q i old is.disjoint below is_place within_word)

pub word_written : (file : List ℕ) (ps : List Patch) (new : Option NewSegment) (ms : List SymbolMove) (j : ℕ) (d : Patch) (i q old : ℕ) → first_fault file ≡ None → IsWritable (view_in file) ps new ms → j < length ps → (get_or ps j d).offset + i ≡ q → i < 4
    → byte_changed (all_changes (view_in file) ps new ms) q old ≡ slice_index (word_bytes (get_or ps j d).word) i
word_written file ps None ms j d i q old none is below is_place within_word =
    let (k, place) = patched_section file (get_or ps j d).offset (is.patched j d below) in
    word_in_contents file ps None ms j d i q k old none is below place is_place within_word
word_written file ps (Some s) ms j d i q old none is below is_place within_word =
    let v = view_in file in
    let (k, place) = patched_section file (get_or ps j d).offset (is.patched j d below) in
    let behind = word_behind_header file (get_or ps j d).offset k q none place (omega (arith, is_place)) (omega (arith, is_place, within_word)) in
    byte_changed-append (content_changes v ps ms) (header_changes v s) q old
    ∙ (free_stays (header_changes v s) q (byte_changed (content_changes v ps ms) q old) (header_free v s q behind)
    ∙ word_in_contents file ps (Some s) ms j d i q k old none is below place is_place within_word)

has_there : (s : PlainSegment) (a i : ℕ) → s.vaddr ≤ a → a + 4 ≤ s.vaddr + length s.content → i < 4 → has_byte s (a + i) ≡ true
has_there s a i from to below = grind (arith, nat_tests, from, to, below)

pub patches_loaded : PatchesLoaded
patches_loaded file ps new ms j d g a i none is below below_g from to is_place within_word =
    let v = view_in file in
    let t = segment_at v g in
    let place : (get_or ps j d).offset + i ≡ file_place v (a + i) g = omega (arith, from, is_place) in
    changed_bytes_loaded file ps new ms g (a + i) none is below_g (has_there t a i from to within_word)
    ∙ word_written file ps new ms j d i (file_place v (a + i) g) (image_of v.segments (a + i)) none is below place within_word

-- a section with content is loaded by what fills it
pub filled_by : (v : PlainView) (k g : ℕ) (s : PlainSection) → IsFilled v k g s (segment_at v g) ⊎ IsZeroed s (segment_at v g) → s.kind ≡ 1 → IsFilled v k g s (segment_at v g)
filled_by v k g s (inl filled) kind = filled
filled_by v k g s (inr zeroed) kind = absurd (omega (arith, kind, zeroed.kind))

pub words_loaded : WordsLoaded
words_loaded file ps new ms j d k x i none is below stands within_word =
    let v = view_in file in
    let s = section_at v k in
    let (g, facts) = loaded_found v k stands.loaded in
    let t = segment_at v g in
    let filled = filled_by v k g s facts.rest stands.kind in
    let starts = filled.starts in
    let ends = filled.ends in
    let aligned = filled.aligned in
    let from = stands.from in
    let to = stands.to in
    let place = stands.place in
    patches_loaded file ps new ms j d g x i none is below facts.below (omega (arith, starts, from)) (omega (arith, ends, to))
    (omega (arith, place, starts, from, aligned)) within_word

-- ---- addresses outside of the patched words

-- by the segment that loads the section
same_off : (x a at place : ℕ) → within x 4 a ≡ false → at + a ≡ place + x → within at 4 place ≡ false
same_off x a at place off same = grind (arith, nat_tests, off, same)

-- by another one, whose bytes the section doesn't meet
other_off : (b m c n at q : ℕ) → ranges_overlap b m c n ≡ false → b ≤ at → at + 4 ≤ b + m → c ≤ q → q < c + n → within at 4 q ≡ false
other_off b m c n at q disjoint starts ends from to = grind (arith, nat_tests, disjoint, starts, ends, from, to)

differs_overlap : (same overlap : Bool) → not same && overlap ≡ false → same ≡ false → overlap ≡ false
differs_overlap same overlap none differs = grind arith

address_off : (v : PlainView) (p : Patch) (k x a g : ℕ) → g < length v.segments → has_byte (segment_at v g) a ≡ true → StandsAt v p k x → within x 4 a ≡ false → within p.offset 4 (file_place v a g) ≡ false
address_off v p k x a g below has stands off =
    let s = section_at v k in
    let (h, facts) = loaded_found v k stands.loaded in
    let filled = filled_by v k h s facts.rest stands.kind in
    let t = segment_at v h in
    let u = segment_at v g in
    let starts = filled.starts in
    let aligned = filled.aligned in
    let from = stands.from in
    let to = stands.to in
    let place = stands.place in
    let has_low = has_from u a has in
    let has_high = has_to u a has in
    elim (cases_Bool (g == h)) [
      | inl one ↦
          let same : g ≡ h = eqb-true g h one in
          let low : t.vaddr ≤ a = subst (λ (i : ℕ). (segment_at v i).vaddr ≤ a) same has_low in
          let there : file_place v a g ≡ file_place v a h = ap (file_place v a) same in
          same_off x a p.offset (file_place v a g) off (omega (arith, there, place, starts, aligned, from, low))
      | inr other ↦
          let disjoint = differs_overlap (g == h) (ranges_overlap s.offset s.size u.offset (length u.content)) (filled.own.segment g below) other in
          other_off s.offset s.size u.offset (length u.content) p.offset (file_place v a g) disjoint (omega (arith, place)) (omega (arith, place, from, to))
          (omega arith) (omega (arith, has_low, has_high))
    ]

no_changed_place : (has changed : Bool) → has && changed ≡ false → has ≡ true → changed ≡ false
no_changed_place has changed none is = grind arith

pub others_loaded : OthersLoaded
others_loaded file ps new ms a none is outside off other =
    let v = view_in file in
    untouched_stay file ps new ms a none is outside
    (λ g below has.
    let unpatched : IsUnpatched ps (file_place v a g) =
    λ j d inside.
    let (k, x, stands, away) = off j d inside in
    address_off v (get_or ps j d) k x a g below has stands away
    in
    let here = none_at (holds_changed_byte v a) (length v.segments) g below other in
    others_untouched file ps new ms (file_place v a g) none is unpatched (no_changed_place (has_byte (segment_at v g) a) (is_changed_place v (file_place v a g)) here has))
