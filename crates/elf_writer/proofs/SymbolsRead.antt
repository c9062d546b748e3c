-- The symbols of a written file, read back.
use Rattle.std.proofs.Common.{◌≡◌, ◌∙◌, ◌⊎◌, inl, inr, ℕ, zero, suc, ◌+◌, ◌-◌, ◌*◌, ◌%◌, ◌<◌, ◌≤◌, ◌==◌, nat_le, nat_lt, true, false, not, ◌&&◌, List, [], ◌∷◌, ◌++◌, map, length, get_or, slice_index, Option, Some, None, refl, sym, ap, subst, arith, if◌then◌else◌}
use Rattle.std.specs.List.{All}
use Rattle.std.proofs.lemmas.Bool.{eqb-true, cases_Bool, cond-true, cond-false}
use Rattle.std.proofs.lemmas.Bool.Decides.{nat_tests}
use Rattle.std.proofs.lemmas.List.Elements.{All-head, All-tail}
use Rattle.list_checks.specs.First.{◌or_else◌, unless}
use Rattle.rv32im.specs.Words.{half_of, word_of}
use Rattle.elf_writer.specs.Pieces.{half_bytes, word_bytes}
use Rattle.elf_reader.specs.Layout.{section_count, section_header, half_in, word_in, symbol_record_in, symbol_record}
use Rattle.elf_reader.specs.Sections.{stands_in_file, is_symbol_table, section_content, name_in, symbol_table_below, symbol_table, symbol_count_of, symbol_names}
use Rattle.elf_reader.specs.File.{PlainSymbol, view_in, symbol_of, symbols_below, symbols_in, all_symbols}
use Rattle.elf_reader.specs.Faults.{first_fault}
use Rattle.elf_reader.specs.SymbolTables.{IsReadable, HasReadable}
use Rattle.elf_writer.specs.declared.parts.Patch.{Patch}
use Rattle.elf_writer.specs.declared.parts.SymbolMove.{SymbolMove}
use Rattle.elf_writer.specs.Changes.{Change, byte_after, byte_changed, IsUntouched, within}
use Rattle.elf_writer.specs.Parts.{NewSegment, patch_change, nth_symbol, moves_changes, content_changes, header_changes}
use Rattle.elf_writer.specs.Written.{written}
use Rattle.elf_writer.specs.Conditions.{HasSymbol, IsWritable, HasWordValue}
use Rattle.elf_writer.specs.View.{moved_value, moved_section, moved_symbol, moved_symbols}
use Rattle.elf_writer.proofs.ChangeLemmas.{byte_changed-append}
use Rattle.elf_writer.proofs.WrittenLemmas.{bytes_written}
use Rattle.elf_writer.proofs.AlikeLemmas.{word_alike}
use Rattle.elf_writer.proofs.FreeLemmas.{free_stays, IsOffChanges, moves_off, header_free, behind_header}
use Rattle.loaded_file.proofs.SymbolCount.{length_symbols}
use Rattle.elf_writer.proofs.FitLemmas.{contents_held, readable_held}
use Rattle.elf_writer.proofs.PlaceLemmas.{content_off_header, OwnTable, own_table, moved_record}
use Rattle.elf_writer.proofs.RangeLemmas.{OffSections, off_patches, kinds_differ}
use Rattle.elf_writer.proofs.HeaderRead.{keeps_header, whole_word}
use Rattle.elf_writer.proofs.SectionsRead.{section_header_is, strings_stay}

-- the section header of the symbol table is found at the same place
table_below : (file : List ℕ) (ps : List Patch) (new : Option NewSegment) (ms : List SymbolMove) (n : ℕ) → first_fault file ≡ None → IsWritable (view_in file) ps new ms → n ≤ section_count file → symbol_table_below (written (view_in file) ps new ms) n ≡ symbol_table_below file n
table_below file ps new ms zero none is le = refl
table_below file ps new ms (suc n) none is le =
    let earlier = table_below file ps new ms n none is (omega (arith, le)) in
    let here = section_header_is file ps new ms n none is (omega (arith, le)) in
    λ i. earlier i or_else unless (not (is_symbol_table (here i))) n

pub table_stays : (file : List ℕ) (ps : List Patch) (new : Option NewSegment) (ms : List SymbolMove) → first_fault file ≡ None → IsWritable (view_in file) ps new ms → symbol_table (written (view_in file) ps new ms) ≡ symbol_table file
table_stays file ps new ms none is =
    ap (symbol_table_below (written (view_in file) ps new ms)) (keeps_header file ps new ms none is).sections
    ∙ table_below file ps new ms (section_count file) none is (omega arith)

-- ---- the bytes of the table have the changes of the moves alone

table_off_sections : (file : List ℕ) (t : ℕ) → OwnTable file t → OffSections file (section_header file t).sh_offset (section_header file t).sh_size
table_off_sections file t own k section =
    section.others t own.below (kinds_differ file t k 2 1 own.kind section.kind (λ e. omega (arith, e))) (ap stands_in_file own.kind)

pub table_byte : (file : List ℕ) (ps : List Patch) (new : Option NewSegment) (ms : List SymbolMove) (t q : ℕ) → first_fault file ≡ None → IsWritable (view_in file) ps new ms → OwnTable file t → (section_header file t).sh_offset ≤ q → q < (section_header file t).sh_offset + (section_header file t).sh_size
    → slice_index (written (view_in file) ps new ms) q ≡ byte_changed (moves_changes (view_in file).symbols ms) q (slice_index file q)
table_byte file ps None ms t q none is own from to =
    let v = view_in file in
    let s = section_header file t in
    let stands : stands_in_file s.sh_type ≡ true = ap stands_in_file own.kind in
    let ends : s.sh_offset + s.sh_size ≤ length file = contents_held file none t own.below stands in
    let free = off_patches file ps s.sh_offset s.sh_size q is.patched (table_off_sections file t own) from to in
    bytes_written v ps None ms q (omega (arith, ends, to))
    ∙ (byte_changed-append (map patch_change ps) (moves_changes v.symbols ms) q (slice_index file q)
    ∙ ap (byte_changed (moves_changes v.symbols ms) q) (free_stays (map patch_change ps) q (slice_index file q) free))
table_byte file ps (Some n) ms t q none is own from to =
    let v = view_in file in
    let s = section_header file t in
    let stands : stands_in_file s.sh_type ≡ true = ap stands_in_file own.kind in
    let ends : s.sh_offset + s.sh_size ≤ length file = contents_held file none t own.below stands in
    let free = off_patches file ps s.sh_offset s.sh_size q is.patched (table_off_sections file t own) from to in
    let behind = behind_header s.sh_offset s.sh_size q (content_off_header file t none own.below stands) from to in
    bytes_written v ps (Some n) ms q (omega (arith, ends, to))
    ∙ (byte_changed-append (content_changes v ps ms) (header_changes v n) q (slice_index file q)
    ∙ (free_stays (header_changes v n) q (byte_changed (content_changes v ps ms) q (slice_index file q)) (header_free v n q behind)
    ∙ (byte_changed-append (map patch_change ps) (moves_changes v.symbols ms) q (slice_index file q)
    ∙ ap (byte_changed (moves_changes v.symbols ms) q) (free_stays (map patch_change ps) q (slice_index file q) free))))

-- ---- one symbol

-- where the records of the moved symbols stand, the symbol table being at `start`
abbrev pub StandsFrom : List PlainSymbol → ℕ → SymbolMove → Type 0
StandsFrom symbols start m = (nth_symbol symbols m.symbol).at ≡ start + 16 * m.symbol

same_table : (a b : ℕ) (o : Option ℕ) → o ≡ Some a → o ≡ Some b → a ≡ b
same_table a b o is_a is_b = let both = sym is_a ∙ is_b in cc

pub moves_stand : (file : List ℕ) (ms : List SymbolMove) (t : ℕ) → symbol_table file ≡ Some t → All (HasSymbol (view_in file)) ms → All (StandsFrom (view_in file).symbols (section_header file t).sh_offset) ms
moves_stand file ms t found has i d below =
    let m = get_or ms i d in
    let (u, moved) = moved_record file m (has i d below) in
    let same = same_table u t (symbol_table file) moved.found found in
    subst (λ (k : ℕ). (nth_symbol (view_in file).symbols m.symbol).at ≡ (section_header file k).sh_offset + 16 * m.symbol) same moved.place

-- a byte of a record which no move changes
off_fields : (start i j r at q : ℕ) → at ≡ start + 16 * j → q ≡ start + 16 * i + r → r < 14 → (nat_le 4 r && nat_lt r 8) ≡ false → IsOffChanges at q
off_fields start i j r at q is_at is_q below other =
    record { value = grind (arith, nat_tests, is_at, is_q, below, other); number = grind (arith, nat_tests, is_at, is_q, below) }

field_free : (symbols : List PlainSymbol) (ms : List SymbolMove) (start i r q : ℕ) → All (StandsFrom symbols start) ms → q ≡ start + 16 * i + r → r < 14 → (nat_le 4 r && nat_lt r 8) ≡ false → IsUntouched (moves_changes symbols ms) q
field_free symbols ms start i r q stand is_q below other =
    moves_off symbols ms q (λ k d inside.
    let m = get_or ms k d in
    off_fields start i m.symbol r (nth_symbol symbols m.symbol).at q (stand k d inside) is_q below other)

-- the bytes of a moved symbol's record: its value's, and those of its section
value_byte : (at q k value section old : ℕ) → at + 4 + k ≡ q → k < 4 → byte_after (record { place = at + 14; content = half_bytes section }) q (byte_after (record { place = at + 4; content = word_bytes value }) q old) ≡ slice_index (word_bytes value) k
value_byte at q k value section old is below =
    let off : within (at + 14) 2 q ≡ false = grind (arith, nat_tests, is, below) in
    let here : within (at + 4) 4 q ≡ true = grind (arith, nat_tests, is, below) in
    let same : q - (at + 4) ≡ k = omega (arith, is) in
    rw (off, here) (ap (slice_index (word_bytes value)) same)

section_byte : (at q k value section old : ℕ) → at + 14 + k ≡ q → k < 2 → byte_after (record { place = at + 14; content = half_bytes section }) q old ≡ slice_index (half_bytes section) k
section_byte at q k value section old is below =
    let here : within (at + 14) 2 q ≡ true = grind (arith, nat_tests, is, below) in
    let same : q - (at + 14) ≡ k = omega (arith, is) in
    rw here (ap (slice_index (half_bytes section)) same)

-- the bytes of another one
other_byte : (at q value old : ℕ) → within at 16 q ≡ false → byte_after (record { place = at + 14; content = half_bytes 65521 }) q (byte_after (record { place = at + 4; content = word_bytes value }) q old) ≡ old
other_byte at q value old off =
    let first : within (at + 4) 4 q ≡ false = grind (arith, nat_tests, off) in
    let second : within (at + 14) 2 q ≡ false = grind (arith, nat_tests, off) in
    rw (first, second) refl

other_record : (start i j r at q : ℕ) → at ≡ start + 16 * j → q ≡ start + 16 * i + r → r < 16 → (j == i) ≡ false → within at 16 q ≡ false
other_record start i j r at q is_at is_q below differs = grind (arith, nat_tests, is_at, is_q, below, differs)

-- a byte after one move, and after the rest
unfoldable step_byte : (symbols : List PlainSymbol) (m : SymbolMove) (q old : ℕ) → ℕ
step_byte symbols m q old =
    byte_after (record { place = (nth_symbol symbols m.symbol).at + 14; content = half_bytes 65521 }) q
    (byte_after (record { place = (nth_symbol symbols m.symbol).at + 4; content = word_bytes m.value }) q old)

moved_word_step : (symbols : List PlainSymbol) (m : SymbolMove) (start i at b0 b1 b2 b3 old : ℕ) → StandsFrom symbols start m → HasWordValue m → at ≡ start + 16 * i → word_of b0 b1 b2 b3 ≡ old
    → word_of (step_byte symbols m (at + 4) b0) (step_byte symbols m (at + 5) b1) (step_byte symbols m (at + 6) b2) (step_byte symbols m (at + 7) b3) ≡ (if m.symbol == i then m.value else old)
unfolding step_byte
moved_word_step symbols m start i at b0 b1 b2 b3 old stand fits is_at whole =
    let place = (nth_symbol symbols m.symbol).at in
    elim (cases_Bool (m.symbol == i)) [
      | inl moved ↦
          let one : m.symbol ≡ i = eqb-true m.symbol i moved in
          let same : place ≡ at = omega (arith, stand, is_at, one) in
          let first = value_byte place (at + 4) 0 m.value 65521 b0 (omega (arith, same)) (omega arith) in
          let second = value_byte place (at + 5) 1 m.value 65521 b1 (omega (arith, same)) (omega arith) in
          let third = value_byte place (at + 6) 2 m.value 65521 b2 (omega (arith, same)) (omega arith) in
          let fourth = value_byte place (at + 7) 3 m.value 65521 b3 (omega (arith, same)) (omega arith) in
          (λ k. word_of (first k) (second k) (third k) (fourth k)) ∙ (whole_word m.value fits ∙ sym (cond-true (m.symbol == i) m.value old moved))
      | inr other ↦
          let first = other_byte place (at + 4) m.value b0 (other_record start i m.symbol 4 place (at + 4) stand (omega (arith, is_at)) (omega arith) other) in
          let second = other_byte place (at + 5) m.value b1 (other_record start i m.symbol 5 place (at + 5) stand (omega (arith, is_at)) (omega arith) other) in
          let third = other_byte place (at + 6) m.value b2 (other_record start i m.symbol 6 place (at + 6) stand (omega (arith, is_at)) (omega arith) other) in
          let fourth = other_byte place (at + 7) m.value b3 (other_record start i m.symbol 7 place (at + 7) stand (omega (arith, is_at)) (omega arith) other) in
          (λ k. word_of (first k) (second k) (third k) (fourth k)) ∙ (whole ∙ sym (cond-false (m.symbol == i) m.value old other))
    ]

moved_word : (symbols : List PlainSymbol) (ms : List SymbolMove) (start i at b0 b1 b2 b3 old : ℕ) → All (StandsFrom symbols start) ms → All HasWordValue ms → at ≡ start + 16 * i → word_of b0 b1 b2 b3 ≡ old
    → word_of (byte_changed (moves_changes symbols ms) (at + 4) b0) (byte_changed (moves_changes symbols ms) (at + 5) b1) (byte_changed (moves_changes symbols ms) (at + 6) b2) (byte_changed (moves_changes symbols ms) (at + 7) b3) ≡ moved_value ms i old
unfolding step_byte
moved_word symbols [] start i at b0 b1 b2 b3 old stand fit is_at whole = whole
moved_word symbols (m ∷ ms) start i at b0 b1 b2 b3 old stand fit is_at whole =
    let step = moved_word_step symbols m start i at b0 b1 b2 b3 old (All-head (StandsFrom symbols start) m ms stand) (All-head HasWordValue m ms fit) is_at whole in
    moved_word symbols ms start i at (step_byte symbols m (at + 4) b0) (step_byte symbols m (at + 5) b1) (step_byte symbols m (at + 6) b2) (step_byte symbols m (at + 7) b3)
    (if m.symbol == i then m.value else old) (All-tail (StandsFrom symbols start) m ms stand) (All-tail HasWordValue m ms fit) is_at step

moved_half_step : (symbols : List PlainSymbol) (m : SymbolMove) (start i at b0 b1 old : ℕ) → StandsFrom symbols start m → at ≡ start + 16 * i → half_of b0 b1 ≡ old
    → half_of (step_byte symbols m (at + 14) b0) (step_byte symbols m (at + 15) b1) ≡ (if m.symbol == i then 65521 else old)
unfolding step_byte
moved_half_step symbols m start i at b0 b1 old stand is_at whole =
    let place = (nth_symbol symbols m.symbol).at in
    elim (cases_Bool (m.symbol == i)) [
      | inl moved ↦
          let one : m.symbol ≡ i = eqb-true m.symbol i moved in
          let same : place ≡ at = omega (arith, stand, is_at, one) in
          let value : Change = record { place = place + 4; content = word_bytes m.value } in
          let first = section_byte place (at + 14) 0 m.value 65521 (byte_after value (at + 14) b0) (omega (arith, same)) (omega arith) in
          let second = section_byte place (at + 15) 1 m.value 65521 (byte_after value (at + 15) b1) (omega (arith, same)) (omega arith) in
          (λ k. half_of (first k) (second k)) ∙ sym (cond-true (m.symbol == i) 65521 old moved)
      | inr other ↦
          let first = other_byte place (at + 14) m.value b0 (other_record start i m.symbol 14 place (at + 14) stand (omega (arith, is_at)) (omega arith) other) in
          let second = other_byte place (at + 15) m.value b1 (other_record start i m.symbol 15 place (at + 15) stand (omega (arith, is_at)) (omega arith) other) in
          (λ k. half_of (first k) (second k)) ∙ (whole ∙ sym (cond-false (m.symbol == i) 65521 old other))
    ]

moved_half : (symbols : List PlainSymbol) (ms : List SymbolMove) (start i at b0 b1 old : ℕ) → All (StandsFrom symbols start) ms → at ≡ start + 16 * i → half_of b0 b1 ≡ old
    → half_of (byte_changed (moves_changes symbols ms) (at + 14) b0) (byte_changed (moves_changes symbols ms) (at + 15) b1) ≡ moved_section ms i old
unfolding step_byte
moved_half symbols [] start i at b0 b1 old stand is_at whole = whole
moved_half symbols (m ∷ ms) start i at b0 b1 old stand is_at whole =
    let step = moved_half_step symbols m start i at b0 b1 old (All-head (StandsFrom symbols start) m ms stand) is_at whole in
    moved_half symbols ms start i at (step_byte symbols m (at + 14) b0) (step_byte symbols m (at + 15) b1)
    (if m.symbol == i then 65521 else old) (All-tail (StandsFrom symbols start) m ms stand) is_at step

-- the record of symbol `i` in the written file
pub record IsMoved (out file : List ℕ) (ms : List SymbolMove) (at i : ℕ) : Type 0 where
  pub name_is : (symbol_record_in out at).st_name ≡ (symbol_record_in file at).st_name
  pub value_is : (symbol_record_in out at).st_value ≡ moved_value ms i (symbol_record_in file at).st_value
  pub size_is : (symbol_record_in out at).st_size ≡ (symbol_record_in file at).st_size
  pub info_is : (symbol_record_in out at).st_info ≡ (symbol_record_in file at).st_info
  pub section_is : (symbol_record_in out at).st_shndx ≡ moved_section ms i (symbol_record_in file at).st_shndx

-- what the moves make of the bytes of the record
abbrev pub BytesMoved : List ℕ → List ℕ → List PlainSymbol → List SymbolMove → ℕ → Type 0
BytesMoved out file symbols ms at =
    (r : ℕ) → r < 16 → slice_index out (at + r) ≡ byte_changed (moves_changes symbols ms) (at + r) (slice_index file (at + r))

kept_byte : (out file : List ℕ) (symbols : List PlainSymbol) (ms : List SymbolMove) (start i at r : ℕ) → BytesMoved out file symbols ms at → All (StandsFrom symbols start) ms → at ≡ start + 16 * i → r < 14 → (nat_le 4 r && nat_lt r 8) ≡ false → slice_index out (at + r) ≡ slice_index file (at + r)
kept_byte out file symbols ms start i at r bytes stand is_at below other =
    bytes r (omega (arith, below))
    ∙ free_stays (moves_changes symbols ms) (at + r) (slice_index file (at + r)) (field_free symbols ms start i r (at + r) stand (omega (arith, is_at)) below other)

word_off : (out file : List ℕ) (symbols : List PlainSymbol) (ms : List SymbolMove) (start i at r : ℕ) → BytesMoved out file symbols ms at → All (StandsFrom symbols start) ms → at ≡ start + 16 * i → ((k : ℕ) → k < 4 → (r + k < 14) × ((nat_le 4 (r + k) && nat_lt (r + k) 8) ≡ false)) → word_in out (at + r) ≡ word_in file (at + r)
word_off out file symbols ms start i at r bytes stand is_at off =
    word_alike out (at + r) file (at + r) 4 0 (at + r) (at + r)
    (λ k below.
    let same : at + (r + k) ≡ at + r + k = omega arith in
    let here = kept_byte out file symbols ms start i at (r + k) bytes stand is_at (off k below).0 (off k below).1 in
    sym (ap (slice_index out) same) ∙ (here ∙ ap (slice_index file) same))
    (omega arith) (omega arith) (omega arith)

kept_word : (out file : List ℕ) (symbols : List PlainSymbol) (ms : List SymbolMove) (start i at r : ℕ) → BytesMoved out file symbols ms at → All (StandsFrom symbols start) ms → at ≡ start + 16 * i → (r ≡ 0) ⊎ (r ≡ 8) → word_in out (at + r) ≡ word_in file (at + r)
kept_word out file symbols ms start i at r bytes stand is_at (inl first) =
    word_off out file symbols ms start i at r bytes stand is_at (λ k below. (omega (arith, first, below), grind (arith, nat_tests, first, below)))
kept_word out file symbols ms start i at r bytes stand is_at (inr later) =
    word_off out file symbols ms start i at r bytes stand is_at (λ k below. (omega (arith, later, below), grind (arith, nat_tests, later, below)))

-- the bytes of the fields that moves change
value_bytes : (file : List ℕ) (at : ℕ) → word_in file (at + 4) ≡ word_of (slice_index file (at + 4)) (slice_index file (at + 5)) (slice_index file (at + 6)) (slice_index file (at + 7))
value_bytes file at =
    let second : at + 4 + 1 ≡ at + 5 = omega arith in
    let third : at + 4 + 2 ≡ at + 6 = omega arith in
    let fourth : at + 4 + 3 ≡ at + 7 = omega arith in
    λ k. word_of (slice_index file (at + 4)) (slice_index file (second k)) (slice_index file (third k)) (slice_index file (fourth k))

section_bytes : (file : List ℕ) (at : ℕ) → half_in file (at + 14) ≡ half_of (slice_index file (at + 14)) (slice_index file (at + 15))
section_bytes file at =
    let second : at + 14 + 1 ≡ at + 15 = omega arith in
    λ k. half_of (slice_index file (at + 14)) (slice_index file (second k))

pub record_moved : (out file : List ℕ) (symbols : List PlainSymbol) (ms : List SymbolMove) (start i at : ℕ) → BytesMoved out file symbols ms at → All (StandsFrom symbols start) ms → All HasWordValue ms → at ≡ start + 16 * i → IsMoved out file ms at i
unfolding symbol_record_in
record_moved out file symbols ms start i at bytes stand fit is_at =
    let none : at + 0 ≡ at = omega arith in
    let v0 = bytes 4 (omega arith) in
    let v1 = bytes 5 (omega arith) in
    let v2 = bytes 6 (omega arith) in
    let v3 = bytes 7 (omega arith) in
    let n0 = bytes 14 (omega arith) in
    let n1 = bytes 15 (omega arith) in
    record {
      name_is = subst (λ (p : ℕ). word_in out p ≡ word_in file p) none (kept_word out file symbols ms start i at 0 bytes stand is_at (inl refl));
      value_is =
          value_bytes out at
          ∙ ((λ k. word_of (v0 k) (v1 k) (v2 k) (v3 k))
          ∙ moved_word symbols ms start i at (slice_index file (at + 4)) (slice_index file (at + 5)) (slice_index file (at + 6)) (slice_index file (at + 7)) (word_in file (at + 4)) stand fit is_at (sym (value_bytes file at)));
      size_is = kept_word out file symbols ms start i at 8 bytes stand is_at (inr refl);
      info_is = kept_byte out file symbols ms start i at 12 bytes stand is_at (omega arith) refl;
      section_is =
          section_bytes out at
          ∙ ((λ k. half_of (n0 k) (n1 k))
          ∙ moved_half symbols ms start i at (slice_index file (at + 14)) (slice_index file (at + 15)) (half_in file (at + 14)) stand is_at (sym (section_bytes file at)));
    }

-- ---- all symbols

-- the record of symbol `i` of table `t`, and the names of its symbols
pub record_there : (file : List ℕ) (ps : List Patch) (new : Option NewSegment) (ms : List SymbolMove) (t i : ℕ) → first_fault file ≡ None → IsWritable (view_in file) ps new ms → All HasWordValue ms → symbol_table file ≡ Some t → i < symbol_count_of (section_header file t) → IsMoved (written (view_in file) ps new ms) file ms ((section_header file t).sh_offset + 16 * i) i
record_there file ps new ms t i none is fit found below =
    let out = written (view_in file) ps new ms in
    let s = section_header file t in
    let at = s.sh_offset + 16 * i in
    let own = own_table file t none found in
    let inside : at + 16 ≤ s.sh_offset + s.sh_size = omega (arith, below) in
    let bytes : BytesMoved out file (view_in file).symbols ms at =
    λ r low. table_byte file ps new ms t (at + r) none is own (omega arith) (omega (arith, low, inside))
    in
    record_moved out file (view_in file).symbols ms s.sh_offset i at bytes (moves_stand file ms t found is.symbols) fit refl

pub names_same : (file : List ℕ) (ps : List Patch) (new : Option NewSegment) (ms : List SymbolMove) (t : ℕ) → first_fault file ≡ None → IsWritable (view_in file) ps new ms → IsReadable file t → symbol_names (written (view_in file) ps new ms) t ≡ symbol_names file t
names_same file ps new ms t none is readable =
    let out = written (view_in file) ps new ms in
    let same = section_header_is file ps new ms t none is readable.below in
    (λ k. section_content out (same k).sh_link) ∙ strings_stay file ps new ms (section_header file t).sh_link none is readable.strings

pub symbol_read : (file : List ℕ) (ps : List Patch) (new : Option NewSegment) (ms : List SymbolMove) (t i : ℕ) → first_fault file ≡ None → IsWritable (view_in file) ps new ms → All HasWordValue ms → symbol_table file ≡ Some t → IsReadable file t → i < symbol_count_of (section_header file t) → symbol_of (written (view_in file) ps new ms) t i ≡ moved_symbol ms i (symbol_of file t i)
symbol_read file ps new ms t i none is fit found readable below =
    let out = written (view_in file) ps new ms in
    let at = (section_header file t).sh_offset + 16 * i in
    let same = section_header_is file ps new ms t none is readable.below in
    let names = names_same file ps new ms t none is readable in
    let moved = record_there file ps new ms t i none is fit found below in
    let there : symbol_record out t i ≡ symbol_record_in out at = λ k. symbol_record_in out ((same k).sh_offset + 16 * i) in
    (λ k.
    record {
      name = name_in (names k) (there k).st_name;
      value = (there k).st_value;
      size = (there k).st_size;
      kind = (there k).st_info % 16;
      section = (there k).st_shndx;
      at = (same k).sh_offset + 16 * i;
    })
    ∙ (λ k.
    record {
      name = name_in (symbol_names file t) (moved.name_is k);
      value = moved.value_is k;
      size = moved.size_is k;
      kind = moved.info_is k % 16;
      section = moved.section_is k;
      at = at;
    })

moved_more : (ms : List SymbolMove) (i n : ℕ) (xs : List PlainSymbol) (x : PlainSymbol) → i + length xs ≡ n → moved_symbols ms i (xs ++ x ∷ []) ≡ moved_symbols ms i xs ++ moved_symbol ms n x ∷ []
moved_more ms i n [] x is = let same : i ≡ n = omega (arith, is) in ap (λ k. moved_symbol ms k x ∷ []) same
moved_more ms i n (y ∷ ys) x is = ap (λ rest. moved_symbol ms i y ∷ rest) (moved_more ms (i + 1) n ys x (omega (arith, is)))

symbols_read_below : (file : List ℕ) (ps : List Patch) (new : Option NewSegment) (ms : List SymbolMove) (t n : ℕ) → first_fault file ≡ None → IsWritable (view_in file) ps new ms → All HasWordValue ms → symbol_table file ≡ Some t → IsReadable file t → n ≤ symbol_count_of (section_header file t) → symbols_below (written (view_in file) ps new ms) t n ≡ moved_symbols ms 0 (symbols_below file t n)
symbols_read_below file ps new ms t zero none is fit found readable le = refl
symbols_read_below file ps new ms t (suc n) none is fit found readable le =
    let earlier = symbols_read_below file ps new ms t n none is fit found readable (omega (arith, le)) in
    let here = symbol_read file ps new ms t n none is fit found readable (omega (arith, le)) in
    let size = length_symbols file t n in
    (λ k. earlier k ++ here k ∷ []) ∙ sym (moved_more ms 0 n (symbols_below file t n) (symbol_of file t n) (omega (arith, size)))

symbols_read_in : (file : List ℕ) (ps : List Patch) (new : Option NewSegment) (ms : List SymbolMove) (found : Option ℕ) → first_fault file ≡ None → IsWritable (view_in file) ps new ms → All HasWordValue ms → symbol_table file ≡ found → HasReadable file found → symbols_in (written (view_in file) ps new ms) found ≡ moved_symbols ms 0 (symbols_in file found)
symbols_read_in file ps new ms None none is fit found readable = refl
symbols_read_in file ps new ms (Some t) none is fit found readable =
    let out = written (view_in file) ps new ms in
    let same = section_header_is file ps new ms t none is readable.below in
    (λ k. symbols_below out t (symbol_count_of (same k)))
    ∙ symbols_read_below file ps new ms t (symbol_count_of (section_header file t)) none is fit found readable (omega arith)

pub symbols_read : (file : List ℕ) (ps : List Patch) (new : Option NewSegment) (ms : List SymbolMove) → first_fault file ≡ None → IsWritable (view_in file) ps new ms → All HasWordValue ms → all_symbols (written (view_in file) ps new ms) ≡ moved_symbols ms 0 (all_symbols file)
symbols_read file ps new ms none is fit =
    ap (symbols_in (written (view_in file) ps new ms)) (table_stays file ps new ms none is)
    ∙ symbols_read_in file ps new ms (symbol_table file) none is fit refl (readable_held file none)
