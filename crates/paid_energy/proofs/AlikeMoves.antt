-- Two results whose symbols move alike have the same bytes in the ELF header and the symbol table.
use Rattle.std.proofs.Common.{◌≡◌, ◌∙◌, ◌⊎◌, inl, inr, ℕ, zero, suc, ◌+◌, ◌*◌, ◌<◌, ◌≤◌, ◌==◌, nat_lt, Bool, true, false, ◌&&◌, ◌||◌, List, [], ◌∷◌, map, length, get_or, Some, None, refl, sym, ap, subst, arith}
use Rattle.std.specs.List.{All, AllPairs, list_any}
use Rattle.std.proofs.lemmas.Bool.{cases_Bool, cases_order, both_ways, eqb-true, false_from_ne_true}
use Rattle.std.proofs.lemmas.Bool.Decides.{nat_tests}
use Rattle.std.proofs.lemmas.List.{get_or_default}
use Rattle.std.proofs.lemmas.List.Folds.{list_any_at}
use Rattle.list_checks.specs.Tests.{any_below}
use Rattle.list_checks.proofs.TestLemmas.{either, neither, both, any_found}
use Rattle.list_checks.proofs.StepLemmas.{any_place}
use Rattle.elf_reader.specs.Layout.{section_count, section_header}
use Rattle.elf_reader.specs.Sections.{stands_in_file, symbol_table}
use Rattle.elf_reader.specs.File.{PlainSymbol, PlainSection, PlainView, view_in}
use Rattle.elf_reader.specs.Faults.{first_fault}
use Rattle.elf_reader.proofs.LoadedLemmas.{length_sections, section_is}
use Rattle.elf_writer.specs.declared.parts.Patch.{Patch}
use Rattle.elf_writer.specs.declared.parts.SymbolMove.{SymbolMove}
use Rattle.elf_writer.specs.Changes.{within, byte_changed}
use Rattle.elf_writer.specs.Parts.{NewSegment, patch_change, nth_symbol, move_changes, moves_changes, content_changes, header_changes}
use Rattle.elf_writer.specs.Written.{all_changes}
use Rattle.elf_writer.specs.Conditions.{PatchesLoadedWord, AreOfTwoSymbols, IsWritable}
use Rattle.elf_writer.specs.Images.{in_symbol_table, is_changed_place}
use Rattle.elf_writer.proofs.ChangeLemmas.{byte_changed-append}
use Rattle.elf_writer.proofs.FreeLemmas.{free_stays, IsOffChanges, moves_off, header_free, behind_header}
use Rattle.elf_writer.proofs.PlaceLemmas.{content_off_header, moved_record}
use Rattle.elf_writer.proofs.RangeLemmas.{OffSections, off_patches, kinds_differ, header_contents_free}
use Rattle.relink_core.specs.Written.{same_move}

-- ---- moves that change a place

same_itself : (m : SymbolMove) → same_move m m ≡ true
same_itself m = grind (arith, nat_tests)

same_parts : (m n : SymbolMove) → same_move m n ≡ true → m ≡ n
same_parts m n same =
    let parts = both (m.symbol == n.symbol) (m.value == n.value) same in
    let symbol : m.symbol ≡ n.symbol = eqb-true m.symbol n.symbol parts.0 in
    let value : m.value ≡ n.value = eqb-true m.value n.value parts.1 in
    λ i. record { symbol = symbol i; value = value i }

module _ (symbols : List PlainSymbol) (q : ℕ) where
  abbrev pub touches : SymbolMove → Bool
  touches m = within ((nth_symbol symbols m.symbol).at + 4) 4 q || within ((nth_symbol symbols m.symbol).at + 14) 2 q

  off_one : (m : SymbolMove) → touches m ≡ false → IsOffChanges (nth_symbol symbols m.symbol).at q
  off_one m off =
      let parts = neither (within ((nth_symbol symbols m.symbol).at + 4) 4 q) (within ((nth_symbol symbols m.symbol).at + 14) 2 q) off in
      record { value = parts.0; number = parts.1 }

  none_touches : (ms : List SymbolMove) (old : ℕ) → All (λ m. touches m ≡ false) ms → byte_changed (moves_changes symbols ms) q old ≡ old
  none_touches ms old off =
      free_stays (moves_changes symbols ms) q old (moves_off symbols ms q (λ i d below. off_one (get_or ms i d) (off i d below)))

  -- the one that changes it
  one_touches : (ms : List SymbolMove) (k : ℕ) (d : SymbolMove) (old : ℕ) → k < length ms → ((j : ℕ) (e : SymbolMove) → j < length ms → (j ≡ k → ⊥) → touches (get_or ms j e) ≡ false) → byte_changed (moves_changes symbols ms) q old ≡ byte_changed (move_changes symbols (get_or ms k d)) q old
  one_touches [] k d old below others = absurd (omega (arith, below))
  one_touches (m ∷ ms) zero d old below others =
      byte_changed-append (move_changes symbols m) (moves_changes symbols ms) q old
      ∙ none_touches ms (byte_changed (move_changes symbols m) q old) (λ j e inside. others (suc j) e (omega (arith, inside)) (λ same. omega (arith, same)))
  one_touches (m ∷ ms) (suc k) d old below others =
      let here : touches m ≡ false = others 0 m (omega arith) (λ same. omega (arith, same)) in
      let first : byte_changed (move_changes symbols m) q old ≡ old =
      sym (byte_changed-append (move_changes symbols m) [] q old) ∙ none_touches (m ∷ []) old (λ i e inside. subst (λ (n : SymbolMove). touches n ≡ false) (only m i e inside) here) in
      byte_changed-append (move_changes symbols m) (moves_changes symbols ms) q old
      ∙ (ap (byte_changed (moves_changes symbols ms) q) first
      ∙ one_touches ms k d old (omega (arith, below)) (λ j e inside other. others (suc j) e (omega (arith, inside)) (λ same. other (omega (arith, same)))))
    where
      only : (m : SymbolMove) (i : ℕ) (e : SymbolMove) → i < length (m ∷ []) → m ≡ get_or (m ∷ []) i e
      only m zero e inside = refl
      only m (suc i) e inside = absurd (omega (arith, inside))

  -- records of two symbols do not meet
  abbrev pub AreApart : Type 0
  AreApart = (m n : SymbolMove) → m.symbol < length symbols → n.symbol < length symbols → AreOfTwoSymbols m n → touches m ≡ true → touches n ≡ false

  others_off : AreApart → (xs : List SymbolMove) → All (λ m. m.symbol < length symbols) xs → AllPairs AreOfTwoSymbols xs → (k : ℕ) (d : SymbolMove) → k < length xs → touches (get_or xs k d) ≡ true → (j : ℕ) (e : SymbolMove) → j < length xs → (j ≡ k → ⊥) → touches (get_or xs j e) ≡ false
  others_off apart xs all pairs k d below touched j e inside other =
      let here : get_or xs j d ≡ get_or xs j e = get_or_default xs j d e inside in
      subst (λ (m : SymbolMove). touches m ≡ false) here
      (elim (cases_order j k) [
        | inl is ↦ absurd (other is)
        | inr differ ↦ elim differ [
          | inl less ↦ apart (get_or xs k d) (get_or xs j d) (all k d below) (all j d inside) (λ one. pairs j k d less below (sym one)) touched
          | inr more ↦ apart (get_or xs k d) (get_or xs j d) (all k d below) (all j d inside) (λ one. pairs k j d more inside one) touched
        ]
      ])

  abbrev blank : SymbolMove
  blank = record { symbol = 0; value = 0 }

  module _ (apart : AreApart) (ms ns : List SymbolMove) (has : All (λ m. m.symbol < length symbols) ms) (has_too : All (λ m. m.symbol < length symbols) ns) (distinct : AllPairs AreOfTwoSymbols ms) (distinct_too : AllPairs AreOfTwoSymbols ns) (same : (m : SymbolMove) → list_any (same_move m) ms ≡ list_any (same_move m) ns) where
    -- a move of one list is one of the other
    found_too : (xs ys : List SymbolMove) → ((m : SymbolMove) → list_any (same_move m) xs ≡ list_any (same_move m) ys) → (k : ℕ) → k < length xs → (j : ℕ) × ((j < length ys) × (get_or xs k blank ≡ get_or ys j blank))
    found_too xs ys alike k below =
        let m = get_or xs k blank in
        let there : list_any (same_move m) ys ≡ true = sym (alike m) ∙ list_any_at (same_move m) xs k blank below (same_itself m) in
        let (j, at) = any_place (same_move m) ys blank there in
        (j, (at.0, same_parts m (get_or ys j blank) at.1))

    pub moves_same : (old : ℕ) → byte_changed (moves_changes symbols ms) q old ≡ byte_changed (moves_changes symbols ns) q old
    moves_same old =
        elim (cases_Bool (list_any touches ms)) [
          | inl some ↦
              let (k, at) = any_place touches ms blank some in
              let (j, there) = found_too ms ns same k at.0 in
              let touched : touches (get_or ns j blank) ≡ true = subst (λ (m : SymbolMove). touches m ≡ true) there.1 at.1 in
              one_touches ms k blank old at.0 (λ i e inside other. others_off apart ms has distinct k blank at.0 at.1 i e inside other)
              ∙ (ap (λ (m : SymbolMove). byte_changed (move_changes symbols m) q old) there.1
              ∙ sym (one_touches ns j blank old there.0 (λ i e inside other. others_off apart ns has_too distinct_too j blank there.0 touched i e inside other)))
          | inr none ↦
              none_touches ms old (λ i e inside. off_at ms none i e inside)
              ∙ sym (none_touches ns old (λ i e inside.
              let (k, there) = found_too ns ms (λ m. sym (same m)) i inside in
              let here : get_or ms k blank ≡ get_or ns i e = sym there.1 ∙ get_or_default ns i blank e inside in
              subst (λ (m : SymbolMove). touches m ≡ false) here (off_at ms none k blank there.0)))
        ]
      where
        off_at : (xs : List SymbolMove) → list_any touches xs ≡ false → (i : ℕ) (e : SymbolMove) → i < length xs → touches (get_or xs i e) ≡ false
        off_at xs none i e inside = false_from_ne_true (touches (get_or xs i e)) (λ is. both_ways (list_any touches xs) none (list_any_at touches xs i e inside is))

-- ---- in a file

within_record : (at q : ℕ) → within (at + 4) 4 q || within (at + 14) 2 q ≡ true → (at ≤ q) × (q < at + 16)
within_record at q touched = grind (arith, nat_tests, touched)

off_other : (at to q : ℕ) → (at + 16 ≤ to) ⊎ (to + 16 ≤ at) → at ≤ q → q < at + 16 → within (to + 4) 4 q || within (to + 14) 2 q ≡ false
off_other at to q (inl before) from ends = grind (arith, nat_tests, before, from, ends)
off_other at to q (inr behind) from ends = grind (arith, nat_tests, behind, from, ends)

two_records : (base m n : ℕ) → (m ≡ n → ⊥) → (base + 16 * m + 16 ≤ base + 16 * n) ⊎ (base + 16 * n + 16 ≤ base + 16 * m)
two_records base m n differ =
    elim (cases_order m n) [
      | inl is ↦ absurd (differ is)
      | inr other ↦ elim other [
        | inl less ↦ inl (omega (arith, less))
        | inr more ↦ inr (omega (arith, more))
      ]
    ]

one_table : (file : List ℕ) (t u : ℕ) → symbol_table file ≡ Some t → symbol_table file ≡ Some u → t ≡ u
one_table file t u one other = cc (one, other)

pub records_apart : (file : List ℕ) (q : ℕ) → AreApart (view_in file).symbols q
records_apart file q m n has has_too two touched =
    let (t, moved) = moved_record file m has in
    let (u, other) = moved_record file n has_too in
    let table : u ≡ t = one_table file u t other.found moved.found in
    let base : ℕ = (section_header file t).sh_offset in
    let place : (nth_symbol (view_in file).symbols n.symbol).at ≡ base + 16 * n.symbol = other.place ∙ ap (λ (k : ℕ). (section_header file k).sh_offset + 16 * n.symbol) table in
    let at : ℕ = base + 16 * m.symbol in
    let here : within (at + 4) 4 q || within (at + 14) 2 q ≡ true = subst (λ (a : ℕ). within (a + 4) 4 q || within (a + 14) 2 q ≡ true) moved.place touched in
    let inside = within_record at q here in
    subst (λ (a : ℕ). within (a + 4) 4 q || within (a + 14) 2 q ≡ false) (sym place)
    (off_other at (base + 16 * n.symbol) q (two_records base m.symbol n.symbol two) inside.0 inside.1)

-- no patch is in a symbol table
table_off_sections : (file : List ℕ) (k : ℕ) → k < section_count file → (section_header file k).sh_type ≡ 2 → OffSections file (section_header file k).sh_offset (section_header file k).sh_size
table_off_sections file k below kind j own =
    let stands : stands_in_file (section_header file k).sh_type ≡ true = ap stands_in_file kind in
    own.others k below (kinds_differ file k j 2 1 kind own.kind (λ e. omega (arith, e))) stands

pub inside_from : (b n q : ℕ) → within b n q ≡ true → (b ≤ q) × (q < b + n)
inside_from b n q is = grind (arith, nat_tests, is)

-- two lists of changes: words of loaded sections, a new segment, and the same moves
module _ (file : List ℕ) (ps qs : List Patch) (s : NewSegment) (ms ns : List SymbolMove) (none : first_fault file ≡ None) (is : IsWritable (view_in file) ps (Some s) ms) (too : IsWritable (view_in file) qs (Some s) ns) (same : (m : SymbolMove) → list_any (same_move m) ms ≡ list_any (same_move m) ns) where
  abbrev v : PlainView
  v = view_in file

  header_same : (q old : ℕ) → q < 52 → byte_changed (all_changes v ps (Some s) ms) q old ≡ byte_changed (all_changes v qs (Some s) ns) q old
  header_same q old below =
      let one = free_stays (content_changes v ps ms) q old (header_contents_free file ps (Some s) ms q none is below) in
      let other = free_stays (content_changes v qs ns) q old (header_contents_free file qs (Some s) ns q none too below) in
      byte_changed-append (content_changes v ps ms) (header_changes v s) q old
      ∙ (ap (byte_changed (header_changes v s) q) (one ∙ sym other)
      ∙ sym (byte_changed-append (content_changes v qs ns) (header_changes v s) q old))

  contents_are : (ws : List Patch) (os : List SymbolMove) (k q old : ℕ) → All (PatchesLoadedWord v) ws → OffSections file (section_header file k).sh_offset (section_header file k).sh_size → (section_header file k).sh_offset ≤ q → q < (section_header file k).sh_offset + (section_header file k).sh_size → 52 ≤ q
      → byte_changed (all_changes v ws (Some s) os) q old ≡ byte_changed (moves_changes v.symbols os) q old
  contents_are ws os k q old patched off from to behind =
      byte_changed-append (content_changes v ws os) (header_changes v s) q old
      ∙ (free_stays (header_changes v s) q (byte_changed (content_changes v ws os) q old) (header_free v s q behind)
      ∙ (byte_changed-append (map patch_change ws) (moves_changes v.symbols os) q old
      ∙ ap (byte_changed (moves_changes v.symbols os) q)
      (free_stays (map patch_change ws) q old (off_patches file ws (section_header file k).sh_offset (section_header file k).sh_size q patched off from to))))

  table_same : (k q old : ℕ) → k < section_count file → (section_header file k).sh_type ≡ 2 → within (section_header file k).sh_offset (section_header file k).sh_size q ≡ true → byte_changed (all_changes v ps (Some s) ms) q old ≡ byte_changed (all_changes v qs (Some s) ns) q old
  table_same k q old below kind inside =
      let place = inside_from (section_header file k).sh_offset (section_header file k).sh_size q inside in
      let off = table_off_sections file k below kind in
      let stands : stands_in_file (section_header file k).sh_type ≡ true = ap stands_in_file kind in
      let behind = behind_header (section_header file k).sh_offset (section_header file k).sh_size q (content_off_header file k none below stands) place.0 place.1 in
      contents_are ps ms k q old is.patched off place.0 place.1 behind
      ∙ (moves_same v.symbols q (records_apart file q) ms ns is.symbols too.symbols is.distinct too.distinct same old
      ∙ sym (contents_are qs ns k q old too.patched off place.0 place.1 behind))

  pub changed_same : (q old : ℕ) → is_changed_place v q ≡ true → byte_changed (all_changes v ps (Some s) ms) q old ≡ byte_changed (all_changes v qs (Some s) ns) q old
  changed_same q old changed =
      elim (either (nat_lt q 52) (any_below (in_symbol_table v q) (length v.sections)) changed) [
        | inl header ↦ header_same q old (grind (arith, nat_tests, header))
        | inr table ↦
            let count = length_sections file (section_count file) in
            let (k, below, found) = any_found (in_symbol_table v q) (length v.sections) table in
            let inside : k < section_count file = omega (arith, count, below) in
            let plain = subst (λ (t : PlainSection). (t.kind == 2) && within t.offset t.size q ≡ true) (section_is file k inside) found in
            let parts = both ((section_header file k).sh_type == 2) (within (section_header file k).sh_offset (section_header file k).sh_size q) plain in
            table_same k q old inside (eqb-true (section_header file k).sh_type 2 parts.0) parts.1
      ]
