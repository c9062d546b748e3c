-- Patches put words where they stand in the file.
use Rattle.std.proofs.Common.{◌≡◌, ◌∙◌, inl, inr, ℕ, zero, suc, ◌+◌, ◌-◌, ◌%◌, ◌<◌, ◌≤◌, ◌==◌, nat_lt, nat_le, Bool, true, false, not, ◌&&◌, List, [], ◌∷◌, length, None, mod-eq_of_lt, refl, sym, ap, subst, arith}
use Rattle.std.proofs.lemmas.Bool.{cases_eq, eqb-true, eq-eqb, ltb-true, leb-true}
use Rattle.std.proofs.lemmas.Bool.Decides.{nat_tests}
use Rattle.std.proofs.lemmas.List.Folds.{list_any_at}
use Rattle.rv32im.specs.Words.{plus}
use Rattle.list_checks.specs.Tests.{any_below, lies_in, ranges_overlap}
use Rattle.list_checks.proofs.TestLemmas.{both, any_at, any_found}
use Rattle.elf_reader.specs.Sections.{bit_of, stands_in_file}
use Rattle.elf_reader.specs.File.{PlainSegment, PlainSection, PlainView, section_of, view_in}
use Rattle.list_checks.proofs.FirstLemmas.{both_none, holds as holds_test}
use Rattle.elf_reader.specs.HeaderChecks.{size_fault, header_fault}
use Rattle.elf_reader.specs.Faults.{first_fault}
use Rattle.elf_reader.specs.Image.{has_byte}
use Rattle.elf_reader.specs.Loaded.{section_at, segment_at, is_loaded, overlaps_section}
use Rattle.elf_reader.proofs.SegmentLemmas.{none_of_headers, load_segments_disjoint}
use Rattle.elf_reader.proofs.LoadedLemmas.{nth_segment, HasAddress, only_segment, load_segments_placed, loaded_found, loaded_below, section_is}
use Rattle.loaded_file.specs.Code.{is_code_word}
use Rattle.loaded_file.specs.Ranges.{is_executable}
use Rattle.loaded_file.specs.Records.{reloc_at}
use Rattle.loaded_file.proofs.WordLemmas.{lies_from, lies_to}
use Rattle.elf_writer.specs.declared.parts.Patch.{Patch}
use Rattle.elf_writer.specs.Conditions.{has_word, PatchesLoadedWord, ArePatchesDisjoint}
use Rattle.elf_writer.specs.Images.{StandsAt}
use Rattle.elf_writer.proofs.FitLemmas.{contents_held}
use Rattle.board_config.specs.declared.board.Board.{Board}
use Rattle.object_graph.specs.Rewritable.{displacement, is_rewritable_word}
use Rattle.object_graph.specs.Fixed.{leads_to}
use Rattle.object_graph.specs.Graphs.{gives_word, same_word, IsGraph}
use Rattle.object_graph.specs.declared.parts.Object.{Object}
use Rattle.object_graph.specs.declared.parts.Graph.{Graph}
use Rattle.object_graph.proofs.RewritableLemmas.{HoldsData, rewritable_word}
use Rattle.cell_values.specs.Objects.{object_of}
use Rattle.cell_values.proofs.GraphObjects.{object_moves}
use Rattle.result_laws.proofs.Sites.{object_same, leads_means}
use Rattle.result_laws.proofs.HomeStart.{word_itself}
use Rattle.result_laws.proofs.Words.{code_range}
use Rattle.relocator.specs.SiteWords.{no_word, data_word_at}
use Rattle.relink_core.specs.Making.{place_in, patch_of}
use Rattle.relink_core.proofs.RangeLemmas.{ranges_disjoint}

-- ---- words of loaded sections

-- a word lies in section `k`, which is loaded and has content
pub record HoldsWord (v : PlainView) (a k : ℕ) : Type 0 where
  pub below : k < length v.sections
  pub loaded : is_loaded v k ≡ true
  pub kind : (section_at v k).kind ≡ 1
  pub from : (section_at v k).addr ≤ a
  pub to : a + 4 ≤ (section_at v k).addr + (section_at v k).size

range_kind : (v : PlainView) (k : ℕ) → is_loaded v k && ((section_at v k).kind == 1) && bit_of (section_at v k).flags 2 ≡ true → (section_at v k).kind ≡ 1
range_kind v k range =
    let s = section_at v k in
    let front = both (is_loaded v k && (s.kind == 1)) (bit_of s.flags 2) range in
    eqb-true s.kind 1 (both (is_loaded v k) (s.kind == 1) front.0).1

-- one of code stands in a section that is executable
pub record HoldsCode (v : PlainView) (a k : ℕ) : Type 0 where
  pub word : HoldsWord v a k
  pub executable : is_executable (section_at v k) ≡ true

pub code_kept : (v : PlainView) (a : ℕ) → is_code_word v a ≡ true → (k : ℕ) × HoldsCode v a k
code_kept v a code =
    let range = code_range v a code in
    let s = section_at v range.0 in (
      range.0,
      record {
        word = record {
          below = range.1.below;
          loaded = range.1.loaded;
          kind = range_kind v range.0 range.1.range;
          from = range.1.from;
          to = range.1.to;
        };
        executable = (both (is_loaded v range.0 && (s.kind == 1)) (bit_of s.flags 2) range.1.range).1;
      },
    )

-- a word of data of a graph stands in a section that isn't
pub record HoldsNoCode (v : PlainView) (a k : ℕ) : Type 0 where
  pub word : HoldsWord v a k
  pub executable : is_executable (section_at v k) ≡ false

pub data_kept : (v : PlainView) (board : Board) (g : Graph) (k : ℕ) → IsGraph v board g → k < length g.data_words.items → (j : ℕ) × HoldsNoCode v (data_word_at g k).at j
data_kept v board g k is below =
    let d = data_word_at g k in
    let given = sym (is.data_words.exact d) ∙ list_any_at (same_word d) g.data_words.items k no_word below (word_itself d) in
    let parts = both (nat_lt d.object (length g.objects.items)) (any_below (gives_word v g.objects.items d) (length v.relocs)) given in
    let found = any_found (gives_word v g.objects.items d) (length v.relocs) parts.1 in
    let j = found.0 in
    let r = reloc_at v j in
    let inside = ltb-true d.object (length g.objects.items) parts.0 in
    let moved =
    subst (λ (x : Object). (r.at == d.at) && leads_to v x.home x.size j && is_rewritable_word v j r && (displacement v x.home r == d.offset) ≡ true)
    (object_same g d.object inside) found.2 in
    let home : ℕ = (object_of g d.object).home in
    let n : ℕ = (object_of g d.object).size in
    let three = both ((r.at == d.at) && leads_to v home n j && is_rewritable_word v j r) (displacement v home r == d.offset) moved in
    let two = both ((r.at == d.at) && leads_to v home n j) (is_rewritable_word v j r) three.0 in
    let one = both (r.at == d.at) (leads_to v home n j) two.0 in
    let means = leads_means v 1 home n j found.1 (word_kind v j two.1) one.1 in
    let word = rewritable_word v board home n j (object_moves v board g d.object is.objects inside) means in
    let there = eqb-true r.at d.at one.0 in
    let held = data_here v r.at word.holds.0 word.holds.1 in
    (word.holds.0, subst (λ (a : ℕ). HoldsNoCode v a word.holds.0) there held)
  where
    word_kind : (v : PlainView) (j : ℕ) → is_rewritable_word v j (reloc_at v j) ≡ true → (reloc_at v j).kind ≡ 1
    word_kind v j sound = grind (arith, nat_tests, sound)

    data_here : (v : PlainView) (a k : ℕ) → HoldsData v a k → HoldsNoCode v a k
    data_here v a k holds =
        record {
          word = record {
            below = holds.below;
            loaded = holds.loaded;
            kind = holds.kind;
            from = lies_from (section_at v k).addr (section_at v k).size a 4 holds.lies;
            to = lies_to (section_at v k).addr (section_at v k).size a 4 holds.lies;
          };
          executable = holds.no_code;
        }

-- ---- where they stand in the file

place_at : (ss : List PlainSegment) (g a : ℕ) → g < length ss → has_byte (nth_segment ss g) a ≡ true → ((h : ℕ) → h < length ss → has_byte (nth_segment ss h) a ≡ true → h ≡ g) → place_in ss a ≡ plus (nth_segment ss g).offset (a - (nth_segment ss g).vaddr)
place_at [] g a below has only = absurd (omega arith)
place_at (s ∷ ss) zero a below has only = rw has refl
place_at (s ∷ ss) (suc g) a below has only =
    let here : has_byte s a ≡ false = not_first s ss g a only in
    let later = place_at ss g a (omega (arith, below)) has (λ h inside holds. let e = only (suc h) (omega (arith, inside)) holds in omega (arith, e)) in
    rw (here, later) refl
  where
    refuted : (b : Bool) → (b ≡ true → ⊥) → b ≡ false
    refuted true none = absurd (none refl)
    refuted false none = refl

    not_first : (s : PlainSegment) (ss : List PlainSegment) (g a : ℕ) → ((h : ℕ) → h < length (s ∷ ss) → has_byte (nth_segment (s ∷ ss) h) a ≡ true → h ≡ suc g) → has_byte s a ≡ false
    not_first s ss g a only = refuted (has_byte s a) (λ holds. let e = only 0 (omega arith) holds in omega (arith, e))

pub place_held : (file : List ℕ) (a k : ℕ) → first_fault file ≡ None → HoldsWord (view_in file) a k → place_in (view_in file).segments a ≡ ((section_at (view_in file) k).offset + (a - (section_at (view_in file) k).addr)) % 4294967296
place_held file a k none holds =
    let v = view_in file in
    let s = section_at v k in
    let headers = none_of_headers file none in
    let disjoint = load_segments_disjoint file headers in
    let placed = load_segments_placed file headers in
    let found = loaded_found v k holds.loaded in
    let g = found.0 in
    let t = segment_at v g in
    let from = holds.from in
    let to = holds.to in
    elim found.1.rest [
      | inr zeroed ↦
          let wrong = zeroed.kind in
          let right = holds.kind in
          absurd (omega (arith, wrong, right))
      | inl filled ↦
          let starts = filled.starts in
          let ends = filled.ends in
          let aligned = filled.aligned in
          let first = found.1.starts in
          let last = found.1.ends in
          let has : has_byte t a ≡ true = grind (arith, nat_tests, from, to, starts, ends) in
          let address : HasAddress t a = record { from = omega (arith, from, first); to = omega (arith, to, last) } in
          let here = place_at v.segments g a found.1.below has (only_segment file v.segments disjoint placed g a found.1.below address) in
          let same : t.offset + (a - t.vaddr) ≡ s.offset + (a - s.addr) = omega (arith, from, starts, aligned) in
          here ∙ ap (λ (n : ℕ). n % 4294967296) same
    ]

-- ---- patches

small_place : (file : List ℕ) (a k : ℕ) → first_fault file ≡ None → HoldsWord (view_in file) a k → (section_at (view_in file) k).offset + (section_at (view_in file) k).size < 4294967296
small_place file a k none holds =
    let below = loaded_below file k holds.loaded in
    let same = section_is file k below in
    let kind : (section_of file k).kind ≡ 1 = subst (λ (s : PlainSection). s.kind ≡ 1) same holds.kind in
    let inside : (section_of file k).offset + (section_of file k).size ≤ length file = contents_held file none k below (ap stands_in_file kind) in
    let there : (section_at (view_in file) k).offset + (section_at (view_in file) k).size ≤ length file =
    subst (λ (s : PlainSection). s.offset + s.size ≤ length file) (sym same) inside in
    let size = (both_none (size_fault file) _ (both_none (header_fault file) _ none).0).0 in
    let small = leb-true (length file) 67108864 (holds_test (nat_le (length file) 67108864) _ (both_none _ _ size).0) in
    omega (arith, there, small)

pub patch_stands : (file : List ℕ) (e : ℕ × ℕ) (k : ℕ) → first_fault file ≡ None → HoldsWord (view_in file) e.0 k → StandsAt (view_in file) (patch_of (view_in file) e) k e.0
patch_stands file e k none holds =
    let s = section_at (view_in file) k in
    let place = place_held file e.0 k none holds in
    let small = small_place file e.0 k none holds in
    let from = holds.from in
    let to = holds.to in
    let fits : (s.offset + (e.0 - s.addr)) % 4294967296 ≡ s.offset + (e.0 - s.addr) = mod-eq_of_lt (omega (arith, small, from, to)) in
    record {
      loaded = holds.loaded;
      kind = holds.kind;
      from = holds.from;
      to = holds.to;
      place = place ∙ fits;
    }

-- the patched word is one of a loaded section
pub stands_loaded : (v : PlainView) (p : Patch) (k a : ℕ) → k < length v.sections → StandsAt v p k a → PatchesLoadedWord v p
stands_loaded v p k a below stands =
    let s = section_at v k in
    let from = stands.from in
    let to = stands.to in
    let place = stands.place in
    let lies : lies_in s.offset s.size p.offset 4 ≡ true = grind (arith, nat_tests, from, to, place) in
    any_at (has_word v p.offset) (length v.sections) k below
    (three_true (is_loaded v k) (s.kind == 1) (lies_in s.offset s.size p.offset 4) stands.loaded (eq-eqb s.kind 1 stands.kind) lies)
  where
    three_true : (a b c : Bool) → a ≡ true → b ≡ true → c ≡ true → a && b && c ≡ true
    three_true a b c first second third = rw (first, second, third) refl

-- two patched words at disjoint addresses are disjoint in the file
off_other : (v : PlainView) (k j g : ℕ) (s : PlainSection) → (k ≡ j → ⊥) → (section_at v j).kind ≡ 1 → overlaps_section v k s.offset s.size j ≡ false → ranges_overlap s.offset s.size (section_at v j).offset (section_at v j).size ≡ false
off_other v k j g s other kind off =
    last_false (not (j == k)) (stands_in_file (section_at v j).kind) (ranges_overlap s.offset s.size (section_at v j).offset (section_at v j).size)
    (differ j k (λ same. other (sym same))) (ap stands_in_file kind) off
  where
    differ : (j k : ℕ) → (j ≡ k → ⊥) → not (j == k) ≡ true
    differ j k other = grind (arith, nat_tests, other)

    last_false : (a b c : Bool) → a ≡ true → b ≡ true → a && b && c ≡ false → c ≡ false
    last_false a b c first second none = sym (rw (first, second) refl) ∙ none

-- in different sections, wherever they are
pub stand_apart : (v : PlainView) (p q : Patch) (k j a b : ℕ) → j < length v.sections → (k ≡ j → ⊥) → StandsAt v p k a → StandsAt v q j b → ArePatchesDisjoint p q
stand_apart v p q k j a b below_j differ one other =
    let from = one.from in
    let to = one.to in
    let place = one.place in
    let from_other = other.from in
    let to_other = other.to in
    let place_other = other.place in
    let s = section_at v k in
    let t = section_at v j in
    let found = loaded_found v k one.loaded in
    elim found.1.rest [
      | inr zeroed ↦
          let wrong = zeroed.kind in
          let right = one.kind in
          absurd (omega (arith, wrong, right))
      | inl filled ↦
          let off = off_other v k j found.0 s differ other.kind (filled.own.section j below_j) in
          elim (ranges_disjoint s.offset s.size t.offset t.size off (omega (arith, from, to)) (omega (arith, from_other, to_other))) [
            | inl before ↦ inl (omega (arith, before, place, place_other, from, from_other, to, to_other))
            | inr behind ↦ inr (omega (arith, behind, place, place_other, from, from_other, to, to_other))
          ]
    ]

pub stand_disjoint : (v : PlainView) (p q : Patch) (k j a b : ℕ) → k < length v.sections → j < length v.sections → StandsAt v p k a → StandsAt v q j b → a + 4 ≤ b → ArePatchesDisjoint p q
stand_disjoint v p q k j a b below_k below_j one other order =
    let from = one.from in
    let to = one.to in
    let place = one.place in
    let from_other = other.from in
    let to_other = other.to in
    let place_other = other.place in
    elim (cases_eq k j) [
      | inl same ↦
          let addr : (section_at v k).addr ≡ (section_at v j).addr = ap (λ (n : ℕ). (section_at v n).addr) same in
          let offset : (section_at v k).offset ≡ (section_at v j).offset = ap (λ (n : ℕ). (section_at v n).offset) same in
          inl (omega (arith, place, place_other, from, from_other, order, addr, offset))
      | inr differ ↦ stand_apart v p q k j a b below_j differ one other
    ]

-- so a word stands in one section
pub one_section : (file : List ℕ) (a k j : ℕ) → first_fault file ≡ None → HoldsWord (view_in file) a k → HoldsWord (view_in file) a j → k ≡ j
one_section file a k j none one other =
    let v = view_in file in
    let e : ℕ × ℕ = (a, 0) in
    elim (cases_eq k j) [
      | inl same ↦ same
      | inr differ ↦
          let apart = stand_apart v (patch_of v e) (patch_of v e) k j a a other.below differ (patch_stands file e k none one) (patch_stands file e j none other) in
          absurd (elim apart [
            | inl before ↦ omega (arith, before)
            | inr behind ↦ omega (arith, behind)
          ])
    ]

-- words of code and of data stand in different sections
pub sections_differ : (v : PlainView) (a b k j : ℕ) → HoldsCode v a k → HoldsNoCode v b j → k ≡ j → ⊥
sections_differ v a b k j code data_there same =
    let on = code.executable in
    let off = data_there.executable in
    let moved : is_executable (section_at v k) ≡ false = subst (λ (n : ℕ). is_executable (section_at v n) ≡ false) (sym same) off in
    absurd (cc (on, moved))

-- so no word of data stands where code does
pub data_off_code : (file : List ℕ) (board : Board) (g : Graph) (k a : ℕ) → first_fault file ≡ None → IsGraph (view_in file) board g → k < length g.data_words.items → is_code_word (view_in file) a ≡ true → (data_word_at g k).at ≡ a → ⊥
data_off_code file board g k a none is below code same =
    let v = view_in file in
    let one = code_kept v a code in
    let other = data_kept v board g k is below in
    let here : HoldsNoCode v a other.0 = subst (λ (x : ℕ). HoldsNoCode v x other.0) same other.1 in
    sections_differ v a a one.0 other.0 one.1 here (one_section file a one.0 other.0 none one.1.word here.word)
