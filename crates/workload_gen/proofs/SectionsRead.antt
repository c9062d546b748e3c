-- The sections of a built file, read back.
use Rattle.std.proofs.Common.{◌≡◌, ℕ, suc, ◌+◌, ◌<◌, true, false, List, [], ◌∷◌, ◌++◌, length, map, ◌⊎◌, refl, ap, subst, ◌∙◌, arith, inl, inr, length-append}
use Rattle.std.specs.List.{All}
use Rattle.std.proofs.lemmas.List.Elements.{All-head, All-tail}
use Rattle.elf_reader.specs.Layout.{section_header_at, section_header}
use Rattle.elf_reader.specs.Sections.{stands_in_file, section_content, section_names, name_in}
use Rattle.elf_reader.specs.File.{PlainSection, section_of, sections_below}
use Rattle.elf_writer.specs.Pieces.{IsWord, IsName, zero_bytes, padded, padding, ended_names, name_size}
use Rattle.workload_gen.specs.Built.{Planned, planned_name, contents, section_header_bytes, section_headers}
use Rattle.workload_gen.specs.Readable.{sections_from}
use Rattle.elf_writer.proofs.Standing.{Stands, stands_first, stands_behind, stands_range, name_there, next_name_there}
use Rattle.workload_gen.proofs.Records.{HasWords, IsHeader, section_header_there}
use Rattle.workload_gen.proofs.Steps.{grown_none, grown_more}

-- a section whose numbers are words, and whose size is that of its content, or which has no content in
-- the file
pub record IsPlanned (s : Planned) : Type 0 where
  pub name : IsName s.name
  pub kind : IsWord s.kind
  pub flags : IsWord s.flags
  pub addr : IsWord s.addr
  pub link : IsWord s.link
  pub info : IsWord s.info
  pub size : ((stands_in_file s.kind ≡ true) × (s.size ≡ length s.content)) ⊎ ((stands_in_file s.kind ≡ false) × (s.content ≡ []) × IsWord s.size)

-- section `k` is read back from its header, its content and the table of names
pub record IsSectionAt (file table : List ℕ) (k place : ℕ) (s : Planned) : Type 0 where
  pub name_at : ℕ
  pub header : IsHeader file (section_header_at file k) place name_at s
  pub name : name_in table name_at ≡ s.name
  pub content : section_content file k ≡ s.content
  pub bytes : Stands file place s.content

abbrev pub AreSections : List ℕ → List ℕ → ℕ → ℕ → List Planned → Type 0
AreSections file table k place [] = Unit {0}
AreSections file table k place (s ∷ ss) = IsSectionAt file table k place s × AreSections file table (k + 1) (place + length (padded s.content)) ss

size_fits : (s : Planned) → IsPlanned s → IsWord (length s.content) → IsWord s.size
size_fits s is_planned fits =
    elim is_planned.size [ inl in_file ↦ let same = in_file.1 in omega arith | inr empty ↦ empty.2 ]

has_words : (s : Planned) → IsPlanned s → IsWord (length s.content) → HasWords s
has_words s is_planned fits =
    record {
      kind = is_planned.kind;
      flags = is_planned.flags;
      addr = is_planned.addr;
      size = size_fits s is_planned fits;
      link = is_planned.link;
      info = is_planned.info;
    }

-- its content
content_there : (file : List ℕ) (k place name_at : ℕ) (s : Planned) → IsPlanned s → IsHeader file (section_header_at file k) place name_at s
    → Stands file place s.content → section_content file k ≡ s.content
content_there file k place name_at s is_planned header bytes =
    elim is_planned.size [
      | inl in_file ↦ rw (header.kind, in_file.0, header.offset, header.size, in_file.1) (stands_range file place s.content bytes)
      | inr empty ↦ rw (header.kind, empty.0, empty.1) refl
    ]

section_there : (file table : List ℕ) (k place name_at : ℕ) (s : Planned) (names : List ℕ) → IsPlanned s
    → place + length (padded s.content) < 16777216 → name_at < 16777216
    → Stands file (section_header_at file k) (section_header_bytes place name_at s) → Stands file place (padded s.content) → Stands table name_at (s.name ++ 0 ∷ names)
    → IsSectionAt file table k place s
section_there file table k place name_at s names is_planned place_fits name_fits headers bytes name =
    let size : length (padded s.content) ≡ length s.content + length (zero_bytes (padding (length s.content))) = length-append s.content (zero_bytes (padding (length s.content))) in
    let header = section_header_there file (section_header_at file k) place name_at s (omega arith) (omega arith) (has_words s is_planned (omega arith)) headers in
    let content = stands_first file place s.content (zero_bytes (padding (length s.content))) bytes in
    record {
      name_at = name_at;
      header = header;
      name = name_there table name_at s.name names is_planned.name name;
      content = content_there file k place name_at s is_planned header content;
      bytes = content;
    }

pub sections_there : (file table : List ℕ) (k place name_at : ℕ) (ss : List Planned) → All IsPlanned ss
    → place + length (contents ss) < 16777216 → name_at + length (ended_names (map planned_name ss)) < 16777216
    → Stands file (section_header_at file k) (section_headers place name_at ss) → Stands file place (contents ss) → Stands table name_at (ended_names (map planned_name ss))
    → AreSections file table k place ss
sections_there file table k place name_at [] are_planned place_fits name_fits headers bytes names = tt
sections_there file table k place name_at (s ∷ ss) are_planned place_fits name_fits headers bytes names =
    let next : ℕ = place + length (padded s.content) in
    let next_name : ℕ = name_at + name_size s.name in
    let here = section_header_bytes place name_at s in
    let later = section_headers next next_name ss in
    let later_names = ended_names (map planned_name ss) in
    let size : length (contents (s ∷ ss)) ≡ length (padded s.content) + length (contents ss) = length-append (padded s.content) (contents ss) in
    let names_size : length (s.name ++ 0 ∷ later_names) ≡ length s.name + suc (length later_names) = length-append s.name (0 ∷ later_names) in
    let this_fits : place + length (padded s.content) < 16777216 = omega arith in
    let next_fits : next + length (contents ss) < 16777216 = omega arith in
    let name_here : name_at < 16777216 = omega arith in
    let names_fit : next_name + length later_names < 16777216 = omega arith in
    let header_next : section_header_at file k + 40 ≡ section_header_at file (k + 1) = omega arith in (
      section_there file table k place name_at s later_names (All-head IsPlanned s ss are_planned) this_fits name_here
          (stands_first file (section_header_at file k) here later headers) (stands_first file place (padded s.content) (contents ss) bytes) names,
      sections_there file table (k + 1) next next_name ss (All-tail IsPlanned s ss are_planned) next_fits names_fit
          (stands_behind file (section_header_at file k) (section_header_at file (k + 1)) here later header_next headers)
          (stands_behind file place next (padded s.content) (contents ss) refl bytes)
          (next_name_there table name_at s.name later_names names),
    )

-- the sections behind the first ones
pub sections_behind : (file table : List ℕ) (k j place next : ℕ) (xs ys : List Planned) → k + length xs ≡ j → place + length (contents xs) ≡ next
    → AreSections file table k place (xs ++ ys) → AreSections file table j next ys
sections_behind file table k j place next [] ys is_index is_place h =
    let same_index : k ≡ j = omega arith in
    let same_place : place ≡ next = omega arith in
    subst (λ (n : ℕ). AreSections file table n next ys) same_index (subst (λ (n : ℕ). AreSections file table k n ys) same_place h)
sections_behind file table k j place next (x ∷ xs) ys is_index is_place h =
    let size : length (contents (x ∷ xs)) ≡ length (padded x.content) + length (contents xs) = length-append (padded x.content) (contents xs) in
    sections_behind file table (k + 1) j (place + length (padded x.content)) next xs ys (omega arith) (omega arith) h.1

pub sections_first : (file table : List ℕ) (k place : ℕ) (xs ys : List Planned) → AreSections file table k place (xs ++ ys) → AreSections file table k place xs
sections_first file table k place [] ys h = tt
sections_first file table k place (x ∷ xs) ys h = (h.0, sections_first file table (k + 1) (place + length (padded x.content)) xs ys h.1)

-- ---- the view's sections

abbrev pub plain_of : ℕ → Planned → PlainSection
plain_of place s =
    record {
      name = s.name;
      kind = s.kind;
      flags = s.flags;
      addr = s.addr;
      offset = place;
      size = s.size;
      link = s.link;
      info = s.info;
      content = s.content;
    }

pub section_is : (file table : List ℕ) (k place : ℕ) (s : Planned) → section_names file ≡ table → IsSectionAt file table k place s → section_of file k ≡ plain_of place s
section_is file table k place s names at =
    let name : name_in (section_names file) (section_header file k).sh_name ≡ s.name = ap (name_in (section_names file)) at.header.name ∙ (ap (λ (t : List ℕ). name_in t at.name_at) names ∙ at.name) in
    λ i.
    record {
      name = name i;
      kind = at.header.kind i;
      flags = at.header.flags i;
      addr = at.header.addr i;
      offset = at.header.offset i;
      size = at.header.size i;
      link = at.header.link i;
      info = at.header.info i;
      content = at.content i;
    }

pub sections_are : (file table : List ℕ) (k place : ℕ) (ss : List Planned) → section_names file ≡ table → AreSections file table k place ss
    → sections_below file (k + length ss) ≡ sections_below file k ++ sections_from place ss
sections_are file table k place [] names h = grown_none (sections_below file) k
sections_are file table k place (s ∷ ss) names h =
    let next : ℕ = place + length (padded s.content) in
    grown_more (sections_below file) k (length ss) (plain_of place s ∷ []) (sections_from next ss)
    (ap (λ (x : PlainSection). sections_below file k ++ x ∷ []) (section_is file table k place s names h.0)) (sections_are file table (k + 1) next ss names h.1)
