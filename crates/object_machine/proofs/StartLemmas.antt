-- The memory with which a program starts.
use Rattle.std.proofs.Common.{◌≡◌, ◌⊎◌, inl, inr, ℕ, zero, suc, ◌+◌, ◌-◌, ◌<◌, ◌≤◌, ◌==◌, nat_le, nat_lt, Bool, true, false, ◌&&◌, if◌then◌else◌, List, [], ◌∷◌, ◌++◌, map, take, drop, length, length-take, get_or, slice_index, slice_index_or, replicate, refl, sym, ◌∙◌, ap, subst, arith}
use Rattle.std.specs.List.{All}
use Rattle.std.proofs.Math.Seq.{drop-cons}
use Rattle.std.proofs.lemmas.Bool.{cases_eq, cases_lt}
use Rattle.std.proofs.lemmas.Bool.Decides.{nat_tests}
use Rattle.std.proofs.lemmas.List.{length-map, map-append, take_more}
use Rattle.std.proofs.lemmas.List.Elements.{All-nil, All-cons, All-head, All-tail}
use Rattle.rv32im.specs.Memory.{Memory, put, put_bytes}
use Rattle.elf_reader.specs.declared.view.Segment.{Segment}
use Rattle.elf_reader.specs.File.{PlainSegment, plain_segment}
use Rattle.elf_reader.specs.Image.{image_of}
use Rattle.paged_store.proofs.Puts.{put_bytes_before, put_bytes_behind, put_bytes_at}
use Rattle.object_graph.specs.declared.parts.DataWord.{DataWord}
use Rattle.object_graph.specs.declared.parts.Graph.{Graph}
use Rattle.cell_values.specs.Cells.{IsCellOfGraph, put_at, put_cells, parts_of}
use Rattle.list_checks.proofs.TestLemmas.{both}
use Rattle.cell_values.specs.Objects.{IsOfGraph}
use Rattle.cell_values.specs.declared.values.Val.{Val}
use Rattle.cell_values.specs.declared.values.Val.TheVariants.{Int}
use Rattle.object_machine.specs.declared.units.Prepared.{Prepared}
use Rattle.object_machine.specs.Units.{fits_read, fits_pair, fits_site, is_fit}
use Rattle.cell_values.specs.declared.values.Cell.{Cell}
use Rattle.cell_values.specs.declared.values.Cell.TheVariants.{Byte, Part, Mist}
use Rattle.object_machine.specs.Start.{in_word, first_cell}
use Rattle.object_machine.specs.Starting.{plain_cells}
use Rattle.object_machine.specs.Machine.{byte_cells}
use Rattle.object_machine.proofs.StoreLemmas.{same_number, put_here, put_other, before_cells, behind_cells}

-- ---- bytes

plain_at : (mem : Memory) (at b a : ℕ) → put_at (plain_cells mem) at (Byte b) a ≡ plain_cells (put mem at b) a
unfolding put_at put
plain_at mem at b a =
    elim (cases_eq a at) [
      | inl same ↦ rw same (rw (same_number at))
      | inr other ↦ let differs : (a == at) ≡ false = grind (arith, nat_tests, other) in rw differs
    ]

plain_put : (bytes : List ℕ) (mem : Memory) (at : ℕ) → put_cells (plain_cells mem) at (byte_cells bytes) ≡ plain_cells (put_bytes mem at bytes)
plain_put [] mem at = refl
plain_put (b ∷ bytes) mem at =
    ap (λ (t : ℕ → Cell). put_cells t (at + 1) (byte_cells bytes)) (λ z a. plain_at mem at b a z) ∙ plain_put bytes (put mem at b) (at + 1)

-- one cell more behind others
pub cells_more : (cs : List Cell) (t : ℕ → Cell) (k : ℕ) (c : Cell) → put_cells t k (cs ++ c ∷ []) ≡ put_at (put_cells t k cs) (k + length cs) c
cells_more [] t k c = let e : k ≡ k + 0 = omega arith in ap (λ (j : ℕ). put_at t j c) e
cells_more (d ∷ cs) t k c =
    let e : (k + 1) + length cs ≡ k + length (d ∷ cs) = omega arith in
    cells_more cs (put_at t k d) (k + 1) c ∙ ap (λ (j : ℕ). put_at (put_cells (put_at t k d) (k + 1) cs) j c) e

-- one byte more
pub byte_more : (bytes : List ℕ) (i at : ℕ) (t old new : ℕ → Cell) → i < length bytes → old ≡ put_cells t at (byte_cells (take i bytes)) → new ≡ put_at old (at + i) (Byte (slice_index bytes i)) → new ≡ put_cells t at (byte_cells (take (i + 1) bytes))
byte_more bytes i at t old new below so_far one =
    let b : ℕ = slice_index bytes i in
    let cs : List Cell = byte_cells (take i bytes) in
    let count : length cs ≡ i = simp (length-map, length-take) (omega (arith, below)) in
    let further : byte_cells (take (i + 1) bytes) ≡ cs ++ Byte b ∷ [] = ap byte_cells (take_more bytes i 0 below) ∙ map-append Byte (take i bytes) (b ∷ []) in
    one
    ∙ (ap (λ (u : ℕ → Cell). put_at u (at + i) (Byte b)) so_far
    ∙ (ap (λ (n : ℕ). put_at (put_cells t at cs) (at + n) (Byte b)) (sym count)
    ∙ (sym (cells_more cs t at (Byte b)) ∙ ap (put_cells t at) (sym further))))

pub none_left : {X : Type 0} (xs : List X) → drop (length xs) xs ≡ []
none_left [] = refl
none_left (x ∷ xs) = none_left xs

-- ---- segments

image_at : (s : PlainSegment) (ss : List PlainSegment) (a : ℕ) → put_bytes (image_of ss) s.vaddr s.content a ≡ image_of (s ∷ ss) a
image_at s ss a =
    grind (arith, nat_tests, put_bytes_before s.content (image_of ss) s.vaddr a, put_bytes_behind s.content (image_of ss) s.vaddr a, put_bytes_at s.content (image_of ss) s.vaddr (a - s.vaddr) a)

-- the first segment's bytes over the image of the others
image_more : (s : PlainSegment) (ss : List PlainSegment) → put_cells (plain_cells (image_of ss)) s.vaddr (byte_cells s.content) ≡ plain_cells (image_of (s ∷ ss))
image_more s ss = plain_put s.content (image_of ss) s.vaddr ∙ ap plain_cells (λ z a. image_at s ss a z)

-- one segment more, of those that stand in a file
pub segment_more : (segments : List Segment) (j k : ℕ) (d : Segment) (t : ℕ → Cell) → k ≡ suc j → j < length segments → t ≡ plain_cells (image_of (map plain_segment (drop k segments))) → put_cells t (get_or segments j d).vaddr (byte_cells (get_or segments j d).bytes.now) ≡ plain_cells (image_of (map plain_segment (drop j segments)))
segment_more segments j k d t next inside block_units =
    let s : Segment = get_or segments j d in
    let rest : List PlainSegment = map plain_segment (drop (suc j) segments) in
    let here : t ≡ plain_cells (image_of rest) = subst (λ n. t ≡ plain_cells (image_of (map plain_segment (drop n segments)))) next block_units in
    rw (drop-cons segments j d inside) (ap (λ (u : ℕ → Cell). put_cells u s.vaddr (byte_cells s.bytes.now)) here ∙ image_more (plain_segment s) rest)

-- ---- words of data

inside_cells : (cs : List Cell) (t : ℕ → Cell) (k j : ℕ) → j < length cs → put_cells t k cs (k + j) ≡ slice_index_or cs j Mist
inside_cells [] t k j below = absurd (omega (arith, below))
inside_cells (c ∷ cs) t k zero below =
    before_cells (put_at t k c) (k + 1) cs (k + 0) (omega arith) ∙ put_here t k c (k + 0) (omega arith)
inside_cells (c ∷ cs) t k (suc j) below =
    let e : k + suc j ≡ (k + 1) + j = omega arith in
    ap (put_cells (put_at t k c) (k + 1) cs) e ∙ inside_cells cs (put_at t k c) (k + 1) j (omega (arith, below))

part_at : (o d j : ℕ) → j < 4 → slice_index_or (parts_of false o d) j Mist ≡ Part false o d j
part_at o d zero below = refl
part_at o d (suc zero) below = refl
part_at o d (suc (suc zero)) below = refl
part_at o d (suc (suc (suc zero))) below = refl
part_at o d (suc (suc (suc (suc j)))) below = absurd (omega (arith, below))

word_at : (image : Memory) (d : DataWord) (words : List DataWord) (a : ℕ) → put_cells (first_cell image words) d.at (parts_of false d.object d.offset) a ≡ first_cell image (d ∷ words) a
word_at image d words a =
    let t : ℕ → Cell = first_cell image words in
    let cs : List Cell = parts_of false d.object d.offset in
    elim (cases_lt a d.at) [
      | inl less ↦
          let out : in_word a d ≡ false = grind (arith, nat_tests, less) in rw out (before_cells t d.at cs a less)
      | inr more ↦ elim (cases_lt a (d.at + 4)) [
        | inr behind ↦
            let out : in_word a d ≡ false = grind (arith, nat_tests, behind) in rw out (behind_cells t d.at cs a behind)
        | inl inside ↦
            let within : in_word a d ≡ true = grind (arith, nat_tests, more, inside) in
            let e : a ≡ d.at + (a - d.at) = omega (arith, more) in
            rw within
            (ap (put_cells t d.at cs) e
            ∙ (inside_cells cs t d.at (a - d.at) (omega (arith, more, inside)) ∙ part_at d.object d.offset (a - d.at) (omega (arith, more, inside))))
      ]
    ]

-- one word more
pub word_more : (image : Memory) (words : List DataWord) (j k : ℕ) (d : DataWord) (t : ℕ → Cell) → k ≡ suc j → j < length words → t ≡ first_cell image (drop k words) → put_cells t (get_or words j d).at (parts_of false (get_or words j d).object (get_or words j d).offset) ≡ first_cell image (drop j words)
word_more image words j k d t next inside block_units =
    let w : DataWord = get_or words j d in
    let rest : List DataWord = drop (suc j) words in
    let here : t ≡ first_cell image rest = subst (λ n. t ≡ first_cell image (drop n words)) next block_units in
    rw (drop-cons words j d inside)
    (ap (λ (u : ℕ → Cell). put_cells u w.at (parts_of false w.object w.offset)) here ∙ (λ z a. word_at image w rest a z))

-- ---- the objects that they name

one_of_graph : (g : Graph) (test : Bool) (d : DataWord) (k : ℕ) (c : Cell) → d.object < length g.objects.items → IsCellOfGraph g c → IsCellOfGraph g (if test then Part false d.object d.offset k else c)
one_of_graph g true d k c named rest = named
one_of_graph g false d k c named rest = rest

pub first_of_graph : (g : Graph) (image : Memory) (words : List DataWord) → All (λ d. d.object < length g.objects.items) words → (a : ℕ) → IsCellOfGraph g (first_cell image words a)
first_of_graph g image [] named a = tt
first_of_graph g image (d ∷ words) named a =
    one_of_graph g (in_word a d) d (a - d.at) (first_cell image words a) (All-head (λ e. e.object < length g.objects.items) d words named)
    (first_of_graph g image words (All-tail (λ e. e.object < length g.objects.items) d words named) a)

-- ---- the start

pub fit_below : (count : ℕ) (u : Prepared) → is_fit count u ≡ true → u.at + 4 < 4294967296
fit_below count u fit =
    let below = (both (fits_read u.instr && fits_pair u.at u.pair && fits_site count u.site) (nat_lt (u.at + 4) 4294967296) fit).1 in
    grind (arith, nat_tests, below)
