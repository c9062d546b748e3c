-- Records that are read from two files in which the same bytes stand.
use Rattle.std.proofs.Common.{◌≡◌, ◌∙◌, ℕ, ◌+◌, ◌<◌, ◌≤◌, List, slice_index, refl, sym, ap, arith}
use Rattle.std.specs.Int.{cast_signed, w32}
use Rattle.rv32im.specs.Words.{half_of, word_of}
use Rattle.elf_reader.specs.Layout.{half_in, word_in, program_header_in, section_header_in, relocation_record_in}

-- the bytes of file `f` from `at` on are those of file `g` from `to` on, `n` of them
abbrev pub Alike : List ℕ → ℕ → List ℕ → ℕ → ℕ → Type 0
Alike f at g to n = (i : ℕ) → i < n → slice_index f (at + i) ≡ slice_index g (to + i)

pub byte_alike : (f : List ℕ) (at : ℕ) (g : List ℕ) (to n k a b : ℕ) → Alike f at g to n → k < n → at + k ≡ a → to + k ≡ b → slice_index f a ≡ slice_index g b
byte_alike f at g to n k a b alike below is_a is_b =
    sym (ap (slice_index f) is_a) ∙ (alike k below ∙ ap (slice_index g) is_b)

pub half_alike : (f : List ℕ) (at : ℕ) (g : List ℕ) (to n k a b : ℕ) → Alike f at g to n → k + 2 ≤ n → at + k ≡ a → to + k ≡ b → half_in f a ≡ half_in g b
half_alike f at g to n k a b alike below is_a is_b =
    let first = byte_alike f at g to n k a b alike (omega (arith, below)) is_a is_b in
    let second = byte_alike f at g to n (k + 1) (a + 1) (b + 1) alike (omega (arith, below)) (omega (arith, is_a)) (omega (arith, is_b)) in
    λ i. half_of (first i) (second i)

pub word_alike : (f : List ℕ) (at : ℕ) (g : List ℕ) (to n k a b : ℕ) → Alike f at g to n → k + 4 ≤ n → at + k ≡ a → to + k ≡ b → word_in f a ≡ word_in g b
word_alike f at g to n k a b alike below is_a is_b =
    let first = byte_alike f at g to n k a b alike (omega (arith, below)) is_a is_b in
    let second = byte_alike f at g to n (k + 1) (a + 1) (b + 1) alike (omega (arith, below)) (omega (arith, is_a)) (omega (arith, is_b)) in
    let third = byte_alike f at g to n (k + 2) (a + 2) (b + 2) alike (omega (arith, below)) (omega (arith, is_a)) (omega (arith, is_b)) in
    let fourth = byte_alike f at g to n (k + 3) (a + 3) (b + 3) alike (omega (arith, below)) (omega (arith, is_a)) (omega (arith, is_b)) in
    λ i. word_of (first i) (second i) (third i) (fourth i)

pub program_header_alike : (f : List ℕ) (at : ℕ) (g : List ℕ) (to : ℕ) → Alike f at g to 32 → program_header_in f at ≡ program_header_in g to
unfolding program_header_in
program_header_alike f at g to alike =
    let word : (k : ℕ) → k + 4 ≤ 32 → word_in f (at + k) ≡ word_in g (to + k) = λ k inside. word_alike f at g to 32 k (at + k) (to + k) alike inside refl refl in
    let first = word_alike f at g to 32 0 at to alike (omega arith) (omega arith) (omega arith) in
    λ i. record { p_type = first i; p_offset = word 4 (omega arith) i; p_vaddr = word 8 (omega arith) i; p_filesz = word 16 (omega arith) i; p_memsz = word 20 (omega arith) i; p_flags = word 24 (omega arith) i }

pub section_header_alike : (f : List ℕ) (at : ℕ) (g : List ℕ) (to : ℕ) → Alike f at g to 40 → section_header_in f at ≡ section_header_in g to
unfolding section_header_in
section_header_alike f at g to alike =
    let word : (k : ℕ) → k + 4 ≤ 40 → word_in f (at + k) ≡ word_in g (to + k) = λ k inside. word_alike f at g to 40 k (at + k) (to + k) alike inside refl refl in
    let first = word_alike f at g to 40 0 at to alike (omega arith) (omega arith) (omega arith) in
    λ i.
    record {
      sh_name = first i;
      sh_type = word 4 (omega arith) i;
      sh_flags = word 8 (omega arith) i;
      sh_addr = word 12 (omega arith) i;
      sh_offset = word 16 (omega arith) i;
      sh_size = word 20 (omega arith) i;
      sh_link = word 24 (omega arith) i;
      sh_info = word 28 (omega arith) i;
      sh_entsize = word 36 (omega arith) i;
    }

pub relocation_alike : (f : List ℕ) (at : ℕ) (g : List ℕ) (to : ℕ) → Alike f at g to 12 → relocation_record_in f at ≡ relocation_record_in g to
unfolding relocation_record_in
relocation_alike f at g to alike =
    let place = word_alike f at g to 12 0 at to alike (omega arith) (omega arith) (omega arith) in
    let info = word_alike f at g to 12 4 (at + 4) (to + 4) alike (omega arith) (omega arith) (omega arith) in
    let addend = word_alike f at g to 12 8 (at + 8) (to + 8) alike (omega arith) (omega arith) (omega arith) in
    λ i. record { r_offset = place i; r_info = info i; r_addend = cast_signed w32 (addend i) }

-- a part of such a range
pub part_alike : (f g : List ℕ) (at to n k m : ℕ) → Alike f at g to n → k + m ≤ n → Alike f (at + k) g (to + k) m
part_alike f g at to n k m alike inside i below =
    byte_alike f at g to n (k + i) (at + k + i) (to + k + i) alike (omega (arith, inside, below)) (omega arith) (omega arith)
