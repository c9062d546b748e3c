-- The symbol table of a built file is the one that was planned.
use Rattle.std.proofs.Common.{◌≡◌, ℕ, zero, suc, ◌+◌, ◌==◌, true, false, List, [], ◌∷◌, length, Some, None, refl, ap, subst, ◌∙◌, arith}
use Rattle.std.specs.List.{All}
use Rattle.std.proofs.lemmas.List.Elements.{All-head, All-tail}
use Rattle.elf_reader.specs.Layout.{section_header, section_count}
use Rattle.elf_reader.specs.Sections.{table_at, symbol_table_below, symbol_table}
use Rattle.elf_writer.specs.Pieces.{padded}
use Rattle.workload_gen.specs.Built.{Planned}
use Rattle.workload_gen.proofs.SectionsRead.{IsSectionAt, AreSections}

abbrev pub IsOther : ℕ → Planned → Type 0
IsOther kind s = (s.kind == kind) ≡ false

pub no_table_below : (file table : List ℕ) (k place : ℕ) (ss : List Planned) → All (IsOther 2) ss → AreSections file table k place ss
    → symbol_table_below file k ≡ None → symbol_table_below file (k + length ss) ≡ None
no_table_below file table k place [] others h none = let same : k ≡ k + 0 = omega arith in subst (λ (n : ℕ). symbol_table_below file n ≡ None) same none
no_table_below file table k place (s ∷ ss) others h none =
    let next : suc k + length ss ≡ k + suc (length ss) = omega arith in
    let is_suc : k + 1 ≡ suc k = omega arith in
    let other : ((section_header file k).sh_type == 2) ≡ false = ap (λ (n : ℕ). n == 2) h.0.header.kind ∙ All-head (IsOther 2) s ss others in
    let here : symbol_table_below file (suc k) ≡ None = rw (none, other) refl in
    let rest = subst (λ (n : ℕ). AreSections file table n (place + length (padded s.content)) ss) is_suc h.1 in
    subst (λ (n : ℕ). symbol_table_below file n ≡ None) next (no_table_below file table (suc k) (place + length (padded s.content)) ss (All-tail (IsOther 2) s ss others) rest here)

-- a table that none comes before stays the first
first_table : (file : List ℕ) (k n : ℕ) → symbol_table_below file k ≡ None → table_at file k ≡ Some k → symbol_table_below file (suc k + n) ≡ Some k
first_table file k zero none found =
    let same : suc k ≡ suc k + zero = omega arith in
    let here : symbol_table_below file (suc k) ≡ Some k = rw (none, found) refl in
    subst (λ (n : ℕ). symbol_table_below file n ≡ Some k) same here
first_table file k (suc n) none found =
    let next : suc (suc k + n) ≡ suc k + suc n = omega arith in
    let earlier = first_table file k n none found in
    let here : symbol_table_below file (suc (suc k + n)) ≡ Some k = rw earlier refl in
    subst (λ (m : ℕ). symbol_table_below file m ≡ Some k) next here

pub table_found : (file table : List ℕ) (k n place : ℕ) (s : Planned) → s.kind ≡ 2 → IsSectionAt file table k place s → section_count file ≡ k + 1 + n
    → symbol_table_below file k ≡ None → symbol_table file ≡ Some k
table_found file table k n place s kind at count none =
    let is_table : ((section_header file k).sh_type == 2) ≡ true = ap (λ (m : ℕ). m == 2) (at.header.kind ∙ kind) in
    let found : table_at file k ≡ Some k = rw is_table refl in
    let is_suc : suc k + n ≡ section_count file = omega arith in
    subst (λ (m : ℕ). symbol_table_below file m ≡ Some k) is_suc (first_table file k n none found)
