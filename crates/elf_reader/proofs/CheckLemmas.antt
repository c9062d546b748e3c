-- Checks in a fixed order: of each section header, and one more that holds.
use Rattle.std.proofs.Common.{◌≡◌, ℕ, ◌+◌, ◌<◌, List, Option, Some, None, subst, add-one}
use Rattle.list_checks.specs.First.{first_below}
use Rattle.list_checks.proofs.FirstLemmas.{first_found}
use Rattle.elf_reader.specs.Layout.{file_header, section_count}
use Rattle.elf_reader.specs.declared.records.FileHeader.{FileHeader}

-- the number of a section header is below their count
pub below_count : (file : List ℕ) (h : FileHeader) (k : ℕ) → h ≡ file_header file → k < h.e_shnum → k < section_count file
below_count file h k is below = subst (λ (h : FileHeader). k < h.e_shnum) is below

-- the first check of section headers that fails
pub section_found : {E : Type 0} (check : ℕ → Option E) (file : List ℕ) (h : FileHeader) (k : ℕ) (fault : E) → h ≡ file_header file → k < h.e_shnum → first_below check k ≡ None → check k ≡ Some fault → first_below check (section_count file) ≡ Some fault
section_found check file h k fault is below none found =
    first_found check (section_count file) k fault (below_count file h k is below) none found

pub none_more : {E : Type 0} (check : ℕ → Option E) (n : ℕ) → first_below check n ≡ None → check n ≡ None → first_below check (n + 1) ≡ None
none_more check n below here = rw (add-one, below) here
