-- The code of a program as ranges of addresses, in the order of the sections.
use Rattle.std.specs.Prelude.{ℕ, zero, suc, if◌then◌else◌, List, [], ◌∷◌, ◌++◌, length}
use Rattle.elf_reader.specs.File.{PlainSection, PlainView}
use Rattle.elf_reader.specs.Loaded.{section_at}
use Rattle.loaded_file.specs.Code.{is_code_range}
use Rattle.board_config.specs.declared.board.Range.{Range}

-- the addresses of a section
abbrev pub section_range : PlainSection → Range
section_range s = record { base = s.addr; size = s.size }

-- those of section `k`, if it is a code range
abbrev pub code_range_at : PlainView → ℕ → List Range
code_range_at v k = if is_code_range v k then section_range (section_at v k) ∷ [] else []

-- the code ranges among the first n sections
abbrev pub code_ranges_below : PlainView → ℕ → List Range
code_ranges_below v zero = []
code_ranges_below v (suc k) = code_ranges_below v k ++ code_range_at v k

-- all code ranges, also empty ones
abbrev pub code_ranges_of : PlainView → List Range
code_ranges_of v = code_ranges_below v (length v.sections)
