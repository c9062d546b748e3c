-- Which sections of a view are loaded, one by one.
use Rattle.std.specs.Prelude.{ℕ, Bool, List, length}
use Rattle.list_checks.specs.Tests.{marks_below}
use Rattle.elf_reader.specs.File.{PlainView}
use Rattle.elf_reader.specs.Loaded.{is_loaded}

-- whether each of the first n sections is loaded
abbrev pub loaded_below : PlainView → ℕ → List Bool
loaded_below v n = marks_below (is_loaded v) n

-- whether each section is
abbrev pub all_loaded : PlainView → List Bool
all_loaded v = loaded_below v (length v.sections)
