-- Views that come from reading a file.
use Rattle.std.specs.Prelude.{◌≡◌, ℕ, List, None}
use Rattle.elf_reader.specs.Faults.{first_fault}
use Rattle.elf_reader.specs.File.{IsFile}
use Rattle.elf_reader.specs.declared.view.ElfView.{ElfView}

-- the view of some file in which no check fails
abbrev pub IsRead : ElfView → Type 0
IsRead view = (file : List ℕ) × IsFile file view × (first_fault file ≡ None)
