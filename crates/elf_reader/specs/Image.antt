-- The memory that a file's segments make when they are loaded at their addresses.
use Rattle.std.specs.Prelude.{ℕ, ◌+◌, ◌-◌, nat_lt, nat_le, Bool, ◌&&◌, if◌then◌else◌, List, [], ◌∷◌, length, slice_index}
use Rattle.rv32im.specs.Memory.{Memory, zeros}
use Rattle.elf_reader.specs.File.{PlainSegment}

-- the segment has a byte of the file for this address
abbrev pub has_byte : PlainSegment → ℕ → Bool
has_byte s address = nat_le s.vaddr address && nat_lt address (s.vaddr + length s.content)

-- the byte of the first segment that has one for the address, and 0 where none has: the rest of a
-- segment's memory is zeros (ELF, "Program Header", p_memsz), as is all other memory
abbrev pub image_of : List PlainSegment → Memory
image_of [] = zeros
image_of (s ∷ ss) =
    λ address. if has_byte s address then slice_index s.content (address - s.vaddr) else image_of ss address
