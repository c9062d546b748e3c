-- Fixed memory in two parts: what is mapped, and what of it changes.
use Rattle.std.specs.Prelude.{ℕ, ◌+◌, ◌-◌, ◌==◌, nat_lt, Bool, ◌&&◌, ◌||◌, length}
use Rattle.list_checks.specs.Tests.{any_below}
use Rattle.elf_reader.specs.File.{PlainSegment, PlainSection, PlainView}
use Rattle.elf_reader.specs.Image.{has_byte}
use Rattle.board_config.specs.declared.board.Board.{Board}
use Rattle.loaded_file.specs.Ranges.{inside}
use Rattle.object_graph.specs.declared.parts.Object.{Object}
use Rattle.object_graph.specs.Sites.{in_range, in_area, in_code_range, in_object, in_symbol_table, holds_changed_byte}

-- main or an area
abbrev pub is_mapped : Board → ℕ → Bool
is_mapped board a = in_range board.main a || any_below (in_area board a) (length board.areas.items)

-- the scratchpad, the patch range, code, objects that may move, and bytes of the file that a new file changes
abbrev pub is_changing : PlainView → Board → ℕ → Bool
is_changing v board a =
    in_range board.spm a
    || in_range board.patch a
    || any_below (in_code_range v a) (length v.sections)
    || any_below (in_object v board a) (length v.symbols)
    || any_below (holds_changed_byte v a) (length v.segments)

-- an address lies in an object
abbrev pub in_object_of_list : ℕ → Object → Bool
in_object_of_list a o = inside o.home o.size a

-- the byte of the file that a segment puts at an address
abbrev pub place_of : PlainSegment → ℕ → ℕ
place_of s a = s.offset + (a - s.vaddr)

-- a segment puts one of the `size` bytes of the file from `from` there
abbrev pub is_put_from : PlainSegment → ℕ → ℕ → ℕ → Bool
is_put_from s from size a = has_byte s a && inside from size (place_of s a)

-- one of the symbol table (SHT_SYMTAB, 2), if the section is it
abbrev pub puts_table : PlainSegment → PlainSection → ℕ → Bool
puts_table s t a = (t.kind == 2) && is_put_from s t.offset t.size a

-- one of the ELF header, or of a symbol table among the first n sections
abbrev pub puts_changed_byte : PlainView → PlainSegment → ℕ → ℕ → Bool
puts_changed_byte v s a n =
    has_byte s a && (nat_lt (place_of s a) 52 || any_below (in_symbol_table v (place_of s a)) n)
