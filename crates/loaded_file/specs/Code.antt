-- The code of a program, and its memory as words.
use Rattle.std.specs.Prelude.{ℕ, ◌%◌, ◌==◌, Bool, ◌&&◌, length}
use Rattle.rv32im.specs.Memory.{word_at}
use Rattle.list_checks.specs.Tests.{any_below, lies_in}
use Rattle.elf_reader.specs.Sections.{bit_of}
use Rattle.elf_reader.specs.File.{PlainView}
use Rattle.elf_reader.specs.Image.{image_of}
use Rattle.elf_reader.specs.Loaded.{section_at, is_loaded}

-- section `k` is a code range: it is loaded, has content, and is executable (SHF_EXECINSTR, bit 2)
abbrev pub is_code_range : PlainView → ℕ → Bool
is_code_range v k = is_loaded v k && ((section_at v k).kind == 1) && bit_of (section_at v k).flags 2

-- the four bytes from `a` lie in code range `k`
abbrev pub holds_code : PlainView → ℕ → ℕ → Bool
holds_code v a k = is_code_range v k && lies_in (section_at v k).addr (section_at v k).size a 4

-- an instruction may stand at `a`: a multiple of 4, inside one code range
abbrev pub is_code_word : PlainView → ℕ → Bool
is_code_word v a = (a % 4 == 0) && any_below (holds_code v a) (length v.sections)

-- section `k` is loaded, and its content has the four bytes from `a`
abbrev pub has_content : PlainView → ℕ → ℕ → Bool
has_content v a k =
    is_loaded v k && ((section_at v k).kind == 1) && lies_in (section_at v k).addr (section_at v k).size a 4

-- the word that stands at `a` when the program starts
abbrev pub image_word : PlainView → ℕ → ℕ
image_word v a = word_at (image_of v.segments) a
