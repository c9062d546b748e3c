-- Where the contents of sections begin and end in the file. How many sections meet some bytes is the number of those
-- that begin before their end, without those that end before their beginning.
use Rattle.std.specs.Prelude.{ℕ, ◌+◌, nat_lt, Bool, ◌&&◌, length}
use Rattle.elf_reader.specs.Sections.{stands_in_file}
use Rattle.elf_reader.specs.File.{PlainView}
use Rattle.elf_reader.specs.Loaded.{section_at}
use Rattle.loaded_file.specs.Listed.{IsListOf}
use Rattle.loaded_file.specs.declared.contents.ContentBounds.{ContentBounds}

-- section `k` has bytes in the file, which begin and end there
abbrev pub has_content : PlainView → ℕ → Bool
has_content v k = stands_in_file (section_at v k).kind && nat_lt 0 (section_at v k).size

abbrev pub content_start : PlainView → ℕ → ℕ
content_start v k = (section_at v k).offset

abbrev pub content_end : PlainView → ℕ → ℕ
content_end v k = (section_at v k).offset + (section_at v k).size

-- the bounds are those of a view's sections
pub record AreContentBounds (v : PlainView) (bounds : ContentBounds) : Type 0 where
  pub starts : IsListOf (has_content v) (content_start v) (length v.sections) bounds.starts.items
  pub ends : IsListOf (has_content v) (content_end v) (length v.sections) bounds.ends.items
