-- Relocations that make addresses relative to the pc.
use Rattle.std.specs.Prelude.{◌≡◌, ℕ, ◌<◌, ◌==◌, Bool, true, ◌&&◌, ◌||◌, length}
use Rattle.elf_reader.specs.File.{PlainView}
use Rattle.elf_reader.specs.declared.view.Reloc.{Reloc}
use Rattle.loaded_file.specs.Records.{reloc_at, counts}
use Rattle.object_graph.specs.Rewritable.{is_pair_low}

-- it counts, and is PCREL_HI20 (23), PCREL_LO12_I (24) or PCREL_LO12_S (25) (RISC-V psABI, "Relocations")
abbrev pub is_relative : PlainView → Reloc → Bool
is_relative v r = counts v r && ((r.kind == 23) || is_pair_low r.kind)

-- some relocation of a view is such a one
pub record HasRelative (v : PlainView) : Type 0 where
  pub place : ℕ
  pub below : place < length v.relocs
  pub is : is_relative v (reloc_at v place) ≡ true
