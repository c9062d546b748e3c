-- What a relocation means, and which give a site by themselves.
use Rattle.std.specs.Prelude.{ℕ, ◌==◌, nat_le, Bool, ◌&&◌, ◌||◌}
use Rattle.elf_reader.specs.File.{PlainSymbol, PlainView}
use Rattle.elf_reader.specs.declared.view.Reloc.{Reloc}
use Rattle.loaded_file.specs.Records.{reloc_at}
use Rattle.loaded_file.specs.Ranges.{is_of, inside}
use Rattle.object_graph.specs.Rewritable.{is_meant, displacement, is_rewritable_high, is_rewritable_low, is_rewritable_pair}

-- a relocation with this symbol, which leads to `a`, means the `n` bytes at `home`
abbrev pub means_by : PlainView → PlainSymbol → ℕ → ℕ → ℕ → Bool
means_by v s a home n = is_of v home n s || (s.kind == 3) && inside home n a

-- a relocation means the object and leads into it or to its end
abbrev pub leads_inside : PlainView → Reloc → ℕ → ℕ → Bool
leads_inside v r home n = is_meant v home n r && nat_le (displacement v home r) n

-- the kind of relocation `i` is rewritable, and gives a site at the instruction that it changes
abbrev pub is_direct : PlainView → ℕ → Bool
is_direct v i = is_rewritable_high v (reloc_at v i) || is_rewritable_low v (reloc_at v i) || is_rewritable_pair v (reloc_at v i)

-- the kinds that do: PCREL_HI20 (23), HI20 (26), LO12_I (27) and LO12_S (28)
abbrev pub is_site_kind : ℕ → Bool
is_site_kind kind = (kind == 23) || (kind == 26) || (kind == 27) || (kind == 28)
