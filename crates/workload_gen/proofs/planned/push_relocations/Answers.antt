use Rattle.std.proofs.Common.{◌+◌, pos, drop, get_or, refl}
use Rattle.std.proofs.lemmas.List.{get_or_default}
use Rattle.elf_reader.specs.declared.view.Reloc.{Reloc}
use Rattle.workload_gen.specs.Built.{relocation_bytes, relocations_bytes}
use Rattle.workload_gen.proofs.ByteLemmas.{piece_step}
use Rattle.workload_gen.proofs.planned.push_relocations.Goals as goal

pub loop-reloc-preserved : goal.loop-reloc-preserved
loop-reloc-preserved c =
    let none : Reloc = record { at = 0; kind = 0; symbol = 0; addend = pos 0; section = 0 } in
    let reloc : Reloc = get_or c.args.relocs.now c.loop-reloc.reloc-index none in
    piece_step relocations_bytes c.args.relocs.now c.loop-reloc.reloc-index reloc c.loop-reloc.out.items c.push_relocation.new.out.items (relocation_bytes reloc) (relocations_bytes (drop (c.loop-reloc.reloc-index + 1) c.args.relocs.now)) _ c.loop-reloc-test.true (get_or_default c.args.relocs.now c.loop-reloc.reloc-index none reloc c.loop-reloc-test.true) refl c.in_ok-push_relocation.ensures c.loop-reloc.invariant
