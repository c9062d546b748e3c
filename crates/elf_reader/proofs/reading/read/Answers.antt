use Rattle.std.proofs.Common.{arith}
use Rattle.std.proofs.lemmas.List.Elements.{All-from_get_or}
use Rattle.elf_reader.specs.Loadable.{IsByte, AreBytes}
use Rattle.elf_reader.proofs.SegmentLemmas.{load_segments_loadable, load_segments_disjoint}
use Rattle.elf_reader.proofs.reading.read.Goals as goal

pub returns-in-Ok-clause-loadable : goal.returns-in-Ok-clause-loadable
returns-in-Ok-clause-loadable c =
    let file = c.args.bytes.now in
    let bytes : AreBytes file = All-from_get_or IsByte file 0 (λ k below. let fits = c.type_inv.bytes k in omega (arith, fits)) in
    rw c.in-Ok.ensures.segments (load_segments_loadable file bytes c.in_ok-check_program_headers.ensures.fault)

pub returns-in-Ok-clause-disjoint : goal.returns-in-Ok-clause-disjoint
returns-in-Ok-clause-disjoint c =
    rw c.in-Ok.ensures.segments (load_segments_disjoint c.args.bytes.now c.in_ok-check_program_headers.ensures.fault)
