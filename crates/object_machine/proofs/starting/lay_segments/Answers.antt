use Rattle.std.proofs.Common.{◌≡◌, ◌<◌, ◌-◌, List, map, suc, length, sym, ◌∙◌, ap, arith}
use Rattle.std.proofs.Math.Nat.{le_of_lt}
use Rattle.elf_reader.specs.declared.view.Segment.{Segment}
use Rattle.elf_reader.specs.File.{plain_segment}
use Rattle.elf_reader.specs.Image.{image_of}
use Rattle.cell_values.specs.Stored.{cells_of}
use Rattle.object_machine.specs.Starting.{plain_cells}
use Rattle.object_machine.proofs.MemoryLemmas.{segment_short}
use Rattle.object_machine.proofs.StartLemmas.{none_left, segment_more}
use Rattle.object_machine.proofs.starting.lay_segments.Goals as goal

pub loop-k-init : goal.loop-k-init
loop-k-init c =
    let segments = c.args.segments.now in
    c.requires.empty ∙ ap (λ (ss : List Segment). plain_cells (image_of (map plain_segment ss))) (sym (none_left segments))

pub lay_bytes-requires : goal.lay_bytes-requires
lay_bytes-requires c =
    let inside : c.loop-k.k - 1 < length c.args.segments.now = omega arith in
    le_of_lt (segment_short c.args.segments.now (c.loop-k.k - 1) _ c.requires.loadable inside)

pub loop-k-preserved : goal.loop-k-preserved
loop-k-preserved c =
    let inside : c.loop-k.k - 1 < length c.args.segments.now = omega arith in
    let next : c.loop-k.k ≡ suc (c.loop-k.k - 1) = omega arith in
    c.in_ok-lay_bytes.ensures
    ∙ segment_more c.args.segments.now (c.loop-k.k - 1) c.loop-k.k _ (cells_of c.loop-k.memory) next inside c.loop-k.invariant
