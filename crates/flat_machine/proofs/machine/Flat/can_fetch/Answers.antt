use Rattle.std.proofs.Common.{sym}
use Rattle.flat_machine.proofs.Spans.{part_is_mapped, aligned_and_mapped}
use Rattle.flat_machine.proofs.machine.Flat.can_fetch.Goals as goal

pub returns-then-is_inside-clause-can : goal.returns-then-is_inside-clause-can
returns-then-is_inside-clause-can g c =
    let s = c.args.self.now in
    aligned_and_mapped s.map.items s.pc 4 c.if-self-eq0.true
    (part_is_mapped s.code s.map.items s.pc 4 s.code_is_part (sym c.if-is_inside.ensures))
