use Rattle.std.proofs.Common.{◌+◌, List, sym, subst, arith}
use Rattle.rv32im.specs.declared.instructions.RegSet.{RegSet}
use Rattle.placement_candidates.specs.Found.{AreLiveAtBorders}
use Rattle.placement_candidates.proofs.FoundLemmas.{borders_more}
use Rattle.placement_candidates.proofs.border_registers.registers_at_borders.Goals as goal

pub loop-b-preserved : goal.loop-b-preserved
loop-b-preserved c =
    let code = c.args.code.now in
    let borders = c.args.regions.now.border.items in
    let b = c.loop-b.b in
    subst (λ (sets : List RegSet). AreLiveAtBorders code borders (b + 1) sets) (sym {A = List RegSet} c.in_ok-push.ensures.items)
    (borders_more code c.args.live.now borders b c.index.result.now c.is_border.result c.loop-b.asked.items c.registers_at.result c.requires (omega (arith, c.loop-b-test.true, c.len-b-end.ensures)) c.index.ensures c.is_border.ensures (c.registers_at.ensures code c.requires) c.loop-b.invariant)
