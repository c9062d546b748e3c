use Rattle.std.proofs.Common.{List, map, subst, arith, take_all}
use Rattle.std.proofs.lemmas.Result.{err_from_is_err_and}
use Rattle.elf_reader.specs.File.{plain_view}
use Rattle.placement_candidates.specs.FullViews.{plain_full}
use Rattle.placement_candidates.specs.Parts.{plain_part}
use Rattle.relinking.specs.MixOfRuns.{plain_input, AreMixed}
use Rattle.relinking.specs.declared.mixing.WeightedBytes.{WeightedBytes}
use Rattle.relinking.proofs.MixedRuns.{can_add, mixed_more, faults_there, no_memory_first}
use Rattle.relinking.proofs.mixing.mix_of_runs.Goals as goal

pub returns-in-Err-part_of_run-clause-err : goal.returns-in-Err-part_of_run-clause-err
returns-in-Err-part_of_run-clause-err g c =
    let a = c.args.analysis.now in
    let m = c.loop-k.invariant.1 in
    faults_there a.view c.args.board.now a.graph a.code a.regions a.pieces.items c.args.objects.now c.args.inputs.now c.loop-k.k _ m.parts c.in-Err-part_of_run.fault
    c.loop-k-test.true m.are c.in-Err-part_of_run.ensures.err

pub mix_more-requires : goal.mix_more-requires
mix_more-requires g c =
    let a = c.args.analysis.now in
    can_add a.view c.args.board.now a.graph a.code a.regions a.pieces.items c.args.objects.now c.args.inputs.now c.loop-k.k _ (plain_full c.loop-k.total) (plain_part c.in-Ok-part_of_run.part)
    c.loop-k.invariant.0 c.loop-k-test.true c.requires.inputs c.loop-k.invariant.1 c.in-Ok-part_of_run.ensures.ok

pub returns-in_err-total-clause-err : goal.returns-in_err-total-clause-err
returns-in_err-total-clause-err g c =
    let a = c.args.analysis.now in
    let q = err_from_is_err_and c.from_residual.result c.from_residual.ensures.1 in
    rw (q.1, q.2) (no_memory_first (plain_view a.view) c.args.board.now a.graph a.code a.regions (map plain_input c.args.inputs.now) c.requires.inputs)

pub loop-k-preserved : goal.loop-k-preserved
loop-k-preserved g c =
    let a = c.args.analysis.now in
    let some = c.loop-k.invariant.0 in (
      omega (arith, some),
      mixed_more a.view c.args.board.now a.graph a.code a.regions a.pieces.items c.args.objects.now c.args.inputs.now c.loop-k.k _ (plain_full c.loop-k.total) (plain_full c.in_ok-total.total) (plain_part c.in-Ok-part_of_run.part)
          some c.loop-k-test.true c.requires.inputs c.loop-k.invariant.1 c.in-Ok-part_of_run.ensures.ok c.in_ok-total.ensures,
    )

pub returns-clause-ok : goal.returns-clause-ok
returns-clause-ok g c =
    let a = c.args.analysis.now in
    let past = c.loop-k-test.false in
    subst (λ (is : List WeightedBytes). AreMixed a.view c.args.board.now a.graph a.code a.regions a.pieces.items c.args.objects.now (map plain_input is) (plain_full c.loop-k.total))
    (take_all c.loop-k.k c.args.inputs.now (omega (arith, past))) c.loop-k.invariant.1
