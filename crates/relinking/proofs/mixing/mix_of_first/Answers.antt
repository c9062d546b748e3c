use Rattle.std.proofs.Common.{[], List, map, sym, subst}
use Rattle.elf_reader.specs.File.{plain_view}
use Rattle.placement_candidates.specs.FullViews.{plain_full}
use Rattle.placement_candidates.specs.Parts.{plain_part, IsMix, CanMix}
use Rattle.placement_candidates.specs.declared.part.Part.{Part}
use Rattle.relinking.specs.MixOfRuns.{plain_input}
use Rattle.relinking.proofs.MixedRuns.{any_input, mixed_first, first_can_mix, faults_there, no_memory_first}
use Rattle.relinking.proofs.mixing.mix_of_first.Goals as goal

pub returns-in-Err-clause-err : goal.returns-in-Err-clause-err
returns-in-Err-clause-err g c =
    let a = c.args.analysis.now in
    faults_there a.view c.args.board.now a.graph a.code a.regions a.pieces.items c.args.objects.now c.args.inputs.now 0 _ [] c.in-Err.fault
    (any_input c.args.inputs.now c.requires.inputs) tt c.in-Err.ensures.err

pub mix-requires : goal.mix-requires
mix-requires g c =
    let a = c.args.analysis.now in
    subst (λ (ps : List Part). CanMix (map plain_part ps)) (sym c.from_ref.ensures.value)
    (first_can_mix a.view c.args.board.now a.graph a.code a.regions a.pieces.items c.args.objects.now c.args.inputs.now _ (plain_part c.in-Ok.part) (any_input c.args.inputs.now c.requires.inputs) c.requires.inputs c.in-Ok.ensures.ok)

pub returns-in-Ok-mix-clause-ok : goal.returns-in-Ok-mix-clause-ok
returns-in-Ok-mix-clause-ok g c =
    let a = c.args.analysis.now in
    mixed_first a.view c.args.board.now a.graph a.code a.regions a.pieces.items c.args.objects.now c.args.inputs.now _ (plain_part c.in-Ok.part) (plain_full c.in-Ok-mix.full)
    (any_input c.args.inputs.now c.requires.inputs) c.in-Ok.ensures.ok
    (subst (λ (ps : List Part). IsMix (map plain_part ps) (plain_full c.in-Ok-mix.full)) c.from_ref.ensures.value c.in-Ok-mix.ensures)

pub returns-clause-err : goal.returns-clause-err
returns-clause-err g c =
    let a = c.args.analysis.now in
    rw c.from.ensures (no_memory_first (plain_view a.view) c.args.board.now a.graph a.code a.regions (map plain_input c.args.inputs.now) c.requires.inputs)
