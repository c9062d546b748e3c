use Rattle.std.proofs.Common.{refl}
use Rattle.elf_reader.specs.File.{plain_view}
use Rattle.object_machine.specs.Program.{program_of}
use Rattle.object_machine.specs.Machine.{state_of}
use Rattle.result_laws.specs.ResultLaws.{most_steps}
use Rattle.compare_runner.specs.Stepping.{traced_by}
use Rattle.compare_runner.proofs.TraceLemmas.{tells, starts_there, first_place}
use Rattle.compare_runner.proofs.tracing.trace_from.Goals as goal

pub find_first-requires-clause-starts : goal.find_first-requires-clause-starts
find_first-requires-clause-starts g c =
    let of = c.args.of.now in
    let p = program_of (plain_view of.view.now) of.board.now of.graph.now in
    let w = traced_by p of in
    let s = state_of p c.args.source.now in
    let here = first_place w c.region_behind-region.result c.at-home.result _ s refl (c.at-home.ensures p) c.region_behind-region.ensures in
    starts_there w (most_steps of.board.now) c.region_behind-region.result c.at-home.result s _ _ here.0 here.1 refl c.requires.starts

pub returns : goal.returns
returns g c =
    let of = c.args.of.now in
    let v = plain_view of.view.now in
    let p = program_of v of.board.now of.graph.now in
    let w = traced_by p of in
    let s = state_of p c.args.source.now in
    let here = first_place w c.region_behind-region.result c.at-home.result _ s refl (c.at-home.ensures p) c.region_behind-region.ensures in
    let traced = c.in_ok-traced.ensures p c.requires.program in
    tells v of.graph.now.objects.items w c.args.count s _ c.region_behind-region.result c.at-home.result c.in_ok-start.start s _ _ c.in_ok-bytes.bytes.items _
    here.0 here.1 refl refl c.in_ok-start.ensures c.in_ok-bytes.ensures
    (record { steps = traced.0; traces = traced.1.0; text_is = traced.1.1 })
