use Rattle.elf_reader.specs.File.{plain_view}
use Rattle.result_laws.specs.ResultLaws.{most_steps}
use Rattle.compare_runner.specs.Tracing.{traced_of}
use Rattle.compare_runner.proofs.TraceLemmas.{starts_same, tells_same}
use Rattle.compare_runner.proofs.tracing.trace.Goals as goal

pub trace_from-requires-clause-program : goal.trace_from-requires-clause-program
trace_from-requires-clause-program c = c.in_ok-source.ensures.program

pub trace_from-requires-clause-starts : goal.trace_from-requires-clause-starts
trace_from-requires-clause-starts c =
    let a = c.args.a.now in
    let w = traced_of (plain_view a.view) c.args.board.now a.graph a.code a.regions c.args.relinked.now.units.now in
    starts_same w (most_steps c.args.board.now) _ _ _ _ c.in_ok-source.ensures.start c.in_ok-flat.ensures c.requires.starts

pub returns-in-Ok : goal.returns-in-Ok
returns-in-Ok c =
    let a = c.args.a.now in
    let v = plain_view a.view in
    let w = traced_of v c.args.board.now a.graph a.code a.regions c.args.relinked.now.units.now in
    tells_same v a.graph.objects.items w c.args.count _ _ _ _ c.in-Ok.text c.in_ok-source.ensures.start c.in_ok-flat.ensures c.in-Ok.ensures
