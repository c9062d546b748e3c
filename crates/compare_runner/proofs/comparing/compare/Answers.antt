use Rattle.elf_reader.specs.File.{plain_view}
use Rattle.object_machine.specs.Program.{program_of}
use Rattle.compare_runner.proofs.comparing.compare.Goals as goal

pub returns-in-Ok : goal.returns-in-Ok
returns-in-Ok c =
    let p = program_of (plain_view c.args.source.now.view) c.args.board.now c.args.source.now.graph in
    c.in-Ok.ensures p c.in_ok-program.ensures.program _ c.in_ok-program.ensures.start
