use Rattle.std.proofs.Common.{option_map}
use Rattle.elf_writer.specs.Parts.{new_segment}
use Rattle.elf_writer.proofs.ViewRead.{result_reads_back}
use Rattle.elf_writer.proofs.writing.write.Goals as goal

pub returns-clause-reads : goal.returns-clause-reads
returns-clause-reads c =
    result_reads_back c.args.base.now c.args.patches.now (option_map (λ s. new_segment s.now) c.args.segment) c.args.moves.now c.write_fitting.result
    c.requires.file c.requires.sound c.requires.writable c.write_fitting.ensures.words c.write_fitting.ensures.bytes
