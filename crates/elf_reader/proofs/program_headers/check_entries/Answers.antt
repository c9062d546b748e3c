use Rattle.std.proofs.Common.{rules}
use Rattle.elf_reader.proofs.SegmentLemmas.{segments_held}
use Rattle.elf_reader.proofs.program_headers.check_entries.Goals as goal

pub returns-clause-segments : goal.returns-clause-segments
returns-clause-segments c = segments_held c.args.bytes.now (search rules)
