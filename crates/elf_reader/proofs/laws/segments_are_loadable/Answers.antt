use Rattle.elf_reader.proofs.SegmentLemmas.{none_of_headers, load_segments_loadable}
use Rattle.elf_reader.proofs.laws.segments_are_loadable.Goals as goal

pub returns : goal.returns
returns c file bytes none = load_segments_loadable file bytes (none_of_headers file none)
