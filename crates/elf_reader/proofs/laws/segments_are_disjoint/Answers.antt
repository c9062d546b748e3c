use Rattle.elf_reader.proofs.SegmentLemmas.{none_of_headers, load_segments_disjoint}
use Rattle.elf_reader.proofs.laws.segments_are_disjoint.Goals as goal

pub returns : goal.returns
returns c file none = load_segments_disjoint file (none_of_headers file none)
