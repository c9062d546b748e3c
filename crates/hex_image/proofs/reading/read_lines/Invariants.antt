use Rattle.std.proofs.Common.{◌≡◌, length}
use Rattle.hex_image.specs.Reading.{lines_of, contents_of, contents_from, fault_from, hex_fault, hex_contents}
use Rattle.hex_image.proofs.reading.read_lines.Given as goal

-- the lines that are left, after what was read, are the whole text
abbrev pub invariant-loop-now : goal.invariant-loop-now
invariant-loop-now l = record {
  fault : fault_from l.line (contents_of l.reading) (lines_of l.rest) ≡ hex_fault l.text;
  contents : contents_from (contents_of l.reading) (lines_of l.rest) ≡ hex_contents l.text;
}

abbrev pub decreases-loop-now : goal.decreases-loop-now
decreases-loop-now l = length l.rest
