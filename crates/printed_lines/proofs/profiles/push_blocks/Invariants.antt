use Rattle.std.proofs.Common.{◌≡◌, ◌++◌}
use Rattle.code_blocks.specs.Numbers.{starts_of}
use Rattle.printed_lines.specs.ProfileLines.{lines_below, block_line}
use Rattle.printed_lines.specs.Texts.{text_of}
use Rattle.printed_lines.proofs.profiles.push_blocks.Given as goal

abbrev pub invariant-loop-k : goal.invariant-loop-k
invariant-loop-k l = text_of l.text ≡ text_of l.initial.text ++ lines_below (block_line (starts_of l.code) l.profile.arrivals.items) l.k
