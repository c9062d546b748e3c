use Rattle.std.proofs.Common.{◌≡◌, ◌≤◌, ◌-◌, ◌++◌, length, map}
use Rattle.command_language.specs.Lines.{text_lines, broken_from, broken_at, mix_lines, plain_input, names_of}
use Rattle.command_language.proofs.reading.read_mix.Given as goal

-- the lines that are left, behind those that were read, are the whole text
abbrev pub invariant-loop-rest : goal.invariant-loop-rest
invariant-loop-rest l = record {
  within : length l.rest ≤ length l.text;
  some : length l.rest ≡ 0 → 1 ≤ length l.inputs.items;
  broken : broken_from (names_of l.written) (length l.inputs.items) (length l.text - length l.rest) (text_lines l.rest) ≡ broken_at (names_of l.written) l.text;
  lists : map plain_input l.inputs.items ++ mix_lines l.rest ≡ mix_lines l.text;
}

abbrev pub decreases-loop-rest : goal.decreases-loop-rest
decreases-loop-rest l = length l.rest
