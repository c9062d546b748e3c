use Rattle.std.proofs.Common.{◌≡◌, map, take}
use Rattle.command_language.specs.Command.{plain_named}
use Rattle.command_language.specs.Lines.{plain_input}
use Rattle.command_line.specs.Listing.{listed_name}
use Rattle.command_line.proofs.mix_inputs.names_of_lines.Given as goal

abbrev pub invariant-loop-line : goal.invariant-loop-line
invariant-loop-line l = map plain_named l.names.items ≡ map listed_name (map plain_input (take l.line-index l.lines))
