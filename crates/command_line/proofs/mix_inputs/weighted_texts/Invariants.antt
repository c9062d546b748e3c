use Rattle.std.proofs.Common.{◌≡◌, ◌++◌, map, drop}
use Rattle.relinking.specs.MixOfRuns as together
use Rattle.command_language.specs.Lines.{plain_input}
use Rattle.command_line.specs.MixFile.{inputs_of}
use Rattle.command_files.specs.Reading.{contents}
use Rattle.command_line.proofs.mix_inputs.weighted_texts.Given as goal

-- the inputs, and those of the lines and texts that are left, are all
abbrev pub invariant-loop-i : goal.invariant-loop-i
invariant-loop-i l =
    map together.plain_input l.inputs.items ++ inputs_of (map plain_input (drop l.i l.lines)) (contents (drop l.i l.texts))
    ≡ inputs_of (map plain_input l.lines) (contents l.texts)
