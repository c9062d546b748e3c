use Rattle.std.proofs.Common.{replicate}
use Rattle.cell_values.specs.declared.values.Val.TheVariants.{Int}
use Rattle.object_machine.proofs.RegisterLemmas.{zeros_held}
use Rattle.object_machine.proofs.register_file.RegisterFile.new.Goals as goal

pub returns : goal.returns
returns c = zeros_held (replicate 32 (Int 0)) 32
