use Rattle.std.proofs.Common.{inr}
use Rattle.command_files.proofs.Diagnostics.{memory_prepared}
use Rattle.command_files.proofs.diagnostic.Diagnostic.new.Goals as goal

pub returns-in-Err : goal.returns-in-Err
returns-in-Err c = inr memory_prepared
