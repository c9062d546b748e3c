-- Programs whose upper parts are all made by a LUI.
use Rattle.std.specs.Prelude.{None}
use Rattle.object_machine.specs.Program.{Program}

-- a program in which no low part belongs to an AUIPC
abbrev pub unnamed : Program → Program
unnamed p = record p { named = λ a. None }
