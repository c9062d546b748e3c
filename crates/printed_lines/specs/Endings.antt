-- The words that tell how a program's run ended.
use Rattle.std.specs.Prelude.{ℕ, List, [], ◌++◌, codes}
use Rattle.std.specs.Fmt.{decimal}
use Rattle.object_machine.specs.declared.events.Outcome.{Outcome}
use Rattle.object_machine.specs.declared.events.Outcome.TheVariants.{GoesOn, Exited, Trapped, AddressFault}

abbrev pub IsAddressFault : Outcome → Type 0
IsAddressFault GoesOn = ⊥
IsAddressFault (Exited code) = ⊥
IsAddressFault (Trapped pc) = ⊥
IsAddressFault (AddressFault pc why) = Unit {0}

-- the words that tell how a program stands; there are none for one that met an address fault
abbrev pub ending_text : Outcome → List ℕ
ending_text GoesOn = codes "running"
ending_text (Exited code) = codes "exited " ++ decimal code
ending_text (Trapped pc) = codes "trapped"
ending_text (AddressFault pc why) = []
