use Rattle.std.proofs.Common.{◌≡◌, map, take}
use Rattle.command_language.specs.Command.{plain_named}
use Rattle.command_files.specs.Reading.{contents, HoldsAll}
use Rattle.command_files.proofs.reading.read_all.Given as goal

abbrev pub invariant-loop-named : goal.invariant-loop-named
invariant-loop-named g l = record {
  held : HoldsAll (g.S.Shelf.view l.initial.shelf) (map plain_named (take l.named-index l.names)) (contents l.texts.items);
  same : g.S.Shelf.view l.shelf ≡ g.S.Shelf.view l.initial.shelf;
}
