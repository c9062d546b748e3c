use Rattle.std.proofs.Common.{take}
use Rattle.std.specs.List.{flat_map}
use Rattle.shelf_io.specs.Sink.{PutAll}
use Rattle.printed_lines.specs.Texts.{part_of}
use Rattle.command_files.proofs.printing.put_text.Given as goal

abbrev pub invariant-loop-part : goal.invariant-loop-part
invariant-loop-part g l = PutAll (flat_map part_of (take l.part-index l.text.parts.items)) (g.K.Sink.view l.initial.out) (g.K.Sink.view l.out)
