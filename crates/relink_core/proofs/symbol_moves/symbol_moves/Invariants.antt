use Rattle.std.proofs.Common.{◌≡◌}
use Rattle.elf_reader.specs.File.{plain_view}
use Rattle.relink_core.specs.Making.{moves_below}
use Rattle.relink_core.proofs.symbol_moves.symbol_moves.Given as goal

abbrev pub invariant-loop-k : goal.invariant-loop-k
invariant-loop-k l = l.moves.items ≡ moves_below (plain_view l.file.view.now) l.graph l.places l.objects l.k
