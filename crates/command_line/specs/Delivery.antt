-- What is left to do once the result of a command stands ready, and what it leaves.
use Rattle.std.specs.Prelude.{◌≡◌}
use Rattle.shelf_io.specs.Shelf.{ShelfView}
use Rattle.shelf_io.specs.Sink.{SinkView, PutAll, PutSome}
use Rattle.printed_lines.specs.Texts.{text_of}
use Rattle.command_files.specs.Writing.{SetsPrepared, FailsToWrite}
use Rattle.command_files.specs.declared.diagnostic.Diagnostic.{Diagnostic}
use Rattle.command_line.specs.declared.delivery.PreparedResult.{PreparedResult}

-- the outputs were written and the text printed
pub record DeliversAll (prepared : PreparedResult) (old new : ShelfView) (sink sink' : SinkView) : Type 0 where
  pub set : SetsPrepared prepared.outputs.items old new
  pub printed : PutAll (text_of prepared.text) sink sink'

-- a step failed: a write, the memory for one, or the print
pub data FailsToDeliver (prepared : PreparedResult) (old new : ShelfView) (sink mid : SinkView) (r : Diagnostic) : Type 0 where
  writing_fails : FailsToWrite prepared.outputs.items old new r → mid ≡ sink → FailsToDeliver prepared old new sink mid r
  print_fails : r ≡ prepared.print_fault → SetsPrepared prepared.outputs.items old new
      → PutSome (text_of prepared.text) sink mid → FailsToDeliver prepared old new sink mid r
