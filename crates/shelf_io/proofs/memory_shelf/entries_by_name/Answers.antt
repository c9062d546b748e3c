use Rattle.std.proofs.Common.{arith}
use Rattle.std.proofs.lemmas.Map.Text.{text_keys}
use Rattle.shelf_io.proofs.Entries.{content_of-append}
use Rattle.shelf_io.proofs.memory_shelf.entries_by_name.Goals as goal

pub loop-name-preserved-in_ok-insert : goal.loop-name-preserved-in_ok-insert
loop-name-preserved-in_ok-insert c = λ name. grind (arith, text_keys, content_of-append, c.loop-name.invariant name)

pub loop-name-preserved : goal.loop-name-preserved
loop-name-preserved c = λ name. grind (arith, text_keys, content_of-append, c.loop-name.invariant name)
