use Rattle.elf_reader.specs.File.{plain_view}
use Rattle.region_former.proofs.OrderLemmas.{is_orderly}
use Rattle.region_former.proofs.forming.regions.Goals as goal

pub function_regions-requires-clause-orderly : goal.function_regions-requires-clause-orderly
function_regions-requires-clause-orderly c = is_orderly (plain_view c.args.view.now) c.args.code.now c.requires.code

pub table_from-requires-clause-orderly : goal.table_from-requires-clause-orderly
table_from-requires-clause-orderly c = is_orderly (plain_view c.args.view.now) c.args.code.now c.requires.code
