use Rattle.std.proofs.Common.{rules}
use Rattle.hex_image.proofs.LineLemmas.{trailing_text}
use Rattle.hex_image.proofs.reading.check_nothing.Goals as goal

pub returns-else-is_empty : goal.returns-else-is_empty
returns-else-is_empty c = trailing_text c.args.line c.args.rest.now (search rules)
