use Rattle.result_laws.proofs.Falls.{copied_blocks_fall}
use Rattle.result_laws.proofs.copy_laws.copied_blocks_fall.Goals as goal

pub returns : goal.returns
returns c = copied_blocks_fall
