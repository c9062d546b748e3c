use Rattle.patch_code.proofs.Counts.{switch_is_bounded_so}
use Rattle.patch_code.proofs.switch_laws.switch_is_bounded.Goals as goal

pub returns : goal.returns
returns c = switch_is_bounded_so
