use Rattle.patch_code.proofs.Ranges.{checking_in_range_so}
use Rattle.patch_code.proofs.switch_laws.checking_in_range.Goals as goal

pub returns : goal.returns
returns c = checking_in_range_so
