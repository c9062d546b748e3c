use Rattle.patch_code.proofs.Checked.{stub_passes_so}
use Rattle.patch_code.proofs.switch_laws.stub_passes.Goals as goal

pub returns : goal.returns
returns c = stub_passes_so
