use Rattle.patch_code.proofs.Checked.{stub_switches_so}
use Rattle.patch_code.proofs.switch_laws.stub_switches.Goals as goal

pub returns : goal.returns
returns c = stub_switches_so
