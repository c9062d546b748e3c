use Rattle.patch_code.proofs.FromPads.{pads_lead_so}
use Rattle.patch_code.proofs.stub_laws.pads_lead.Goals as goal

pub returns : goal.returns
returns c = pads_lead_so
