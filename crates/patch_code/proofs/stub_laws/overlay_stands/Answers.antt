use Rattle.patch_code.proofs.WholePlaces.{overlay_stands_so}
use Rattle.patch_code.proofs.stub_laws.overlay_stands.Goals as goal

pub returns : goal.returns
returns c = overlay_stands_so
