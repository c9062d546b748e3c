use Rattle.patch_code.proofs.Places.{parts_stand_so}
use Rattle.patch_code.proofs.stub_laws.parts_stand.Goals as goal

pub returns : goal.returns
returns c = parts_stand_so
