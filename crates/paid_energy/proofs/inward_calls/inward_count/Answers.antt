use Rattle.std.proofs.Common.{◌∙◌, refl, sym}
use Rattle.paid_energy.proofs.inward_calls.inward_count.Goals as goal

pub returns-then-is_inward : goal.returns-then-is_inward
returns-then-is_inward c board names table = let test = sym (c.is_inward.ensures board names table) ∙ c.if-is_inward.true in rw test refl

pub returns-else-is_inward : goal.returns-else-is_inward
returns-else-is_inward c board names table = let test = sym (c.is_inward.ensures board names table) ∙ c.if-is_inward.false in rw test refl
