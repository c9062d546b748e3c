use Rattle.paid_energy.proofs.Leads.{units_lead}
use Rattle.paid_energy.proofs.walk_laws.units_lead.Goals as goal

pub returns : goal.returns
returns c = units_lead
