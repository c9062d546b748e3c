use Rattle.program_explanations.proofs.Analysed.{is_lawful, one_region_each}
use Rattle.program_explanations.proofs.subject.Subject.profile.Goals as goal

pub profile-requires-clause-regions : goal.profile-requires-clause-regions
profile-requires-clause-regions c = let s = c.args.self.now in one_region_each s.board.now s.analysis.now s.analysed

pub profile-requires-clause-some : goal.profile-requires-clause-some
profile-requires-clause-some c = let s = c.args.self.now in (is_lawful s.board.now s.analysis.now s.analysed).least_steps
