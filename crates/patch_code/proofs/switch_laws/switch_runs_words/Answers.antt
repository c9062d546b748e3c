use Rattle.patch_code.proofs.Counts.{switch_runs_words_so}
use Rattle.patch_code.proofs.switch_laws.switch_runs_words.Goals as goal

pub returns : goal.returns
returns c = switch_runs_words_so
