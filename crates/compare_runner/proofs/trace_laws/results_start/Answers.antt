use Rattle.compare_runner.proofs.HomeForms.{no_unit}
use Rattle.compare_runner.proofs.MovedStarts.{moved_is_traced}
use Rattle.compare_runner.proofs.StartLemmas as starts
use Rattle.compare_runner.proofs.UnmovedRuns.{unmoved_is_traced}
use Rattle.compare_runner.proofs.WordsOff.{placed_words_off}
use Rattle.compare_runner.proofs.trace_laws.results_start.Goals as goal

pub returns : goal.returns
returns c = starts.results_start (moved_is_traced placed_words_off) (unmoved_is_traced no_unit)
