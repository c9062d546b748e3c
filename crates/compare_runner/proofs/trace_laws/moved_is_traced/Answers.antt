use Rattle.compare_runner.proofs.MovedStarts as starts
use Rattle.compare_runner.proofs.WordsOff.{placed_words_off}
use Rattle.compare_runner.proofs.trace_laws.moved_is_traced.Goals as goal

pub returns : goal.returns
returns c = starts.moved_is_traced placed_words_off
