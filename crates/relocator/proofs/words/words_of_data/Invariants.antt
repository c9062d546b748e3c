use Rattle.relocator.specs.Gathering.{AreOfWords}
use Rattle.relocator.proofs.words.words_of_data.Given as goal

abbrev pub invariant-loop-k : goal.invariant-loop-k
invariant-loop-k l = AreOfWords l.graph l.places l.k l.words.items
