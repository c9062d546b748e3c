use Rattle.flat_machine.proofs.Words.{start_words, step_words, steps_words}
use Rattle.flat_machine.proofs.laws.words_stay.Goals as goal

pub returns : goal.returns
returns c =
    let keeps = c.acts_keeps_words.ensures in
    record { start = start_words; step = step_words keeps; steps = steps_words keeps }
