use Rattle.cell_values.proofs.EntryLemmas.{none_inside, none_apart}
use Rattle.cell_values.proofs.word_table.WordTable.new.Goals as goal

pub invariant_of-result-clause-inside : goal.invariant_of-result-clause-inside
invariant_of-result-clause-inside g c = none_inside _ _ c.new.ensures

pub invariant_of-result-clause-apart : goal.invariant_of-result-clause-apart
invariant_of-result-clause-apart g c = none_apart _ c.new.ensures
