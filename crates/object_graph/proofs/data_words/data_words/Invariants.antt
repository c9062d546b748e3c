use Rattle.elf_reader.specs.File.{plain_view}
use Rattle.object_graph.specs.Graphs.{same_word}
use Rattle.object_graph.specs.Gathered.{is_word_in, word_place}
use Rattle.object_graph.proofs.GatherLemmas.{HasGathered}
use Rattle.object_graph.proofs.data_words.data_words.Given as goal

abbrev pub invariant-loop-i : goal.invariant-loop-i
invariant-loop-i l = HasGathered word_place same_word (is_word_in (plain_view l.file.view.now) l.ranges) l.words.items l.i
