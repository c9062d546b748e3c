use Rattle.std.proofs.Common.{arith}
use Rattle.elf_reader.specs.File.{plain_view}
use Rattle.object_graph.specs.Graphs.{same_word}
use Rattle.object_graph.specs.Gathered.{is_word_in, word_place}
use Rattle.object_graph.proofs.AlikeLemmas.{word_itself}
use Rattle.object_graph.proofs.GatherLemmas.{gather_more}
use Rattle.object_graph.proofs.SeparateLemmas.{words_separate}
use Rattle.object_graph.proofs.data_words.data_words.Goals as goal

pub loop-i-preserved : goal.loop-i-preserved
loop-i-preserved c =
    let v = plain_view c.args.file.now.view.now in
    let disjoint = words_separate v c.args.ranges.now c.loop-i.i (omega arith) in
    gather_more word_place same_word (is_word_in v c.args.ranges.now) word_itself _ _ c.word_of-word.result c.loop-i.i c.in_ok-push_some.ensures c.loop-i.invariant c.word_of-word.ensures disjoint
