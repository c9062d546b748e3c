use Rattle.std.proofs.Common.{◌≡◌, ◌++◌, drop}
use Rattle.elf_writer.specs.Pieces.{words_bytes}
use Rattle.workload_gen.proofs.generating.bytes_of_words.Given as goal

abbrev pub invariant-loop-word : goal.invariant-loop-word
invariant-loop-word l = l.bytes.items ++ words_bytes (drop l.word-index l.words) ≡ words_bytes l.words
