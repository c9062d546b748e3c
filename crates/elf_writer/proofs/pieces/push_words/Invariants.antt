use Rattle.std.proofs.Common.{◌≡◌, ◌++◌, drop}
use Rattle.elf_writer.specs.Pieces.{words_bytes}
use Rattle.elf_writer.proofs.pieces.push_words.Given as goal

abbrev pub invariant-loop-word : goal.invariant-loop-word
invariant-loop-word l =
    l.out.items ++ words_bytes (drop l.word-index l.words) ≡ l.fn.out.items ++ words_bytes l.words
