use Rattle.std.proofs.Common.{◌≡◌, ◌++◌, drop}
use Rattle.elf_writer.specs.Pieces.{words_bytes}
use Rattle.workload_gen.proofs.writing.push_words.Given as goal

abbrev pub invariant-loop-n : goal.invariant-loop-n
invariant-loop-n l = l.out.items ++ words_bytes (drop l.n-index l.numbers) ≡ l.fn.out.items ++ words_bytes l.numbers
