use Rattle.elf_reader.specs.File.{plain_view}
use Rattle.loaded_file.proofs.WordLemmas.{code_content}
use Rattle.loaded_file.proofs.code_words.word_in.Goals as goal

pub content_word-requires-clause-has : goal.content_word-requires-clause-has
content_word-requires-clause-has c = code_content (plain_view c.args.view.now) c.args.k c.args.address c.requires.holds
