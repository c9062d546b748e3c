use Rattle.elf_reader.proofs.LoadedLemmas.{loaded_bytes}
use Rattle.elf_reader.proofs.laws.loaded_bytes.Goals as goal

pub returns : goal.returns
returns c = loaded_bytes
