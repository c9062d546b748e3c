use Rattle.std.proofs.Common.{◌≡◌, false}
use Rattle.list_checks.specs.Tests.{any_below}
use Rattle.elf_reader.specs.File.{plain_view}
use Rattle.code_blocks.specs.Words.{passes_in}
use Rattle.code_blocks.specs.Blocks.{is_any}
use Rattle.code_blocks.proofs.texts.has_text.Given as goal

abbrev pub invariant-loop-k : goal.invariant-loop-k
invariant-loop-k l = any_below (passes_in (plain_view l.file.view.now) is_any) l.k ≡ false
