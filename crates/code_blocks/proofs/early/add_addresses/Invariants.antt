use Rattle.std.proofs.Common.{◌≡◌, ℕ, ◌&&◌, ◌||◌}
use Rattle.list_checks.specs.Tests.{any_below}
use Rattle.elf_reader.specs.File.{plain_view}
use Rattle.loaded_file.specs.Code.{is_code_word}
use Rattle.code_blocks.specs.Leaders.{makes_address}
use Rattle.code_blocks.specs.Early.{has}
use Rattle.code_blocks.proofs.early.add_addresses.Given as goal

abbrev pub invariant-loop-i : goal.invariant-loop-i
invariant-loop-i l =
    (a : ℕ) → has l.leaders.items a ≡ has l.initial.leaders.items a || is_code_word (plain_view l.file.view.now) a && any_below (makes_address (plain_view l.file.view.now) a) l.i
