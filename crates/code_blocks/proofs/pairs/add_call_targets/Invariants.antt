use Rattle.std.proofs.Common.{◌≡◌, ℕ, ◌||◌}
use Rattle.list_checks.specs.Tests.{any_below}
use Rattle.elf_reader.specs.File.{plain_view}
use Rattle.code_blocks.specs.Leaders.{calls}
use Rattle.code_blocks.specs.Early.{has}
use Rattle.code_blocks.proofs.pairs.add_call_targets.Given as goal

abbrev pub invariant-loop-i : goal.invariant-loop-i
invariant-loop-i l =
    (a : ℕ) → has l.addresses.items a ≡ has l.initial.addresses.items a || any_below (calls (plain_view l.file.view.now) a) l.i
