use Rattle.std.proofs.Common.{◌≡◌, ℕ, ◌&&◌, ◌||◌}
use Rattle.list_checks.specs.Tests.{any_below}
use Rattle.elf_reader.specs.File.{plain_view}
use Rattle.code_blocks.specs.Leaders.{is_call_by}
use Rattle.code_blocks.specs.Early.{has}
use Rattle.code_blocks.specs.Pairs.{may_be_pair}
use Rattle.code_blocks.proofs.pairs.add_pairs.Given as goal

abbrev pub invariant-loop-i : goal.invariant-loop-i
invariant-loop-i l =
    (p : ℕ) → has l.pairs.items p ≡ has l.initial.pairs.items p || may_be_pair (plain_view l.file.view.now) p && any_below (is_call_by (plain_view l.file.view.now) p) l.i
