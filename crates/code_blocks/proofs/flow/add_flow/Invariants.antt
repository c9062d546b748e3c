use Rattle.std.proofs.Common.{◌≡◌, ℕ, ◌&&◌, ◌||◌}
use Rattle.list_checks.specs.Tests.{any_below}
use Rattle.elf_reader.specs.File.{plain_view}
use Rattle.loaded_file.specs.Code.{is_code_word}
use Rattle.code_blocks.specs.Words.{passes_in}
use Rattle.code_blocks.specs.Early.{has}
use Rattle.code_blocks.specs.Flow.{leads_by}
use Rattle.code_blocks.proofs.flow.add_flow.Given as goal

abbrev pub invariant-loop-k : goal.invariant-loop-k
invariant-loop-k l =
    (a : ℕ) → has l.leaders.items a ≡ has l.initial.leaders.items a || is_code_word (plain_view l.file.view.now) a && any_below (passes_in (plain_view l.file.view.now) (leads_by l.rule (plain_view l.file.view.now) a)) l.k
