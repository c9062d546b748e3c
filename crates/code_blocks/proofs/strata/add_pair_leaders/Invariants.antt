use Rattle.std.proofs.Common.{◌≡◌, ℕ, ◌&&◌, ◌||◌, take}
use Rattle.std.specs.List.{list_any}
use Rattle.elf_reader.specs.File.{plain_view}
use Rattle.loaded_file.specs.Code.{is_code_word}
use Rattle.code_blocks.specs.Early.{has}
use Rattle.code_blocks.specs.PairLeaders.{pair_leads}
use Rattle.code_blocks.proofs.strata.add_pair_leaders.Given as goal

abbrev pub invariant-loop-pair : goal.invariant-loop-pair
invariant-loop-pair l =
    (a : ℕ) → has l.leaders.items a ≡ has l.initial.leaders.items a || is_code_word (plain_view l.file.view.now) a && list_any (pair_leads l.rule (plain_view l.file.view.now) a) (take l.pair-index l.pairs)
