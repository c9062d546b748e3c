use Rattle.std.proofs.Common.{◌≡◌, ℕ, ◌+◌, ◌/◌, ◌&&◌, ◌||◌, subst, arith}
use Rattle.list_checks.specs.Tests.{any_below}
use Rattle.elf_reader.specs.File.{plain_view}
use Rattle.elf_reader.specs.Loaded.{section_at}
use Rattle.loaded_file.specs.Code.{is_code_word}
use Rattle.code_blocks.specs.Words.{passes_at}
use Rattle.code_blocks.specs.Early.{has}
use Rattle.code_blocks.specs.Flow.{leads_by}
use Rattle.code_blocks.proofs.EarlyLemmas.{place_more}
use Rattle.code_blocks.proofs.flow.add_words.Goals as goal

pub loop-i-preserved : goal.loop-i-preserved
loop-i-preserved c a =
    let v = plain_view c.args.file.now.view.now in
    place_more _ _ _ _ (passes_at v (leads_by c.args.rule v a) c.args.k) c.loop-i.i (c.loop-i.invariant a) (c.in_ok-add_word.ensures a)

pub returns : goal.returns
returns c a =
    let v = plain_view c.args.file.now.view.now in
    let all : c.loop-i.i ≡ (section_at v c.args.k).size / 4 + 1 = omega arith in
    subst (λ (n : ℕ). has c.loop-i.leaders.items a ≡ has c.args.leaders.now.items a || is_code_word v a && any_below (passes_at v (leads_by c.args.rule v a) c.args.k) n) all (c.loop-i.invariant a)
